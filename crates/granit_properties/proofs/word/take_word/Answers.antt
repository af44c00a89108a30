use Rattle.std.proofs.Common.{◌≡◌, ◌<◌, true, false, refl, sym, ap, ◌∙◌, arith}
use Rattle.granit_base.specs.Written.{string_chars}
use Rattle.granit_input.proofs.OriginLemmas.{goes_nowhere, goes_on}
use Rattle.granit_lexemes.specs.Here.{next_char, step, past}
use Rattle.granit_properties.specs.WordCode.{word_test}
use Rattle.granit_properties.proofs.WordLemmas.{no_nul, some_char, run_on, run_ends, word_on, word_ends}
use Rattle.granit_properties.proofs.word.take_word.Goals as goal

pub word-init : goal.word-init
word-init g c = record {
  told = λ h k. (h, k, refl, refl);
  moves = (omega arith, goes_nowhere _, λ start before. before);
}

pub returns-then-not-takes-clause-here : goal.returns-then-not-takes-clause-here
returns-then-not-takes-clause-here g c = λ h k.
    let told = c.word.invariant.told h k in
    let looked = c.look.ensures.here told.0 told.1 in
    let seen : c.peek-c.result ≡ next_char told.0 = c.peek-c.ensures.value told.0.unread
    (rw c.input.ensures looked.0) in
    let none : word_test c.args.word (next_char told.0) ≡ false = ap (word_test c.args.word) (sym seen)
    ∙ sym c.takes.ensures ∙ c.if-not-takes.true in
    let there : past (word_test c.args.word) h ≡ told.0 = sym told.2
    ∙ (run_ends (word_test c.args.word) told.0 none).0 in (
      rw there looked,
      word_ends (word_test c.args.word) h told.0 (string_chars c.args.out.now) (string_chars c.word.out)
          none told.3,
    )

pub returns-then-not-takes-clause-moves : goal.returns-then-not-takes-clause-moves
returns-then-not-takes-clause-moves g c =
    let kept = c.word.invariant.moves in (
      omega (arith, kept.0, c.look.ensures.moves.0),
      goes_on _ _ _ kept.1 c.look.ensures.moves.1,
      λ start before. c.look.ensures.moves.2 start (kept.2 start before),
    )

pub returns-in_err-push_char-clause-moves : goal.returns-in_err-push_char-clause-moves
returns-in_err-push_char-clause-moves g c =
    let kept = c.word.invariant.moves in (
      omega (arith, kept.0, c.look.ensures.moves.0),
      goes_on _ _ _ kept.1 c.look.ensures.moves.1,
      λ start before. c.look.ensures.moves.2 start (kept.2 start before),
    )

pub word-smaller : goal.word-smaller
word-smaller g c =
    let some = c.peek-c.ensures.some (some_char c.args.word c.peek-c.result
    (sym c.takes.ensures ∙ c.if-not-takes.false)) in
    let there : 0 < g.T.Input.left c.look.new.self.input = rw (← c.input.ensures) some in
    omega (arith, there, c.look.ensures.moves.0, c.step.ensures.left)

pub word-preserved : goal.word-preserved
word-preserved g c =
    let kept = c.word.invariant.moves in
    let w = c.args.word in
    record {
      told = λ h k.
          let told = c.word.invariant.told h k in
          let looked = c.look.ensures.here told.0 told.1 in
          let seen : c.peek-c.result ≡ next_char told.0 = c.peek-c.ensures.value told.0.unread
          (rw c.input.ensures looked.0) in
          let some : word_test w (next_char told.0) ≡ true = ap (word_test w) (sym seen) ∙ sym c.takes.ensures
          ∙ c.if-not-takes.false in (
            step told.0,
            c.step.ensures.here told.0 looked,
            (run_on (word_test w) told.0 (no_nul w) some).0 ∙ told.2,
            word_on (word_test w) h told.0 (string_chars c.args.out.now) (string_chars c.word.out) _ (no_nul w) some
                (rw seen at c.in_ok-push_char.ensures.appended) told.3,
          );
      moves = (
        omega (arith, kept.0, c.look.ensures.moves.0, c.step.ensures.moves.0),
        goes_on _ _ _ kept.1
            (goes_on _ _ _ c.look.ensures.moves.1 c.step.ensures.moves.1),
        λ start before. c.step.ensures.moves.2 start (c.look.ensures.moves.2 start (kept.2 start before)),
      );
    }
