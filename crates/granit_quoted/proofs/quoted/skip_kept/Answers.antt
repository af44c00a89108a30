use Rattle.std.proofs.Common.{◌≡◌, ◌+◌, ◌<◌, ◌==◌, true, subst, arith}
use Rattle.std.proofs.lemmas.Bool.{eqb-true}
use Rattle.std.proofs.lemmas.Bool.Decides.{nat_tests}
use Rattle.granit_input.proofs.OriginLemmas.{goes_nowhere, goes_on}
use Rattle.granit_lexemes.specs.Here.{Here}
use Rattle.granit_lexemes.specs.Moves.{steps}
use Rattle.granit_cursor.specs.Reading.{Stands}
use Rattle.granit_runs.specs.Runs.{run_length, starts}
use Rattle.granit_lexemes.specs.QuotedScalar.{is_kept}
use Rattle.granit_quoted.proofs.KeptLemmas.{stands_none, run_none, run_goes, run_whole, steps_thrice}
use Rattle.granit_quoted.proofs.quoted.skip_kept.Goals as goal

pub kept-init : goal.kept-init
kept-init g c = record {
  told = λ h k. (0, stands_none g.T.Input.unread c.args.cursor.now h k, run_none c.args.single h);
  moves = (omega arith, goes_nowhere _, λ start before. before);
}

pub returns-then-blanks-eq0-clause-here : goal.returns-then-blanks-eq0-clause-here
returns-then-blanks-eq0-clause-here g c = λ h k.
    let told = c.kept.invariant.told h k in
    let content = c.skip_quoted_words.ensures.here (steps told.0 h) told.1 in
    let a = c.skip_quoted_words.result in
    let blanks = c.skip_while_blank-blanks.ensures.here (steps a (steps told.0 h)) content.1 in
    let b = c.skip_while_blank-blanks.result in
    let stops : (b == 0) ≡ true = grind (arith, nat_tests, c.if-blanks-eq0.true) in
    let none = eqb-true b 0 stops in (
      told.0 + a + b,
      (
        run_whole c.args.single h told.0 a b told.2 content.0 blanks.0 none,
        subst (Stands g.T.Input.unread c.skip_while_blank-blanks.new.self) (steps_thrice told.0 a b h) blanks.1,
      ),
    )

pub returns-then-blanks-eq0-clause-moves : goal.returns-then-blanks-eq0-clause-moves
returns-then-blanks-eq0-clause-moves g c =
    let kept = c.kept.invariant.moves in
    let a = c.skip_quoted_words.ensures.moves in
    let b = c.skip_while_blank-blanks.ensures.moves in (
      omega (arith, kept.0, a.0, b.0),
      goes_on _ _ _ kept.1 (goes_on _ _ _ a.1 b.1),
      λ start before. b.2 start (a.2 start (kept.2 start before)),
    )

pub kept-smaller : goal.kept-smaller
kept-smaller g c =
    let some : 0 < c.skip_while_blank-blanks.result = grind (arith, nat_tests, c.if-blanks-eq0.false) in
    omega (arith, some, c.skip_quoted_words.ensures.takes.0, c.skip_while_blank-blanks.ensures.takes.0)

pub kept-preserved : goal.kept-preserved
kept-preserved g c =
    let kept = c.kept.invariant.moves in
    let m = c.skip_quoted_words.ensures.moves in
    let n = c.skip_while_blank-blanks.ensures.moves in
    record {
      told = λ h k.
          let told = c.kept.invariant.told h k in
          let content = c.skip_quoted_words.ensures.here (steps told.0 h) told.1 in
          let a = c.skip_quoted_words.result in
          let blanks = c.skip_while_blank-blanks.ensures.here (steps a (steps told.0 h)) content.1 in
          let b = c.skip_while_blank-blanks.result in (
            told.0 + a + b,
            subst (Stands g.T.Input.unread c.skip_while_blank-blanks.new.self) (steps_thrice told.0 a b h) blanks.1,
            subst (λ (i : Here). run_length (starts (is_kept c.args.single)) h.unread.text
                ≡ (told.0 + a + b) + run_length (starts (is_kept c.args.single)) i.unread.text)
                (steps_thrice told.0 a b h) (run_goes c.args.single h told.0 a b told.2 content.0 blanks.0),
          );
      moves = (
        omega (arith, kept.0, m.0, n.0),
        goes_on _ _ _ kept.1 (goes_on _ _ _ m.1 n.1),
        λ start before. n.2 start (m.2 start (kept.2 start before)),
      );
    }
