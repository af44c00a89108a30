use Rattle.std.proofs.Common.{◌≡◌, ◌==◌, false, sym, ◌∙◌, subst, arith}
use Rattle.std.proofs.lemmas.Bool.Decides.{nat_tests}
use Rattle.granit_input.proofs.OriginLemmas.{goes_on}
use Rattle.granit_lexemes.specs.Here.{Here, next_char, step}
use Rattle.granit_cursor.specs.Reading.{Stands}
use Rattle.granit_block.proofs.SpaceLemmas.{over_space, no_more_spaces}
use Rattle.granit_block.proofs.spaces.past_spaces.Goals as goal

pub spaces-preserved : goal.spaces-preserved
spaces-preserved g c =
    let kept = c.spaces.invariant.moves in
    record {
      told = λ h k.
          let told = c.spaces.invariant.told h k in
          let seen : c.peek.result ≡ next_char told.0 = c.peek.ensures.value told.0.unread
          (rw c.input.ensures told.1.0) in
          let y : next_char told.0 ≡ 0x20 = grind (arith, nat_tests, seen, c.spaces-test.true) in (
            step told.0,
            c.look-in-spaces.ensures.here (step told.0) (c.step.ensures.here told.0 told.1),
            over_space
                told.0 y ∙ told.2,
          );
      window = omega (arith, c.look-in-spaces.ensures.window);
      moves = (
        omega (arith, kept.0, c.step.ensures.moves.0, c.look-in-spaces.ensures.moves.0),
        goes_on _ _ _ kept.1 (goes_on _ _ _ c.step.ensures.moves.1 c.look-in-spaces.ensures.moves.1),
        λ start before. c.look-in-spaces.ensures.moves.2 start (c.step.ensures.moves.2 start (kept.2 start before)),
      );
    }

pub returns-clause-here : goal.returns-clause-here
returns-clause-here g c = λ h k.
    let told = c.spaces.invariant.told h k in
    let seen : c.peek.result ≡ next_char told.0 = c.peek.ensures.value told.0.unread (rw c.input.ensures told.1.0) in
    let n : (next_char told.0 == 0x20) ≡ false = grind (arith, nat_tests, seen, c.spaces-test.false) in
    subst (λ (now : Here). Stands g.T.Input.unread c.spaces.cursor now) (sym (no_more_spaces told.0 n) ∙ told.2) told.1
