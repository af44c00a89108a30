use Rattle.std.proofs.Common.{◌≡◌, ◌==◌, ◌<◌, ◌≤◌, false, sym, ap, ◌∙◌, subst, arith}
use Rattle.std.proofs.lemmas.Bool.Decides.{nat_tests}
use Rattle.granit_base.specs.Place.{Mark}
use Rattle.granit_input.proofs.OriginLemmas.{goes_on}
use Rattle.granit_lexemes.specs.Here.{Here, next_char, step}
use Rattle.granit_cursor.specs.Reading.{Stands}
use Rattle.granit_block.proofs.SpaceLemmas.{indent_goes, indent_stops, indent_ends}
use Rattle.granit_block.proofs.spaces.indent.Goals as goal

pub spaces-preserved : goal.spaces-preserved
spaces-preserved g c =
    let kept = c.spaces.invariant.moves in
    record {
      told = λ h k.
          let told = c.spaces.invariant.told h k in
          let seen : c.peek.result ≡ next_char told.0 = c.peek.ensures.value told.0.unread
          (rw c.input.ensures told.1.0) in
          let y : next_char told.0 ≡ 0x20 = grind (arith, nat_tests, seen, c.if-peek-eq32.true) in
          let col : c.col.result ≡ told.0.place.column = c.col.ensures
          ∙ ap (λ (m : Mark). m.place.column) (c.mark.ensures.here told.0 told.1) in
          let left : told.0.place.column < c.args.column = omega (arith, col, c.spaces-test.true) in (
            step told.0,
            c.look-in-spaces.ensures.here (step told.0) (c.step.ensures.here told.0 told.1),
            indent_goes
                c.args.column told.0 left y ∙ told.2,
          );
      window = omega (arith, c.look-in-spaces.ensures.window);
      moves = (
        omega (arith, kept.0, c.step.ensures.moves.0, c.look-in-spaces.ensures.moves.0),
        goes_on _ _ _ kept.1 (goes_on _ _ _ c.step.ensures.moves.1 c.look-in-spaces.ensures.moves.1),
        λ start before. c.look-in-spaces.ensures.moves.2 start (c.step.ensures.moves.2 start (kept.2 start before)),
      );
    }

pub returns-else-peek-eq32-clause-here : goal.returns-else-peek-eq32-clause-here
returns-else-peek-eq32-clause-here g c = λ h k.
    let told = c.spaces.invariant.told h k in
    let seen : c.peek.result ≡ next_char told.0 = c.peek.ensures.value told.0.unread (rw c.input.ensures told.1.0) in
    let n : (next_char told.0 == 0x20) ≡ false = grind (arith, nat_tests, seen, c.if-peek-eq32.false) in
    subst (λ (now : Here). Stands g.T.Input.unread c.spaces.cursor now)
    (sym (indent_ends c.args.column told.0 n) ∙ told.2) told.1

pub returns-after-spaces-clause-here : goal.returns-after-spaces-clause-here
returns-after-spaces-clause-here g c = λ h k.
    let told = c.spaces.invariant.told h k in
    let col : c.col.result ≡ told.0.place.column = c.col.ensures
    ∙ ap (λ (m : Mark). m.place.column) (c.mark.ensures.here told.0 told.1) in
    let right : c.args.column ≤ told.0.place.column = omega (arith, col, c.spaces-test.false) in
    subst (λ (now : Here). Stands g.T.Input.unread c.spaces.cursor now)
    (sym (indent_stops c.args.column told.0 right) ∙ told.2) told.1
