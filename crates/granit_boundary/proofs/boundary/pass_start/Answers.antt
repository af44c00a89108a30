use Rattle.std.proofs.Common.{◌≡◌, sym, ap, subst, ◌∙◌}
use Rattle.granit_boundary.specs.Found.{FoundAs}
use Rattle.granit_boundary.specs.declared.boundary.Boundary.TheVariants.{Start}
use Rattle.granit_boundary.proofs.PassLemmas.{start_found, start_passed}
use Rattle.granit_cursor.specs.Reading.{Stands}
use Rattle.granit_lexemes.specs.Moves.{steps}
use Rattle.granit_restart.specs.Boundary.{Boundary}
use Rattle.granit_boundary.proofs.boundary.pass_start.Goals as goal

pub returns-then-is_separated-clause-here : goal.returns-then-is_separated-clause-here
returns-then-is_separated-clause-here g c = λ h k.
    let there = c.pass_three.ensures.here h k in
    let column : h.place.column ≡ 0 = ap (λ p. p.column) k.1 ∙ c.requires.column in
    let separated = sym (c.is_separated.ensures.value (steps 3 h) there) ∙ c.if-is_separated.true in
    subst (λ (b : Boundary). FoundAs (Stands g.T.Input.unread c.is_separated.new.cursor)
    (Start c.mark-mark.result c.begins_line-begins_line.result) b)
    (sym (start_found h column (c.requires.text h k) separated)) (
      c.mark-mark.ensures.here h k,
      c.begins_line-begins_line.ensures ∙ sym k.2,
      c.is_separated.ensures.here (steps 3 h) there,
    )

pub returns-else-is_separated-clause-here : goal.returns-else-is_separated-clause-here
returns-else-is_separated-clause-here g c = λ h k.
    let there = c.pass_three.ensures.here h k in
    let column : h.place.column ≡ 0 = ap (λ p. p.column) k.1 ∙ c.requires.column in
    let separated = sym (c.is_separated.ensures.value (steps 3 h) there) ∙ c.if-is_separated.false in (
      steps 3 h,
      c.is_separated.ensures.here (steps 3 h) there,
      start_passed h column (c.requires.text h k) separated,
    )
