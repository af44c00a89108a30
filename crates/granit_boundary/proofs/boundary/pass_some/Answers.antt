use Rattle.std.proofs.Common.{sym, subst, ◌∙◌}
use Rattle.granit_boundary.specs.Found.{FoundAs}
use Rattle.granit_boundary.specs.declared.boundary.Boundary.TheVariants.{TextEnd}
use Rattle.granit_boundary.proofs.PassLemmas.{at_end}
use Rattle.granit_cursor.specs.Reading.{Stands}
use Rattle.granit_restart.specs.Boundary.{Boundary}
use Rattle.granit_boundary.proofs.boundary.pass_some.Goals as goal

pub returns-then-next_is_z-clause-here : goal.returns-then-next_is_z-clause-here
returns-then-next_is_z-clause-here g c = λ h k.
    let there = c.look.ensures.here h k in
    let none = sym (c.next_is_z.ensures.value h.unread
    (subst (λ x. g.T.Input.unread x h.unread) (sym c.input.ensures) there.0)) ∙ c.if-next_is_z.true in
    subst (λ (b : Boundary). FoundAs (Stands g.T.Input.unread c.look.new.self) TextEnd b)
    (sym (at_end h none)) there
