use Rattle.std.proofs.Common.{◌≡◌, subst, ◌∙◌}
use Rattle.granit_error.specs.FaultKind.{NoMemory}
use Rattle.granit_error.specs.Refused.{Refused}
use Rattle.granit_stepper.proofs.stepper.Stepper.fail_by.Goals as goal

pub returns-clause-told : goal.returns-clause-told
returns-clause-told g c = c.refuse.ensures.told ∙ c.take_fault-error.ensures

pub returns-clause-lost : goal.returns-clause-lost
returns-clause-lost g c = λ starved.
    c.fail.ensures.lost (subst (λ (e : Refused). e.kind ≡ NoMemory) c.refuse.ensures.told starved)
