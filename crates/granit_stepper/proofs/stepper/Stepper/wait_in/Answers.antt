use Rattle.std.proofs.Common.{sym, subst}
use Rattle.granit_stepper.proofs.stepper.Stepper.wait_in.Goals as goal
use Rattle.granit_stepper.specs.Stepping.{Stepping, StandsIn}

pub returns-clause-known : goal.returns-clause-known
returns-clause-known g c = λ m at. subst (λ (s : Stepping _). StandsIn g.T.Input.unread s m)
    (sym c.in_ok-put_given.ensures.same) (c.in_ok-tell_start.ensures.known m at)
