use Rattle.std.proofs.Common.{length}
use Rattle.granit_stepper.proofs.gathering.clear_events.Given as goal

abbrev pub invariant-events : goal.invariant-events
invariant-events l = Unit {0}

abbrev pub decreases-events : goal.decreases-events
decreases-events l = length l.events.items
