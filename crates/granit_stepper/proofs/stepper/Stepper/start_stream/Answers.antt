use Rattle.std.proofs.Common.{refl}
use Rattle.granit_event.specs.declared.event.Event.TheVariants as events
use Rattle.granit_stepper.proofs.stepper.Stepper.start_stream.Goals as goal

pub returns-clause-told : goal.returns-clause-told
returns-clause-told g c = ((events.StreamStart, c.empty.result), refl, rw c.empty.ensures refl)
