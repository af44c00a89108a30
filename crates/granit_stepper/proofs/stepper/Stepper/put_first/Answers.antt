use Rattle.granit_event.specs.Events.{plain_event}
use Rattle.granit_stepper.proofs.GatherLemmas.{event_put}
use Rattle.granit_stepper.proofs.stepper.Stepper.put_first.Goals as goal

pub returns-clause-known : goal.returns-clause-known
returns-clause-known g c = λ m at. event_put g.T.Input.unread c.tell_start.new.self c.put_event.new.self
    (plain_event c.args.event) m c.in_ok-tell_start.ensures.first c.in_ok-put_event.ensures.put
    (c.in_ok-tell_start.ensures.known m at)
