use Rattle.granit_event.specs.Events.{plain_events}
use Rattle.granit_load.proofs.GatherLemmas.{given_out, numbers_left, refused_late}
use Rattle.granit_load.proofs.load.gather.Goals as goal

pub returns-in-Ok-clause-known : goal.returns-in-Ok-clause-known
returns-in-Ok-clause-known g c = λ m at. given_out c.args.parser.now.stepper.scanner.options m
    (plain_events c.in-Ok.items.items) (c.in-Ok.ensures.known m at)

pub returns-in-Ok-clause-numbers : goal.returns-in-Ok-clause-numbers
returns-in-Ok-clause-numbers g c = λ m at. numbers_left c.args.parser.now.stepper.scanner.options m
    (plain_events c.in-Ok.items.items) (c.in-Ok.ensures.known m at)

pub returns-in-Err-clause-known : goal.returns-in-Err-clause-known
returns-in-Err-clause-known g c = λ m at. refused_late c.args.parser.now.stepper.scanner.options m g.T.Input.origin
    plain_events c.gather.new.self c.in-Err.error (c.in-Err.ensures.known m at)
