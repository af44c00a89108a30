use Rattle.std.proofs.Common.{ap, ◌∙◌, arith}
use Rattle.granit_event.specs.Events.{plain_events}
use Rattle.granit_sourced.proofs.GatheredLemmas.{some_gathered}
use Rattle.granit_sourced.proofs.gathering.fill_batch.Goals as goal

pub returns-in-Ok-clause-known : goal.returns-in-Ok-clause-known
returns-in-Ok-clause-known g c = λ m before.
    some_gathered g.T.Input.unread c.args.stepper.now.scanner.options m g.T.Input.origin
    c.gather_turns.new.stepper c.take_waiting.new.self 128 c.in-Ok.more _ (omega arith)
    (ap plain_events c.into_vec.ensures.items ∙ c.take_waiting.ensures.taken)
    c.take_waiting.ensures.rest (c.in-Ok.ensures.known m before)
