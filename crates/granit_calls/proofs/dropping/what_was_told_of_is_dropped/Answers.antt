use Rattle.granit_calls.proofs.ToldLaws.{event_drops, refusal_drops, told_resumed}
use Rattle.granit_calls.proofs.dropping.what_was_told_of_is_dropped.Goals as goal

pub returns-clause-told : goal.returns-clause-told
returns-clause-told c = told_resumed

pub returns-clause-event : goal.returns-clause-event
returns-clause-event c = event_drops

pub returns-clause-fault : goal.returns-clause-fault
returns-clause-fault c = refusal_drops
