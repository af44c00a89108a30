use Rattle.granit_whole.proofs.Prefixes.{events_are, streams_are_read}
use Rattle.granit_whole.proofs.events.every_answer_is_a_stream.Goals as goal

pub returns-clause-events : goal.returns-clause-events
returns-clause-events c = events_are

pub returns-clause-streams : goal.returns-clause-streams
returns-clause-streams c = streams_are_read
