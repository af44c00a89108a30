use Rattle.granit_whole.proofs.Wholes.{whole_events}
use Rattle.granit_whole.proofs.whole.every_answer_is_a_reading.Goals as goal

pub returns : goal.returns
returns c = whole_events
