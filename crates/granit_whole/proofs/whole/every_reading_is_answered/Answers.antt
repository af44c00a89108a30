use Rattle.granit_whole.proofs.Wholes.{whole_streams}
use Rattle.granit_whole.proofs.whole.every_reading_is_answered.Goals as goal

pub returns : goal.returns
returns c = whole_streams
