use Rattle.granit_streams.proofs.StreamLaws.{told_begins}
use Rattle.granit_streams.proofs.streams.what_is_told_begins_a_stream.Goals as goal

pub returns : goal.returns
returns c = told_begins
