use Rattle.granit_calls.proofs.LeftLaws.{open_gives}
use Rattle.granit_calls.proofs.streams.an_open_call_gives_something.Goals as goal

pub returns : goal.returns
returns c = open_gives
