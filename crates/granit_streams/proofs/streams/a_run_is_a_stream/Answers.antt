use Rattle.granit_streams.proofs.StreamLaws.{run_is_stream}
use Rattle.granit_streams.proofs.streams.a_run_is_a_stream.Goals as goal

pub returns : goal.returns
returns c = run_is_stream
