use Rattle.granit_recovery.proofs.RecoveryLaws.{recovered_goes_on}
use Rattle.granit_calls.proofs.streams.a_stream_goes_on_behind_recovery.Goals as goal

pub returns : goal.returns
returns c = recovered_goes_on
