use Rattle.granit_ids.proofs.IdLaws.{calls_raise, recoveries_raise}
use Rattle.granit_ids.proofs.ids.the_offset_never_falls.Goals as goal

pub returns-clause-calls : goal.returns-clause-calls
returns-clause-calls c = calls_raise

pub returns-clause-recoveries : goal.returns-clause-recoveries
returns-clause-recoveries c = recoveries_raise
