use Rattle.granit_restart.proofs.AheadLaws.{failing_alike, skip_alike}
use Rattle.granit_looking.proofs.looking.skipping_ends_alike_ahead.Goals as goal

pub returns-clause-skip : goal.returns-clause-skip
returns-clause-skip c = skip_alike

pub returns-clause-fault : goal.returns-clause-fault
returns-clause-fault c = failing_alike
