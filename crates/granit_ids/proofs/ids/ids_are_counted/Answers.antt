use Rattle.granit_ids.proofs.OffsetLaws.{step_counts}
use Rattle.granit_ids.proofs.ids.ids_are_counted.Goals as goal

pub returns : goal.returns
returns c = step_counts
