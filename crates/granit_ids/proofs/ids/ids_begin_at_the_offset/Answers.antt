use Rattle.granit_ids.proofs.OffsetLaws.{begun_from}
use Rattle.granit_ids.proofs.ids.ids_begin_at_the_offset.Goals as goal

pub returns : goal.returns
returns c = begun_from
