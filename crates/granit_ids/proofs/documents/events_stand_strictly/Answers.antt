use Rattle.granit_ids.proofs.TidyLaws.{begun_strict}
use Rattle.granit_ids.proofs.documents.events_stand_strictly.Goals as goal

pub returns : goal.returns
returns c = begun_strict
