use Rattle.granit_ids.proofs.OneLaws.{stand_one}
use Rattle.granit_ids.proofs.TidyLaws.{begun_strict}
use Rattle.granit_ids.proofs.documents.a_text_with_one_start_is_one_document.Goals as goal

pub returns : goal.returns
returns c o h count es f gives n = stand_one es (begun_strict o h count es f gives) n
