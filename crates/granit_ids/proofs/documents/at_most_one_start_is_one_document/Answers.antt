use Rattle.granit_ids.proofs.OneLaws.{strict_one}
use Rattle.granit_ids.proofs.documents.at_most_one_start_is_one_document.Goals as goal

pub returns : goal.returns
returns c = strict_one
