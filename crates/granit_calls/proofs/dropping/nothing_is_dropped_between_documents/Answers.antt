use Rattle.granit_calls.proofs.DropLaws.{between_drops}
use Rattle.granit_calls.proofs.dropping.nothing_is_dropped_between_documents.Goals as goal

pub returns : goal.returns
returns c = between_drops
