use Rattle.granit_canonical.proofs.Laws.{canonical_is_read}
use Rattle.granit_canonical.proofs.readings.canonical_text_is_read.Goals as goal

pub returns : goal.returns
returns c = canonical_is_read
