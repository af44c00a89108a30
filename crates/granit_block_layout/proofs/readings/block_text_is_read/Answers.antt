use Rattle.granit_block_layout.proofs.Laws.{block_is_read}
use Rattle.granit_block_layout.proofs.readings.block_text_is_read.Goals as goal

pub returns : goal.returns
returns c = block_is_read
