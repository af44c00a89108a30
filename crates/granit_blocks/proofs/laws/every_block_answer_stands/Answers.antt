use Rattle.granit_blocks.proofs.BlockLaw.{block_standing}
use Rattle.granit_blocks.proofs.laws.every_block_answer_stands.Goals as goal

pub returns : goal.returns
returns c = block_standing
