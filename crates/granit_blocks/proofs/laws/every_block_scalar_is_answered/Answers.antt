use Rattle.granit_blocks.proofs.BlockLaw.{block_is_answered}
use Rattle.granit_blocks.proofs.laws.every_block_scalar_is_answered.Goals as goal

pub returns : goal.returns
returns c = block_is_answered
