use Rattle.granit_blocks.proofs.BlockLaw.{one_block}
use Rattle.granit_blocks.proofs.laws.one_block_scalar.Goals as goal

pub returns : goal.returns
returns c = one_block
