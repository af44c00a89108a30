use Rattle.granit_blocks.proofs.BlockLaw.{block_refused}
use Rattle.granit_blocks.proofs.laws.every_block_refusal_has_its_cause.Goals as goal

pub returns : goal.returns
returns c = block_refused
