use Rattle.granit_blocks.proofs.BlockSpans.{block_reaches}
use Rattle.granit_blocks.proofs.laws.every_block_scalar_spans_its_source.Goals as goal

pub returns : goal.returns
returns c = block_reaches
