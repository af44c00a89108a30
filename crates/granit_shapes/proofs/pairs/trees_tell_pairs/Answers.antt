use Rattle.granit_shapes.proofs.PairsInTrees.{stream_pairs}
use Rattle.granit_shapes.proofs.pairs.trees_tell_pairs.Goals as goal

pub returns : goal.returns
returns c = stream_pairs
