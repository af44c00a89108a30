use Rattle.granit_shapes.proofs.PairsEven.{pairs_are_nodes}
use Rattle.granit_shapes.proofs.pairs.mappings_hold_pairs.Goals as goal

pub returns : goal.returns
returns c = pairs_are_nodes
