use Rattle.granit_shapes.proofs.PairsAnswered.{answer_pairs}
use Rattle.granit_shapes.proofs.PairsEven.{pairs_are_nodes}
use Rattle.granit_shapes.proofs.pairs.answers_hold_pairs.Goals as goal

pub returns-clause-turns : goal.returns-clause-turns
returns-clause-turns c = answer_pairs

pub returns-clause-nodes : goal.returns-clause-nodes
returns-clause-nodes c o x es e = pairs_are_nodes es (answer_pairs o x es e)
