use Rattle.std.proofs.Common.{subst}
use Rattle.granit_grammar.proofs.Placing.{one_cut, Tells}
use Rattle.granit_grammar.proofs.Complete.{reads, one_stream}
use Rattle.granit_grammar.proofs.trees.parsing_gives_the_one_stream.Goals as goal

pub returns-clause-stands : goal.returns-clause-stands
returns-clause-stands c = λ xs s e. subst (λ a. Tells a xs) e (one_cut xs)

pub returns-clause-answered : goal.returns-clause-answered
returns-clause-answered c = reads

pub returns-clause-one : goal.returns-clause-one
returns-clause-one c = one_stream
