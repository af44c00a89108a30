use Rattle.granit.proofs.WordLemmas.{AreSoFar}
use Rattle.granit.proofs.arguments.words.Given as goal

abbrev pub invariant-loop-i : goal.invariant-loop-i
invariant-loop-i g l = AreSoFar (g.A.Arguments.all l.arguments) l.list l.i
