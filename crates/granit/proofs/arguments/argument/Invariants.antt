use Rattle.std.specs.Prelude.{⊤}
use Rattle.granit.proofs.arguments.argument.Given as goal

abbrev pub invariant-loop : goal.invariant-loop
invariant-loop g l = ⊤
