use Rattle.std.specs.Prelude.{IfSome}
use Rattle.granit_include_example.proofs.read.Given as goal

abbrev pub invariant-events : goal.invariant-events
invariant-events g l = IfSome l.stack.resolver g.R.Resolver.ready
