use Rattle.std.proofs.Common.{◌≡◌}
use Rattle.granit_generator.specs.Generator as plain
use Rattle.granit_generator.proofs.generator.trees_from.Given as goal

abbrev pub invariant-loop : goal.invariant-loop
invariant-loop l = record {
  trees : l.trees ≡ (plain.documents_made l.counter l.initial.drawing).value;
  draws : l.drawing ≡ (plain.documents_made l.counter l.initial.drawing).draws;
}
