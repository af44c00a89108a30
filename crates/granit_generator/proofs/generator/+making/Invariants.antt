use Rattle.std.proofs.Common.{◌≡◌, ◌+◌, ◌*◌}
use Rattle.granit_generator.specs.Generator.{entries_made, pairs_made, node_made}
use Rattle.granit_generator.proofs.generator.+making.Given as goal

abbrev pub decreases-node : goal.decreases-node
decreases-node l = l.levels * 6 + 2

abbrev pub decreases-content : goal.decreases-content
decreases-content l = l.levels * 6 + 1

abbrev pub decreases-shaped : goal.decreases-shaped
decreases-shaped l = l.levels * 6 + 5

abbrev pub decreases-sequence : goal.decreases-sequence
decreases-sequence l = l.levels * 6 + 4

abbrev pub decreases-mapping : goal.decreases-mapping
decreases-mapping l = l.levels * 6 + 4

abbrev pub decreases-entries : goal.decreases-entries
decreases-entries l = l.levels * 6 + 3

abbrev pub decreases-pairs : goal.decreases-pairs
decreases-pairs l = l.levels * 6 + 3

abbrev pub invariant-entries-loop : goal.invariant-entries-loop
invariant-entries-loop l = record {
  trees : l.list ≡ (entries_made (node_made l.levels) l.counter l.initial.drawing).value;
  draws : l.drawing ≡ (entries_made (node_made l.levels) l.counter l.initial.drawing).draws;
}

abbrev pub invariant-pairs-loop : goal.invariant-pairs-loop
invariant-pairs-loop l = record {
  pairs : l.list ≡ (pairs_made (node_made l.levels) l.counter l.initial.drawing).value;
  draws : l.drawing ≡ (pairs_made (node_made l.levels) l.counter l.initial.drawing).draws;
}
