use Rattle.std.proofs.Common.{◌≡◌, ◌≤◌, drop, length}
use Rattle.granit_layers.proofs.layers.names_below.Given as goal
use Rattle.granit_layers.specs.Stacking.{names_of}

abbrev pub invariant-layers : goal.invariant-layers
invariant-layers g l = record {
  names : l.names ≡ names_of (drop l.left l.below.items);
  within : l.left ≤ length l.below.items;
}

abbrev pub decreases-layers : goal.decreases-layers
decreases-layers g l = l.left
