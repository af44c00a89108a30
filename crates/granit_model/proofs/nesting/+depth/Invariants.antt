use Rattle.std.proofs.Common.{◌≡◌, min, take}
use Rattle.granit_model.specs.Tree.{NoTrees, NoPairs, trees_depth, pairs_depth}
use Rattle.granit_model.specs.TreeView.{with_trees, with_pairs}
use Rattle.granit_model.proofs.nesting.+depth.Given as goal

abbrev pub invariant-depth-loop-tree : goal.invariant-depth-loop-tree
invariant-depth-loop-tree l = l.deepest ≡ min (trees_depth (with_trees NoTrees (take l.tree-index l.tree-items)))
    18446744073709551615

abbrev pub invariant-pairs_depth-loop-key : goal.invariant-pairs_depth-loop-key
invariant-pairs_depth-loop-key l = l.deepest ≡ min (pairs_depth (with_pairs NoPairs (take l.key-index l.key-items)))
    18446744073709551615
