use Rattle.std.proofs.Common.{◌≡◌, ◌+◌, ◌*◌, take}
use Rattle.granit_model.specs.Tree.{NoTrees, NoPairs, tree_depth, trees_depth, pairs_depth}
use Rattle.granit_model.specs.TreeView.{plain_tree, with_trees, with_pairs}
use Rattle.granit_generator.specs.NodeCount.{trees_nodes, pairs_nodes}
use Rattle.granit_generator.proofs.counting.+counting.Given as goal

abbrev pub decreases-tree_count : goal.decreases-tree_count
decreases-tree_count l = tree_depth (plain_tree l.tree.now) * 2

abbrev pub decreases-node_count : goal.decreases-node_count
decreases-node_count l = trees_depth l.trees.now * 2 + 1

abbrev pub decreases-pair_count : goal.decreases-pair_count
decreases-pair_count l = pairs_depth l.pairs.now * 2 + 1

abbrev pub invariant-node_count-loop-tree : goal.invariant-node_count-loop-tree
invariant-node_count-loop-tree l = l.count ≡ trees_nodes (with_trees NoTrees (take l.tree-index l.tree-items))

abbrev pub invariant-pair_count-loop-pair : goal.invariant-pair_count-loop-pair
invariant-pair_count-loop-pair l = l.count ≡ pairs_nodes (with_pairs NoPairs (take l.pair-index l.pair-items))
