use Rattle.std.proofs.Common.{◌≡◌, ◌+◌, ◌*◌, max, take}
use Rattle.granit_model.specs.Characters.{HasCharacters, PairsHaveCharacters}
use Rattle.granit_model.specs.FlowText.{Appends}
use Rattle.granit_model.specs.Tree.{NoTrees, NoPairs, tree_depth, trees_depth, pairs_depth}
use Rattle.granit_model.specs.TreeView.{plain_tree, with_trees, with_pairs}
use Rattle.granit_generator.specs.BlockText.{block_entries, block_pairs}
use Rattle.granit_generator.proofs.block.+block.Given as goal

abbrev pub decreases-push_node : goal.decreases-push_node
decreases-push_node l = tree_depth (plain_tree l.tree.now) * 3

abbrev pub decreases-push_entries : goal.decreases-push_entries
decreases-push_entries l = trees_depth l.entries.now * 3 + 2

abbrev pub decreases-push_pairs : goal.decreases-push_pairs
decreases-push_pairs l = pairs_depth l.pairs.now * 3 + 2

abbrev pub decreases-push_pair : goal.decreases-push_pair
decreases-push_pair l = max (tree_depth (plain_tree l.pair.now.0)) (tree_depth (plain_tree l.pair.now.1)) * 3 + 1

abbrev pub invariant-push_entries-loop-entry : goal.invariant-push_entries-loop-entry
invariant-push_entries-loop-entry l = record {
  written :
      Appends l.initial.out l.out (block_entries l.column (with_trees NoTrees (take l.entry-index l.entry-items)));
  characters : HasCharacters (with_trees NoTrees (take l.entry-index l.entry-items));
}

abbrev pub invariant-push_pairs-loop-pair : goal.invariant-push_pairs-loop-pair
invariant-push_pairs-loop-pair l = record {
  written : Appends l.initial.out l.out (block_pairs l.column (with_pairs NoPairs (take l.pair-index l.pair-items)));
  characters : PairsHaveCharacters (with_pairs NoPairs (take l.pair-index l.pair-items));
}
