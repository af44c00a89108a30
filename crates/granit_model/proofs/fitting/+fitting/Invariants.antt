use Rattle.std.proofs.Common.{◌≡◌, take}
use Rattle.granit_model.specs.Tree.{NoTrees, NoPairs}
use Rattle.granit_model.specs.FirstMention.{trees_fit, pairs_fit}
use Rattle.granit_model.specs.TreeView.{plain_tree, with_trees, with_pairs}
use Rattle.granit_model.proofs.fitting.+fitting.Given as goal

abbrev pub invariant-pairs_fit-loop-key : goal.invariant-pairs_fit-loop-key
invariant-pairs_fit-loop-key l = l.fit ≡ pairs_fit (with_pairs NoPairs (take l.key-index l.key-items))
    (plain_tree l.root)

abbrev pub invariant-trees_fit-loop-tree : goal.invariant-trees_fit-loop-tree
invariant-trees_fit-loop-tree l = l.fit ≡ trees_fit (with_trees NoTrees (take l.tree-index l.tree-items))
    (plain_tree l.root)
