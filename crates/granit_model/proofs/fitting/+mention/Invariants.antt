use Rattle.std.proofs.Common.{◌≡◌, take}
use Rattle.granit_model.specs.Tree.{NoTrees, NoPairs}
use Rattle.granit_model.specs.FirstMention.{mention_in_trees, mention_in_pairs}
use Rattle.granit_model.specs.TreeView.{with_trees, with_pairs}
use Rattle.granit_model.proofs.fitting.+mention.Given as goal

abbrev pub invariant-mention_in_pairs-loop-pair : goal.invariant-mention_in_pairs-loop-pair
invariant-mention_in_pairs-loop-pair l = l.found
    ≡ mention_in_pairs l.name.characters (with_pairs NoPairs (take l.pair-index l.pair-items))

abbrev pub invariant-mention_in_trees-loop-tree : goal.invariant-mention_in_trees-loop-tree
invariant-mention_in_trees-loop-tree l = l.found
    ≡ mention_in_trees l.name.characters (with_trees NoTrees (take l.tree-index l.tree-items))
