use Rattle.std.proofs.Common.{◌≡◌, take}
use Rattle.granit_model.specs.Tree.{NoTrees}
use Rattle.granit_model.specs.FirstMention.{documents_fit}
use Rattle.granit_model.specs.TreeView.{with_trees}
use Rattle.granit_model.proofs.fitting.all_fit.Given as goal

abbrev pub invariant-loop-root : goal.invariant-loop-root
invariant-loop-root l = l.fit ≡ documents_fit (with_trees NoTrees (take l.root-index l.root-items))
