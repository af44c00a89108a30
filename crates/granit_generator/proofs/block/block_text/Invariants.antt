use Rattle.std.proofs.Common.{take}
use Rattle.granit_model.specs.Characters.{HasCharacters}
use Rattle.granit_model.specs.FlowText.{Appends}
use Rattle.granit_model.specs.Tree.{NoTrees}
use Rattle.granit_model.specs.TreeView.{with_trees}
use Rattle.granit_generator.specs.BlockText.{block_documents}
use Rattle.granit_generator.proofs.block.block_text.Given as goal

abbrev pub invariant-loop-root : goal.invariant-loop-root
invariant-loop-root l = record {
  written : Appends l.initial.out l.out (block_documents (with_trees NoTrees (take l.root-index l.root-items)));
  characters : HasCharacters (with_trees NoTrees (take l.root-index l.root-items));
}
