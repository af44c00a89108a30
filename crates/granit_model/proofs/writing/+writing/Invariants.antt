use Rattle.std.proofs.Common.{◌≡◌, take}
use Rattle.granit_model.specs.Characters.{HasCharacters, PairsHaveCharacters}
use Rattle.granit_model.specs.Tree.{NoTrees, NoPairs, no_trees, no_pairs}
use Rattle.granit_model.specs.FlowText.{Appends, entries_text, pairs_text}
use Rattle.granit_model.specs.TreeView.{with_trees, with_pairs}
use Rattle.granit_model.proofs.writing.+writing.Given as goal

abbrev pub invariant-push_entries-loop-entry : goal.invariant-push_entries-loop-entry
invariant-push_entries-loop-entry l = record {
  written : Appends l.initial.out l.out (entries_text (with_trees NoTrees (take l.entry-index l.entry-items)));
  none_yet : l.first ≡ no_trees (with_trees NoTrees (take l.entry-index l.entry-items));
  characters : HasCharacters (with_trees NoTrees (take l.entry-index l.entry-items));
}

abbrev pub invariant-push_pairs-loop-pair : goal.invariant-push_pairs-loop-pair
invariant-push_pairs-loop-pair l = record {
  written : Appends l.initial.out l.out (pairs_text (with_pairs NoPairs (take l.pair-index l.pair-items)));
  none_yet : l.first ≡ no_pairs (with_pairs NoPairs (take l.pair-index l.pair-items));
  characters : PairsHaveCharacters (with_pairs NoPairs (take l.pair-index l.pair-items));
}
