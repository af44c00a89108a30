-- What the machine answers for block text.
use Rattle.std.proofs.Common.{◌≤◌}
use Rattle.granit_block_layout.proofs.Whole.{block_read}
use Rattle.granit_block_layout.specs.Alike.{BlockAnswered}
use Rattle.granit_canonical.proofs.Laws.{bare_is_answered}
use Rattle.granit_error.specs.OptionsData.{OptionsData}
use Rattle.granit_generator.specs.BlockText.{block_characters}
use Rattle.granit_language.specs.Telling.{events_told}
use Rattle.granit_model.specs.Characters.{HasCharacters}
use Rattle.granit_model.specs.Tree.{DocumentsFit, PlainTrees, trees_depth}

pub block_is_read : (o : OptionsData) (ts : PlainTrees) → DocumentsFit ts → HasCharacters ts
    → trees_depth ts ≤ o.flow_nesting_limit → trees_depth ts ≤ o.block_nesting_limit → BlockAnswered o ts
block_is_read o ts fits written flat deep =
    let r = block_read o ts fits written flat deep in
    record {
      events = events_told o r.tree_events;
      answered = bare_is_answered o (block_characters ts) r.tree_events r.text;
      alike = r.told;
    }
