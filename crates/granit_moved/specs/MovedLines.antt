-- The printed lines of texts that stand behind others, for the worked rows.
use Rattle.std.specs.Prelude.{ℕ, List, true, None}
use Rattle.granit_error.specs.OptionsData.{default_options}
use Rattle.granit_lexemes.specs.Line.{answer_lines}
use Rattle.granit_machine.specs.Machine.{run}
use Rattle.granit_shifted.specs.Shift.{Shift, moved_answer}

-- behind so many characters, line ends and anchors
abbrev pub behind_text : (index line anchors : ℕ) → Shift
behind_text index line anchors = record {
  index = index;
  line = line;
  bytes = index;
  lexemes = 0;
  anchors = anchors;
  offsets = true;
  lending = true;
  kept = None;
}

abbrev pub tells_behind : (index line anchors : ℕ) → List ℕ → List ℕ
tells_behind index line anchors text = answer_lines
    (moved_answer (behind_text index line anchors) (run default_options text))
