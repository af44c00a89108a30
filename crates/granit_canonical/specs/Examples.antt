-- What the worked examples print.
use Rattle.std.specs.Prelude.{ℕ, List}
use Rattle.granit_error.specs.OptionsData.{OptionsData}
pub use Rattle.granit_canonical_steps.specs.Canonical.{canonical_events}
use Rattle.granit_lexemes.specs.Line.{event_lines}
use Rattle.granit_model.specs.Tree.{PlainTrees}

-- what is printed for documents that are read from their own canonical text
abbrev pub canonical_lines : OptionsData → PlainTrees → List ℕ
canonical_lines o ts = event_lines (canonical_events o ts)
