-- Where the reading of an iterator's characters begins.
use Rattle.std.specs.Prelude.{ℕ, false, List}
use Rattle.granit_feeding.specs.Offsets.{bare_here}
use Rattle.granit_lexemes.specs.Here.{Here, start_of}

-- no byte offset is told, and nothing can be lent
abbrev pub bare_text_start : List ℕ → Here
bare_text_start text = bare_here (record { offsets = false; lending = false }) (start_of text)
