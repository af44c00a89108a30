-- How many block collections start and end in the tokens of a text, for the worked rows.
use Rattle.std.specs.Prelude.{ℕ, List, Result, Ok, Err}
use Rattle.granit_error.specs.OptionsData.{default_options}
use Rattle.granit_lexemes.specs.Here.{start_of}
use Rattle.granit_lexemes.specs.Outcome.{Fault}
use Rattle.granit_machine.specs.Reader.{LexState}
use Rattle.granit_steps.specs.Tokens.{ScanToken, text_tokens}
use Rattle.granit_tokens.specs.Balanced.{block_starts, block_ends}

abbrev pub counts_in : Result (List ScanToken × LexState) Fault → ℕ × ℕ
counts_in (Ok x) = (block_starts x.0, block_ends x.0)
counts_in (Err f) = (0, 0)

-- the starts, and the ends
abbrev pub counted : List ℕ → ℕ × ℕ
counted text = counts_in (text_tokens default_options (start_of text))
