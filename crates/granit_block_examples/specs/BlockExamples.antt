-- Words of the worked examples of block scalars.
use Rattle.std.specs.Prelude.{ℕ, Bool, List, ◌++◌, codes, take, Option, None, Result, Ok, Err}
use Rattle.granit_lexemes.specs.Here.{Here, start_of}
use Rattle.granit_lexemes.specs.Line.{in_quotes, style_word, place_line, fault_line}
use Rattle.granit_lexemes.specs.Outcome.{Fault}
use Rattle.granit_lexemes.specs.PlainExtent.{over}
use Rattle.granit_lexemes.specs.BlockScalar.{block_style, BlockGiven, block_scalar}
use Rattle.granit_machine.specs.Items.{indent_words}
use Rattle.granit_scalar_examples.specs.QuotedExamples.{comment_text}

-- the block scalar that begins at an index of a text
abbrev pub block_in : (literal : Bool) → (block : Option ℕ) → List ℕ → ℕ → Result (BlockGiven × Here) Fault
block_in literal block text index = block_scalar literal block (over (take index text) (start_of text))

abbrev pub block_token_line : Bool → Result (BlockGiven × Here) Fault → List ℕ
block_token_line literal (Ok (given, after)) =
    codes "Scalar " ++ style_word (block_style literal) ++ codes " " ++ in_quotes given.read.text.characters
    ++ codes " " ++ place_line given.read.shown.place ++ codes "-" ++ place_line after.place
    ++ indent_words given.read.indent
    ++ codes "\n"
block_token_line literal (Err f) = fault_line f

-- its token, or its fault
abbrev pub block_line : (literal : Bool) → (block : Option ℕ) → List ℕ → ℕ → List ℕ
block_line literal block text index = block_token_line literal (block_in literal block text index)

abbrev pub noted_of : Result (BlockGiven × Here) Fault → Option (List ℕ)
noted_of (Ok (given, after)) = comment_text given.noted
noted_of (Err f) = None

-- the comment behind its header
abbrev pub noted_line : (literal : Bool) → (block : Option ℕ) → List ℕ → ℕ → Option (List ℕ)
noted_line literal block text index = noted_of (block_in literal block text index)
