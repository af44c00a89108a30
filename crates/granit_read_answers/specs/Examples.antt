-- What stands before a place, for the worked examples of causes.
use Rattle.std.specs.Prelude.{ℕ, false, List, [], ◌∷◌, None}
use Rattle.granit_base.specs.Place.{Mark}
use Rattle.granit_error.specs.FaultKind.{FaultKind}
use Rattle.granit_error.specs.OptionsData.{default_options}
use Rattle.granit_lexemes.specs.Here.{Here, mark_of, start_of}
use Rattle.granit_lexemes.specs.Moves.{steps}
use Rattle.granit_lexemes.specs.declared.layout.Bracket.{Bracket}
use Rattle.granit_lexemes.specs.declared.layout.LastLexeme.{LastLexeme}
use Rattle.granit_lexemes.specs.declared.layout.PossibleKey.{PossibleKey}
use Rattle.granit_machine.specs.Laid.{Laid, laid_start}
use Rattle.granit_machine.specs.ReaderState.{reader_start}
use Rattle.granit_language.specs.Reached.{ReadRefused}

-- so many characters of a text were read
abbrev pub after_characters : ℕ → List ℕ → Here
after_characters n text = steps n (start_of text)

-- a block collection is open in a column, and the last lexeme was this one
abbrev pub in_column : ℕ → LastLexeme → Laid
in_column column last =
    record laid_start { columns = record { column = column; is_wide = false } ∷ []; last = last; number = 1 }

-- a bracket is open inside it
abbrev pub in_bracket : Bracket → ℕ → LastLexeme → Laid
in_bracket bracket column last = record (in_column column last) {
  brackets = record { bracket = bracket; mark = mark_of (start_of []); key = None } ∷ [];
}

-- a key that begins at a text's start
abbrev pub first_key : PossibleKey
first_key = record { number = 0; start = mark_of (start_of []); is_required = false; is_low = false; is_head = false }

-- at a text's start this kind has its cause, at an index of the text
abbrev pub Caused : List ℕ → FaultKind → ℕ → Type 0
Caused text kind n = ReadRefused default_options (reader_start (start_of text)) kind (mark_of (after_characters n text))

-- none has one there
abbrev pub Uncaused : List ℕ → Type 0
Uncaused text = (kind : FaultKind) (m : Mark) → ReadRefused default_options (reader_start (start_of text)) kind m → ⊥
