-- Where no other document is there: what comes next are comments, `...` and the end.
use Rattle.std.specs.Prelude.{◌≡◌, ◌⊎◌, true, false, List, [], ◌∷◌, map, Option, Some, None}
use Rattle.granit_error.specs.OptionsData.{OptionsData}
use Rattle.granit_quiet.specs.Quiet.{Reads}
use Rattle.granit_lexemes.specs.Lexeme as lexemes
use Rattle.granit_lexemes.specs.Lexeme.{LexemeKind, Item, OfLexeme, OfComment}
use Rattle.granit_lexemes.specs.PlainEvent.{PlainEvent, EventKind, StreamEnd, Comment}
use Rattle.granit_machine.specs.Reader.{LexState}
use Rattle.granit_machine.specs.ReaderState.{ReaderState}
use Rattle.granit_restart.specs.Following.{item_without_flag}
use Rattle.granit_restart.specs.Header.{is_directives}
use Rattle.granit_steps.specs.Steps.{StepState}

-- the first event that is no comment
abbrev pub first_by : EventKind → Option EventKind → Option EventKind
first_by (Comment text placement) later = later
first_by kind later = Some kind

abbrev pub first_event : List PlainEvent → Option EventKind
first_event [] = None
first_event (e ∷ es) = first_by e.kind (first_event es)

-- the first lexeme that is no `...`
abbrev pub lexeme_or_later : LexemeKind → Option LexemeKind → Option LexemeKind
lexeme_or_later lexemes.DocumentEnd later = later
lexeme_or_later kind later = Some kind

abbrev pub first_lexeme : List Item → Option LexemeKind
first_lexeme [] = None
first_lexeme (OfComment c ∷ is) = first_lexeme is
first_lexeme (OfLexeme l ∷ is) = lexeme_or_later l.kind (first_lexeme is)

-- From here on only gaps, comments and `...` stand up to the end of the text.
pub data OnlyGap (o : OptionsData) : ReaderState → Type 0 where
  ends_here : {s next : ReaderState} → (items : List Item) → Reads o s items next
      → first_lexeme items ≡ Some lexemes.StreamEnd → OnlyGap o s
  ends_later : {s : ReaderState} → (items : List Item) (next : ReaderState) → Reads o s items next
      → first_lexeme items ≡ None → OnlyGap o next → OnlyGap o s

-- by the first event, or where there is none, by what else holds
abbrev pub FirstEventEnds : Option EventKind → Type 0 → Type 0
FirstEventEnds None Else = Else
FirstEventEnds (Some StreamEnd) Else = Unit {0}
FirstEventEnds (Some kind) Else = ⊥

abbrev pub FirstLexemeEnds : Option LexemeKind → Type 0 → Type 0
FirstLexemeEnds None Else = Else
FirstLexemeEnds (Some lexemes.StreamEnd) Else = Unit {0}
FirstLexemeEnds (Some kind) Else = ⊥

-- the text was read to its end, or will be
abbrev pub EndsReading : OptionsData → LexState → Type 0
EndsReading o l = (l.fault ≡ None) × ((l.ended ≡ true) ⊎ OnlyGap o l.reader)

-- no document is there: of what was read and not given, and of what is left, nothing begins one
abbrev pub NoneFollows : OptionsData → StepState → Type 0
NoneFollows o s =
    FirstEventEnds (first_event s.pending)
    ((is_directives s.parser.stage ≡ false)
    × FirstLexemeEnds (first_lexeme (map item_without_flag s.queue)) (EndsReading o s.reading))
