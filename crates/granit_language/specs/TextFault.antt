-- Why a text is refused: what is refused in reading, or in the lexemes that are read.
use Rattle.std.specs.Prelude.{◌≡◌, ℕ, Bool, true, false, List, [], ◌∷◌, ◌++◌, map, ◌⊎◌}
use Rattle.granit_error.specs.OptionsData.{OptionsData}
use Rattle.granit_language.specs.Awaiting.{AwaitsNode}
use Rattle.granit_language.specs.CommentRows.{RowTooLong, up_to}
use Rattle.granit_language.specs.GrammarFault.{GrammarFault, fault_of}
use Rattle.granit_language.specs.Reached.{ReadRefused, ReadWhole}
use Rattle.granit_language.specs.Scope.{no_scope}
use Rattle.granit_language.specs.Scoping.{scoped}
use Rattle.granit_language.specs.Seen.{Flagged, terminal_seen, lexemes_flagged, read_lexemes, terminals_of}
use Rattle.granit_language.specs.Terminal.{Terminal}
use Rattle.granit_language.specs.Whole.{Viable, WholeFault}
use Rattle.granit_lexemes.specs.Here.{start_of}
use Rattle.granit_lexemes.specs.Lexeme.{Item, OfLexeme, OfComment}
use Rattle.granit_lexemes.specs.Outcome.{Fault}
use Rattle.granit_machine.specs.Laid.{Laid}
use Rattle.granit_machine.specs.Lexing.{FlaggedItem, flagged}
use Rattle.granit_machine.specs.PossibleKeys.{is_possible}
use Rattle.granit_machine.specs.ReaderState.{ReaderState, reader_start}

-- ---- the lexemes of which it is certain whether a simple key begins with them

-- with none of these a key can still begin
abbrev pub AreSettled : Laid → List Flagged → Type 0
AreSettled l [] = Unit {0}
AreSettled l (f ∷ fs) = (is_possible f.0.number l ≡ false) × AreSettled l fs

-- with the first of these one can
abbrev pub FirstIsOpen : Laid → List Flagged → Type 0
FirstIsOpen l [] = Unit {0}
FirstIsOpen l (f ∷ fs) = is_possible f.0.number l ≡ true

-- those before the first one with which a key can still begin
pub record SettledFront (l : Laid) (fs front : List Flagged) : Type 0 where
  pub more : List Flagged
  pub is : fs ≡ front ++ more
  pub settled : AreSettled l front
  pub waits : FirstIsOpen l more

-- the same of items, comments among them
abbrev pub IsSettled : Laid → Item → Type 0
IsSettled l (OfLexeme x) = is_possible x.number l ≡ false
IsSettled l (OfComment c) = Unit {0}

abbrev pub IsUnsettled : Laid → Item → Type 0
IsUnsettled l (OfLexeme x) = is_possible x.number l ≡ true
IsUnsettled l (OfComment c) = ⊥

abbrev pub ItemsSettled : Laid → List FlaggedItem → Type 0
ItemsSettled l [] = Unit {0}
ItemsSettled l (i ∷ is) = IsSettled l i.item × ItemsSettled l is

abbrev pub FirstUnsettled : Laid → List FlaggedItem → Type 0
FirstUnsettled l [] = Unit {0}
FirstUnsettled l (i ∷ is) = IsUnsettled l i.item

-- of all items of a text those that are told before a fault of reading, or all where the text was read to its end
pub record ItemsBefore (ended : Bool) (l : Laid) (items front : List FlaggedItem) : Type 0 where
  pub more : List FlaggedItem
  pub is : items ≡ front ++ more
  pub all : ended ≡ true → more ≡ []
  pub settled : ended ≡ false → ItemsSettled l front × FirstUnsettled l more

-- ---- comments

-- With some of these items a reading begins of which the last lexeme is a `-` or a `:` that waits for its node, and
-- behind it more comments stand in a row than may be held; the first that is too many is at the mark.
pub record CommentTooMany (o : OptionsData) (items front : List FlaggedItem) (f : Fault) : Type 0 where
  pub row : RowTooLong o items front f
  pub viable : Viable o (map terminal_seen (lexemes_flagged (up_to row)))
  pub awaits : AwaitsNode (scoped no_scope (map terminal_seen (lexemes_flagged (up_to row))))

-- no comment of these items is one too many
abbrev pub NoneTooMany : OptionsData → List FlaggedItem → Type 0
NoneTooMany o items = (front : List FlaggedItem) (f : Fault) → CommentTooMany o items front f → ⊥

-- where comments are asked for, none is one too many among what is told of a text
abbrev pub NoneTold : OptionsData → (ended : Bool) → Laid → List Item → Type 0
NoneTold o ended l items =
    o.emit_comments ≡ true → (given : List FlaggedItem) → ItemsBefore ended l (flagged items) given →
    NoneTooMany o given

-- ---- causes

-- The text is read to its end, or up to a place from which nothing is read; of what is read so far no reading goes on
-- with one lexeme, of those of which it is certain whether a key begins with them, and no comment is one too many.
pub data OfLexemes (o : OptionsData) (text : List ℕ) (f : Fault) : Type 0 where
  to_end :
      {items : List Item} {s : ReaderState} {k : GrammarFault} {x : Terminal} →
      ReadWhole o (reader_start (start_of text)) items true s → WholeFault o (terminals_of items) k x →
      NoneTold o true s.laid items → f ≡ fault_of k x → OfLexemes o text f
  before_stop :
      {items : List Item} {s : ReaderState} {k : GrammarFault} {x : Terminal} (front : List Flagged) →
      ReadWhole o (reader_start (start_of text)) items false s → SettledFront s.laid (read_lexemes items) front →
      WholeFault o (map terminal_seen front) k x → NoneTold o false s.laid items → f ≡ fault_of k x →
      OfLexemes o text f

-- A reading begins with these lexemes, and from the place behind what is read nothing is, for a cause at its mark.
pub record OfReading (o : OptionsData) (text : List ℕ) (f : Fault) : Type 0 where
  pub items : List Item
  pub state : ReaderState
  pub whole : ReadWhole o (reader_start (start_of text)) items false state
  pub front : List Flagged
  pub settled : SettledFront state.laid (read_lexemes items) front
  pub viable : Viable o (map terminal_seen front)
  pub refused : ReadRefused o state f.kind f.mark
  pub unnamed : f.sources ≡ []
  pub none : NoneTold o false state.laid items

-- Comments are asked for, and one of those that are told is one too many; before the lexeme of its row there is none.
pub record OfComments (o : OptionsData) (text : List ℕ) (f : Fault) : Type 0 where
  pub asked : o.emit_comments ≡ true
  pub items : List Item
  pub state : ReaderState
  pub ended : Bool
  pub whole : ReadWhole o (reader_start (start_of text)) items ended state
  pub given : List FlaggedItem
  pub before : ItemsBefore ended state.laid (flagged items) given
  pub front : List FlaggedItem
  pub many : CommentTooMany o given front f
  pub first : NoneTooMany o front

abbrev pub WholeCause : OptionsData → List ℕ → Fault → Type 0
WholeCause o text f = OfLexemes o text f ⊎ (OfReading o text f ⊎ OfComments o text f)
