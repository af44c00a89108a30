-- Why a text is refused, without a function that reads or flags, and without what is held of possible keys.
use Rattle.std.specs.Prelude.{◌≡◌, ℕ, Bool, true, false, List, [], map, ◌⊎◌}
use Rattle.granit_error.specs.OptionsData.{OptionsData}
use Rattle.granit_language.specs.GrammarFault.{GrammarFault, fault_of}
use Rattle.granit_language.specs.OpenColumns.{latest}
use Rattle.granit_language.specs.Reached.{ReadRefused, ReadWhole}
use Rattle.granit_language.specs.Seen.{Flagged, terminal_seen, lexemes_flagged}
use Rattle.granit_language.specs.Terminal.{Terminal}
use Rattle.granit_language.specs.TextFault.{CommentTooMany, NoneTooMany}
use Rattle.granit_language.specs.Whole.{Viable, WholeFault}
use Rattle.granit_lexemes.specs.Here.{mark_of, start_of}
use Rattle.granit_lexemes.specs.Outcome.{Fault}
use Rattle.granit_machine.specs.Lexing.{FlaggedItem}
use Rattle.granit_machine.specs.ReaderState.{ReaderState, reader_start}
use Rattle.granit_before.specs.Certain.{CertainFront, ToldBeforeFault}
use Rattle.granit_before.specs.KeyBegins.{items_of, FlagsSay}
use Rattle.granit_before.specs.StillBegins.{StillBegins}

-- all items of a text, up to its end or to a place from which nothing is read, flagged where simple keys begin
pub record AllItems (o : OptionsData) (text : List ℕ) (items : List FlaggedItem) (ended : Bool) (s : ReaderState) :
    Type 0 where
  pub stand : ReadWhole o (reader_start (start_of text)) (items_of items) ended s
  pub flags : FlagsSay o text [] items

-- where reading stopped behind these items, a simple key may still begin with the lexeme of a number
abbrev pub MayBegin : OptionsData → (text : List ℕ) → List FlaggedItem → ReaderState → (number : ℕ) → Type 0
MayBegin o text items s number = StillBegins o text (mark_of s.here) (latest (items_of items) []) number

-- where comments are asked for, none is one too many among what is told of these items
abbrev pub NoneAmong : OptionsData → (text : List ℕ) → (ended : Bool) → ReaderState → List FlaggedItem → Type 0
NoneAmong o text ended s items =
    o.emit_comments ≡ true → (given : List FlaggedItem) → ToldBeforeFault ended (MayBegin o text items s) items given →
    NoneTooMany o given

-- of what is read so far no reading goes on with one lexeme
pub data LexemesCause (o : OptionsData) (text : List ℕ) (f : Fault) : Type 0 where
  at_end :
      {items : List FlaggedItem} {s : ReaderState} {k : GrammarFault} {x : Terminal} → AllItems o text items true s →
      WholeFault o (map terminal_seen (lexemes_flagged items)) k x → NoneAmong o text true s items →
      f ≡ fault_of k x → LexemesCause o text f
  at_stop :
      {items : List FlaggedItem} {s : ReaderState} {k : GrammarFault} {x : Terminal} (front : List Flagged) →
      AllItems o text items false s → CertainFront (MayBegin o text items s) (lexemes_flagged items) front →
      WholeFault o (map terminal_seen front) k x → NoneAmong o text false s items → f ≡ fault_of k x →
      LexemesCause o text f

-- a reading begins with these lexemes, and from the place behind what is read nothing is
pub record ReadingCause (o : OptionsData) (text : List ℕ) (f : Fault) : Type 0 where
  pub items : List FlaggedItem
  pub state : ReaderState
  pub all : AllItems o text items false state
  pub front : List Flagged
  pub certain : CertainFront (MayBegin o text items state) (lexemes_flagged items) front
  pub viable : Viable o (map terminal_seen front)
  pub refused : ReadRefused o state f.kind f.mark
  pub unnamed : f.sources ≡ []
  pub none : NoneAmong o text false state items

-- one of the comments that are told is one too many
pub record CommentsCause (o : OptionsData) (text : List ℕ) (f : Fault) : Type 0 where
  pub asked : o.emit_comments ≡ true
  pub items : List FlaggedItem
  pub state : ReaderState
  pub ended : Bool
  pub all : AllItems o text items ended state
  pub given : List FlaggedItem
  pub before : ToldBeforeFault ended (MayBegin o text items state) items given
  pub front : List FlaggedItem
  pub many : CommentTooMany o given front f
  pub first : NoneTooMany o front

abbrev pub DeclaredCause : OptionsData → List ℕ → Fault → Type 0
DeclaredCause o text f = LexemesCause o text f ⊎ (ReadingCause o text f ⊎ CommentsCause o text f)
