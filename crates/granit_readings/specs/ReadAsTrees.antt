-- What a text is read as: documents as trees, without their events.
use Rattle.std.specs.Prelude.{◌≡◌, ℕ, true, List, [], map}
use Rattle.granit_error.specs.OptionsData.{OptionsData}
pub use Rattle.granit_quiet.specs.Quiet.{but_comments}
use Rattle.granit_language.specs.Node.{Stream}
use Rattle.granit_language.specs.Reached.{ReadWhole}
use Rattle.granit_language.specs.Reading.{IsReading}
use Rattle.granit_language.specs.Scope.{no_scope}
use Rattle.granit_language.specs.Scoping.{scoped}
use Rattle.granit_language.specs.Seen.{terminal_seen, lexemes_flagged}
use Rattle.granit_language.specs.Telling.{events_told}
use Rattle.granit_language.specs.TreeEvents.{stream_events}
use Rattle.granit_lexemes.specs.Here.{start_of}
use Rattle.granit_lexemes.specs.PlainEvent.{PlainEvent}
use Rattle.granit_machine.specs.Lexing.{FlaggedItem}
use Rattle.granit_machine.specs.ReaderState.{ReaderState, reader_start}
use Rattle.granit_declared.specs.DeclaredReading.{items_of, FlagsSay}

-- All items of a text stand in it up to its end, each flagged where a simple key begins with it, and its lexemes, each
-- with what is declared before it, are read as these documents.
pub record ReadAsTrees (o : OptionsData) (x : List ℕ) (s : Stream) : Type 0 where
  pub items : List FlaggedItem
  pub state : ReaderState
  pub stand : ReadWhole o (reader_start (start_of x)) (items_of items) true state
  pub flags : FlagsSay o x [] items
  pub reading : IsReading (scoped no_scope (map terminal_seen (lexemes_flagged items))) s

-- the events of an answer are, comments aside, those of documents that the text is read as
abbrev pub TellsTrees : OptionsData → (x : List ℕ) → List PlainEvent → Type 0
TellsTrees o x es = (s : Stream) × ReadAsTrees o x s × (but_comments es ≡ events_told o (stream_events s []))
