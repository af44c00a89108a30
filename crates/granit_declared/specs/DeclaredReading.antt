-- What a text is read as, and its answer, without a function that reads or flags.
pub use Rattle.granit_order.specs.Answers.{AnswersReading}
use Rattle.std.specs.Prelude.{◌≡◌, ℕ, true, List, [], map}
use Rattle.granit_error.specs.OptionsData.{OptionsData}
use Rattle.granit_order.specs.Answers.{only_comments}
use Rattle.granit_order.specs.Answers.{but_comments}
use Rattle.granit_language.specs.Reached.{ReadWhole}
use Rattle.granit_language.specs.Seen.{terminal_seen, lexemes_flagged}
use Rattle.granit_language.specs.Telling.{events_told}
use Rattle.granit_language.specs.TextFault.{NoneTooMany}
use Rattle.granit_language.specs.TreeEvents.{TreeEvent}
use Rattle.granit_language.specs.Whole.{WholeReading}
use Rattle.granit_lexemes.specs.Here.{start_of}
use Rattle.granit_lexemes.specs.PlainEvent.{PlainEvent}
use Rattle.granit_machine.specs.Lexing.{FlaggedItem}
use Rattle.granit_machine.specs.ReaderState.{ReaderState, reader_start}
pub use Rattle.granit_before.specs.KeyBegins.{FlagsSay, items_of}
pub use Rattle.granit_before.specs.ToldComments.{CommentsTold}

-- All items of a text stand in it up to its end, each flagged where a simple key begins with it. Comments aside, these
-- events are those of the one reading of the lexemes. Where comments are asked for, they are those of the items,
-- each placed as the items behind it say, and none is one too many.
pub record DeclaredReading (o : OptionsData) (x : List ℕ) (es : List PlainEvent) : Type 0 where
  pub items : List FlaggedItem
  pub state : ReaderState
  pub stand : ReadWhole o (reader_start (start_of x)) (items_of items) true state
  pub flags : FlagsSay o x [] items
  pub tree_events : List TreeEvent
  pub reading : WholeReading o (map terminal_seen (lexemes_flagged items)) tree_events
  pub told : events_told o tree_events ≡ but_comments es
  pub comments : o.emit_comments ≡ true → CommentsTold items (only_comments es)
  pub none : o.emit_comments ≡ true → NoneTooMany o items
