-- What an answer is to the readings of the lexemes of a text.
pub use Rattle.granit_quiet.specs.CommentEvents.{comment_event, comment_events, item_events, only_comments}
pub use Rattle.granit_quiet.specs.CommentEvents.{tail_events}
use Rattle.std.specs.Prelude.{◌≡◌, ℕ, true, List, None, Ok}
use Rattle.granit_error.specs.OptionsData.{OptionsData}
use Rattle.granit_language.specs.Seen.{terminals_of}
use Rattle.granit_language.specs.Reached.{Reached}
use Rattle.granit_language.specs.Telling.{events_told}
use Rattle.granit_language.specs.TextFault.{NoneTold}
use Rattle.granit_language.specs.TreeEvents.{TreeEvent}
use Rattle.granit_language.specs.Whole.{WholeReading}
use Rattle.granit_lexemes.specs.Here.{start_of}
use Rattle.granit_lexemes.specs.Lexeme.{Item}
use Rattle.granit_lexemes.specs.PlainEvent.{PlainEvent}
pub use Rattle.granit_quiet.specs.Quiet.{but_comments}
use Rattle.granit_machine.specs.Lexing.{flagged, lex}
use Rattle.granit_machine.specs.Reader.{LexState}
use Rattle.granit_machine.specs.ReaderState.{reader_start}

-- Comments aside, these events are those of the one reading of the text's lexemes, which are read up to its end. Where
-- comments are asked for, they are those of its items, and none is one too many.
pub record AnswersReading (o : OptionsData) (x : List ℕ) (es : List PlainEvent) : Type 0 where
  pub items : List Item
  pub state : LexState
  pub are_read : lex o (start_of x) ≡ Ok (items, state)
  pub to_end : state.fault ≡ None
  pub stand : Reached o (reader_start (start_of x)) items state.reader
  pub tree_events : List TreeEvent
  pub reading : WholeReading o (terminals_of items) tree_events
  pub told : events_told o tree_events ≡ but_comments es
  pub comments : o.emit_comments ≡ true → only_comments es ≡ comment_events (flagged items)
  pub none : NoneTold o true state.reader.laid items
