-- What is left where no comment is told: of events, of the parser's state, and of the options.
pub use Rattle.granit_language.specs.Counting.{CountedHere}
pub use Rattle.granit_language.specs.Reached.{ReadRefused, Reads}
pub use Rattle.granit_language.specs.CommentRows.{AreComments, RowTooLong, tail_comments, up_to}
use Rattle.std.specs.Prelude.{ℕ, Bool, not, List, Option, Some, None}
use Rattle.std.specs.List.{filter}
use Rattle.granit_error.specs.OptionsData.{OptionsData}
use Rattle.granit_lexemes.specs.PlainEvent.{PlainEvent, is_note}
use Rattle.granit_machine.specs.Frames.{Waiting, ParserState}

-- events without the comments
abbrev pub but_comments : List PlainEvent → List PlainEvent
but_comments es = filter (λ e. not (is_note e.kind)) es

-- what waits, as it is where no comment came behind it
abbrev pub waits_alone : ℕ → Option Waiting → Option Waiting
waits_alone room None = None
waits_alone room (Some w) = Some (record { at = w.at; room = room; held = but_comments w.held })

-- the parser's state without what comments left in it: what is held, and how many may still come
abbrev pub quiet : OptionsData → ParserState → ParserState
quiet o p = record p {
  waiting = waits_alone o.max_buffered_comment_events p.waiting;
  given = but_comments p.given;
}

-- the same options with comments asked for or not
abbrev pub asking : Bool → OptionsData → OptionsData
asking comments o = record o { emit_comments = comments }
