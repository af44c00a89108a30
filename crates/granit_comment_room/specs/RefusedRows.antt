-- Items that are refused for a comment too many in a row behind a lexeme whose node waits.
pub use Rattle.granit_quiet.specs.Quiet.{but_comments, quiet, waits_alone}
pub use Rattle.granit_quiet.specs.CommentEvents.{comment_event, comment_events, held_of, only_comments}
use Rattle.std.specs.Prelude.{◌≡◌, false, List, Some, Ok}
use Rattle.granit_error.specs.OptionsData.{OptionsData}
use Rattle.granit_quiet.specs.Quiet.{RowTooLong, up_to}
use Rattle.granit_lexemes.specs.Outcome.{Fault}
use Rattle.granit_lexemes.specs.PlainEvent.{PlainEvent}
use Rattle.granit_machine.specs.Frames.{Waiting, ParserState}
use Rattle.granit_machine.specs.Lexing.{FlaggedItem}
use Rattle.granit_machine.specs.Machine.{asked_items, feed_all}

-- Fed from a state without their comments, the lexemes up to that of the row leave a node that waits.
pub record RefusesRow (o : OptionsData) (p : ParserState) (items : List FlaggedItem) (f : Fault) : Type 0 where
  pub front : List FlaggedItem
  pub row : RowTooLong o items front f
  pub events : List PlainEvent
  pub state : ParserState
  pub waiting : Waiting
  pub fed : feed_all o (asked_items false (up_to row)) p ≡ Ok (events, state)
  pub waits : state.waiting ≡ Some waiting

-- no comment of these items is such a one
abbrev pub NoRow : OptionsData → ParserState → List FlaggedItem → Type 0
NoRow o p items = (f : Fault) → RefusesRow o p items f → ⊥

-- The first comment that is: before the lexeme of its row there is no other.
pub record FirstRow (o : OptionsData) (p : ParserState) (items : List FlaggedItem) (f : Fault) : Type 0 where
  pub row : RefusesRow o p items f
  pub first : NoRow o p row.front
