-- The comments of items as events, each placed by the token behind it (YAML 1.2.2, 6.6).
use Rattle.std.specs.Prelude.{ℕ, List, [], ◌∷◌, ◌++◌, Option, Some, None}
use Rattle.std.specs.List.{filter}
use Rattle.granit_base.specs.declared.style.Placement.{Placement}
use Rattle.granit_base.specs.declared.style.Placement.TheVariants.{Right}
use Rattle.granit_lexemes.specs.Comment.{CommentRead}
use Rattle.granit_lexemes.specs.Lexeme.{LexemeKind, Dash, Item, OfLexeme, OfComment}
use Rattle.granit_lexemes.specs.PlainEvent.{PlainEvent, event_at, Comment, is_note}
use Rattle.granit_machine.specs.Frames.{Waiting}
use Rattle.granit_machine.specs.Lexing.{FlaggedItem}
use Rattle.granit_machine.specs.Parser.{next_line, placed}

-- the comments of events
abbrev pub only_comments : List PlainEvent → List PlainEvent
only_comments es = filter (λ e. is_note e.kind) es

-- what is held where a node must come
abbrev pub held_of : Option Waiting → List PlainEvent
held_of None = []
held_of (Some w) = w.held

abbrev pub comment_event : CommentRead → Placement → PlainEvent
comment_event c placement = event_at (Comment c.text placement) c.source

-- a comment behind a lexeme on its line, with the line of the next token; one behind a `-` stands right of it
abbrev pub tail_events : LexemeKind → Option CommentRead → Option ℕ → List PlainEvent
tail_events kind None next = []
tail_events Dash (Some c) next = comment_event c Right ∷ []
tail_events kind (Some c) next = comment_event c (placed c next) ∷ []

abbrev pub item_events : Item → Option ℕ → List PlainEvent
item_events (OfComment c) next = comment_event c (placed c next) ∷ []
item_events (OfLexeme l) next = tail_events l.kind l.tail next

-- the comments of items, in order
abbrev pub comment_events : List FlaggedItem → List PlainEvent
comment_events [] = []
comment_events (i ∷ is) = item_events i.item (next_line is) ++ comment_events is
