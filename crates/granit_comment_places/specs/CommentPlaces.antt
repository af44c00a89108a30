-- Where the comments stand among the other events (YAML 1.2.2, 6.6).
pub use Rattle.granit_comment_room.specs.RefusedRows.{FirstRow, NoRow, RefusesRow}
use Rattle.std.specs.Prelude.{◌≡◌, ℕ, false, List, [], ◌∷◌, ◌++◌, Option, Some, Ok}
use Rattle.granit_base.specs.declared.style.Placement.TheVariants.{Right}
use Rattle.granit_base.specs.declared.style.StructureStyle.TheVariants.{Block}
use Rattle.granit_error.specs.OptionsData.{OptionsData}
use Rattle.granit_lexemes.specs.Comment.{CommentRead}
use Rattle.granit_lexemes.specs.Lexeme.{LexemeKind, Dash}
use Rattle.granit_lexemes.specs.PlainEvent.{PlainEvent, EventKind, Anchor, SequenceStart}
use Rattle.granit_machine.specs.Frames.{Waiting, ParserState}
use Rattle.granit_machine.specs.Giving.{null_at}
use Rattle.granit_machine.specs.Lexing.{FlaggedItem}
use Rattle.granit_machine.specs.Machine.{asked_items, feed_all}
use Rattle.granit_machine.specs.Parser.{placed}
use Rattle.granit_comment_room.specs.RefusedRows.{comment_events, only_comments}
pub use Rattle.granit_comment_room.specs.RefusedRows.{comment_event}
use Rattle.granit_comment_room.specs.RefusedRows.{but_comments, quiet}

-- the event of a comment behind a lexeme on its line, with the line of the next token
abbrev pub tail_event : LexemeKind → CommentRead → Option ℕ → PlainEvent
tail_event Dash c next = comment_event c Right
tail_event kind c next = comment_event c (placed c next)

-- ---- the start of a sequence in the column of its mapping, with the event of its anchor

abbrev pub IsAnchor : EventKind → Type 0
IsAnchor (Anchor number name) = Unit {0}
IsAnchor kind = ⊥

abbrev pub AreAnchors : List PlainEvent → Type 0
AreAnchors [] = Unit {0}
AreAnchors (e ∷ es) = IsAnchor e.kind × AreAnchors es

abbrev pub StartsSequence : EventKind → Type 0
StartsSequence (SequenceStart Block number tag) = Unit {0}
StartsSequence kind = ⊥

abbrev pub SequenceStarted : List PlainEvent → Type 0
SequenceStarted [] = ⊥
SequenceStarted (e ∷ es) = StartsSequence e.kind × AreAnchors es

-- ---- behind which events a comment stands

-- The events in front of it, where lexemes before it give these events and leave this state: all of those, and the
-- empty node that waits there, where none begins. A comment behind a `-` on its line may stand in front of the start of
-- the sequence that begins with it.
pub data StandsBehind (behind_dash : Type 0) (given : List PlainEvent) (left : ParserState) : List PlainEvent →
    Type 0 where
  directly : {told : List PlainEvent} → told ≡ given → StandsBehind behind_dash given left told
  behind_empty :
      {told : List PlainEvent} (w : Waiting) → left.waiting ≡ Some w → told ≡ given ++ (null_at w.at ∷ []) →
      StandsBehind behind_dash given left told
  before_start :
      {told : List PlainEvent} (begun : List PlainEvent) → behind_dash → SequenceStarted begun → told ++ begun ≡ given →
      StandsBehind behind_dash given left told

-- A comment's event stands among these behind the events that the items up to it give without their comments, and in
-- front of the comments of the items behind it.
pub record StandsAmong (o : OptionsData) (p : ParserState) (behind_dash : Type 0) (items back : List FlaggedItem)
    (e : PlainEvent) (es : List PlainEvent) : Type 0 where
  pub front : List PlainEvent
  pub rest : List PlainEvent
  pub is : es ≡ front ++ (e ∷ rest)
  pub given : List PlainEvent
  pub left : ParserState
  pub fed : feed_all o (asked_items false items) (quiet o p) ≡ Ok (given, left)
  pub stands : StandsBehind behind_dash given left (but_comments front)
  pub behind : only_comments rest ≡ comment_events back
