-- What contracts see of a reader: a cursor, and what the lexemes so far left.
use Rattle.std.specs.Prelude.{◌≡◌, Bool, true, false, List, Option, Some, None, Result, IfErr}
use Rattle.granit_base.specs.Place.{Unread}
use Rattle.granit_cursor.specs.Reading.{Reading, Stands, GivesTo, coded}
use Rattle.granit_error.specs.FaultKind.{NoMemory}
use Rattle.granit_error.specs.Refused.{Refused}
use Rattle.granit_lexemes.specs.Comment.{CommentRead}
use Rattle.granit_lexemes.specs.Here.{Here, mark_of}
use Rattle.granit_lexemes.specs.Lexeme.{Item}
use Rattle.granit_lexemes.specs.declared.layout.LastLexeme.{LastLexeme}
use Rattle.granit_machine.specs.Gaps.{over_gap_char, begins_gap, GapRead, no_more_adjacent}
use Rattle.granit_machine.specs.Laid.{Laid}
use Rattle.granit_machine.specs.ReaderState.{ReaderState, Read}
use Rattle.granit_items.specs.ItemViews.{alone, boxed_view, found_items}
use Rattle.granit_items.specs.declared.item.Found.{Found}
use Rattle.granit_items.specs.declared.item.Lexeme.{Lexeme}
use Rattle.granit_content.specs.declared.lexeme.Start.{Start}
use Rattle.granit_content.specs.declared.tail.Tail.{Tail}
use Rattle.granit_content.specs.declared.tail.Tail.TheVariants as tails
use Rattle.granit_steps.specs.Steps.{incoming}

-- a reader is known to be there: its cursor stands at the place, and this is what the lexemes so far left
abbrev pub IsAt : {I : Type 0} → (I → Unread → Type 0) → Reading I → Laid → ReaderState → Type 0
IsAt unread at laid s = Stands unread at s.here × (s.laid ≡ laid)

-- Wherever the cursor is known to stand, what was returned, seen by a view, is what the definition gives there, without
-- the comments that aren't asked for, and the reader then is where that ends; a refusal is the definition's fault,
-- unless memory ran out.
abbrev pub ReadsItems : {I X : Type 0} → (I → Unread → Type 0) → (asked : Bool) → (old new : Reading I) → Laid
    → (X → List Item) → Result X Refused → (Here → Read) → Type 0
ReadsItems unread asked old new laid view result given =
    (h : Here) → Stands unread old h → GivesTo view result (IsAt unread new laid) (coded (incoming asked) (given h))

-- no refusal is want of memory
abbrev pub NeverWants : {X : Type 0} → Result X Refused → Type 0
NeverWants r = IfErr r (λ e. e.kind ≡ NoMemory → ⊥)

-- what a call that returns nothing has found, as items: a lexeme, or all that a read gives
abbrev pub lexeme_in : Lexeme → Unit {0} → List Item
lexeme_in found = λ _. alone found

abbrev pub found_in : Found → Unit {0} → List Item
found_in found = λ _. found_items found

-- ---- a comment behind a lexeme

-- whether there is one, with what it says where comments are asked for
pub data Seen : Type 0 where
  Nothing Passed : Seen
  Kept : CommentRead → Seen

abbrev pub seen : (asked : Bool) → Option CommentRead → Seen
seen asked None = Nothing
seen true (Some c) = Kept c
seen false (Some c) = Passed

abbrev pub seen_comment : (asked : Bool) → CommentRead → Seen
seen_comment asked c = seen asked (Some c)

abbrev pub tail_view : Tail → Seen
tail_view tails.Nothing = Nothing
tail_view tails.Passed = Passed
tail_view (tails.Kept n) = Kept (boxed_view n)

-- the comment that is kept
abbrev pub comment_kept : Seen → Option CommentRead
comment_kept Nothing = None
comment_kept Passed = None
comment_kept (Kept c) = Some c

-- behind a closer a value may stand at once, unless a comment does
abbrev pub behind_seen : LastLexeme → Seen → LastLexeme
behind_seen last Nothing = last
behind_seen last Passed = no_more_adjacent last
behind_seen last (Kept c) = no_more_adjacent last

-- the comment itself, where comments are asked for
abbrev pub note_if_asked : (asked : Bool) → Option CommentRead → Option CommentRead
note_if_asked true noted = noted
note_if_asked false noted = None

-- ---- lexemes

abbrev pub IsStart : Start → Here → Type 0
IsStart s h = (mark_of h ≡ s.mark) × (h.begins_line ≡ s.begins_line)

-- ---- gaps

-- Wherever the cursor is known to stand, the gap there ends as the definition says, and the reader then is where it
-- ends.
abbrev pub ReadsGap : {I : Type 0} → (I → Unread → Type 0) → (asked : Bool) → (old new : Reading I) → Laid
    → Result Tail Refused → (Here → GapRead) → Type 0
ReadsGap unread asked old new laid result given =
    (h : Here) → Stands unread old h → GivesTo tail_view result (IsAt unread new laid) (coded (seen asked) (given h))

-- over a character of a gap, or none stands here
abbrev pub OverGapChar : Bool → (Here → Type 0) → (may_prefix : Bool) → Here → Type 0
OverGapChar true Lands may_prefix h = Lands (over_gap_char may_prefix h) × (begins_gap may_prefix h ≡ true)
OverGapChar false Lands may_prefix h = Lands h × (begins_gap may_prefix h ≡ false)
