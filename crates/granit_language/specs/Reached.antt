-- What a text holds up to a place: its lexemes and comments, in order.
use Rattle.std.specs.Prelude.{◌≡◌, Bool, true, false, List, [], ◌∷◌, ◌++◌, ◌⊎◌, Option, Some, None}
use Rattle.granit_base.specs.Place.{Mark}
use Rattle.granit_error.specs.FaultKind.{FaultKind, SimpleKeyExpected}
use Rattle.granit_error.specs.OptionsData.{OptionsData}
use Rattle.granit_lexemes.specs.Comment.{CommentRead}
use Rattle.granit_lexemes.specs.Here.{Here, mark_of}
use Rattle.granit_lexemes.specs.Lexeme.{Item, OfComment}
use Rattle.granit_lexemes.specs.Outcome.{Fault}
use Rattle.granit_machine.specs.Columns.{ends_at, ends_all}
use Rattle.granit_machine.specs.Laid.{Laid, is_adjacent, is_in_flow}
use Rattle.granit_lexemes.specs.declared.layout.PossibleKey.{PossibleKey}
use Rattle.granit_machine.specs.LexemeSort.{LexemeSort, Placed}
use Rattle.granit_machine.specs.Reader.{is_end}
use Rattle.granit_machine.specs.ReaderState.{ReaderState}
use Rattle.granit_language.specs.Allowed.{LeftBehind, LeftInside}
use Rattle.granit_language.specs.Before.{freshened, in_front}
use Rattle.granit_language.specs.Begins.{Begins}
use Rattle.granit_language.specs.Refusing.{GapRefused, RefusesSort, MisspellsSort}
use Rattle.granit_language.specs.Standing.{GapStands, Given}

-- no key outside brackets that must have a `:` is left behind a place (7.4.2, 8.2.2)
abbrev pub NoneOverdue : OptionsData → ReaderState → Type 0
NoneOverdue o s =
    (k : PossibleKey) → s.laid.key ≡ Some k → LeftBehind o s.laid (mark_of s.here) k → k.is_required ≡ false

-- one is
pub record Overdue (o : OptionsData) (s : ReaderState) (kind : FaultKind) (m : Mark) : Type 0 where
  pub key : PossibleKey
  pub is_outer : s.laid.key ≡ Some key
  pub stale : LeftBehind o s.laid (mark_of s.here) key
  pub required : key.is_required ≡ true
  pub names : kind ≡ SimpleKeyExpected
  pub marks : m ≡ key.start

-- a lexeme of a sort begins where a state stands
abbrev pub BeginsAt : ReaderState → LexemeSort → Type 0
BeginsAt s sort = Begins (is_in_flow s.laid) (is_adjacent s.laid.last) s.here.place.column s.here.unread.text sort

-- whether a lexeme of a sort ends an open column (8.1, 9.1)
abbrev pub ends_column_by : LexemeSort → ReaderState → Bool
ends_column_by (Placed sort) s = ends_at s.here.place.column s.laid
ends_column_by sort s = ends_all s.laid

-- in flow, where lines are indented too, a lexeme in a column isn't left of where a node may stand (6.1)
abbrev pub StandsInside : OptionsData → LexemeSort → Here → Laid → Type 0
StandsInside o (Placed sort) h l = LeftInside o h l → ⊥
StandsInside o sort h l = Unit {0}

-- what one read of a lexeme gives that begins where a state stands
abbrev pub GivenAt : OptionsData → LexemeSort → ReaderState → List Item → ReaderState → Type 0
GivenAt o sort s items after =
    StandsInside o sort s.here (in_front sort s.here s.laid)
    × Given o (ends_column_by sort s) sort s.here (in_front sort s.here s.laid) items after

-- a gap behind a state up to a place where a lexeme of a sort begins, and no key is overdue there
pub record Comes (o : OptionsData) (s at : ReaderState) (sort : LexemeSort) : Type 0 where
  pub gap : GapStands o s.here s.laid None at
  pub keys : NoneOverdue o at
  pub begins : BeginsAt (freshened o at) sort

-- One read: a comment with the gap before it; or a lexeme with the gap before it, its tail, and, behind a quoted
-- scalar, the gap behind it.
pub data Reads (o : OptionsData) (s : ReaderState) : List Item → ReaderState → Type 0 where
  of_comment : {comment : CommentRead} (at : ReaderState) → GapStands o s.here s.laid (Some comment) at
      → NoneOverdue o at → Reads o s (OfComment comment ∷ []) (freshened o at)
  of_lexeme : {items : List Item} (at behind : ReaderState) (sort : LexemeSort) → Comes o s at sort
      → GivenAt o sort (freshened o at) items behind → NoneOverdue o behind → Reads o s items (freshened o behind)

-- Items from one place of a text to another. Behind the end of the text there are none.
pub data Reached (o : OptionsData) : ReaderState → List Item → ReaderState → Type 0 where
  stops : {s : ReaderState} → Reached o s [] s
  goes_on : {s t : ReaderState} {all : List Item} (next : ReaderState) (items more : List Item)
      → Reads o s items next → (is_end items ≡ true → more ≡ []) → Reached o next more t → all ≡ items ++ more
      → Reached o s all t

-- items that go on with others
pub record GoesOnTo (o : OptionsData) (s : ReaderState) (xs ys : List Item) (t : ReaderState) : Type 0 where
  pub more : List Item
  pub are : ys ≡ xs ++ more
  pub rest : Reached o s more t

-- A cause outside lexemes and at them, behind what reading has reached: in the gap, by a key that is overdue, or at the
-- lexeme behind the gap.
pub data ReadStopped (o : OptionsData) (s : ReaderState) : FaultKind → Mark → Type 0 where
  in_gap : {kind : FaultKind} {m : Mark} → GapRefused o s.here s.laid kind m → ReadStopped o s kind m
  key_overdue : {kind : FaultKind} {m : Mark} (comment : Option CommentRead) (at : ReaderState)
      → GapStands o s.here s.laid comment at → Overdue o at kind m → ReadStopped o s kind m
  at_lexeme : {kind : FaultKind} {m : Mark} (at : ReaderState) (sort : LexemeSort) → Comes o s at sort
      → RefusesSort o at.here (in_front sort at.here (freshened o at).laid) sort kind m → ReadStopped o s kind m
  key_overdue_behind : {kind : FaultKind} {m : Mark} (items : List Item) (at behind : ReaderState) (sort : LexemeSort)
      → Comes o s at sort → GivenAt o sort (freshened o at) items behind → Overdue o behind kind m
      → ReadStopped o s kind m

-- a cause inside a tag, a quoted scalar, or a directive
pub record ReadMisspelt (o : OptionsData) (s : ReaderState) (kind : FaultKind) (m : Mark) : Type 0 where
  pub at : ReaderState
  pub sort : LexemeSort
  pub comes : Comes o s at sort
  pub wrong : MisspellsSort o at.here (in_front sort at.here (freshened o at).laid) sort kind m

-- the cause of a refusal, behind what reading has reached
abbrev pub ReadRefused : OptionsData → ReaderState → FaultKind → Mark → Type 0
ReadRefused o s kind m = ReadStopped o s kind m ⊎ ReadMisspelt o s kind m

-- How reading a whole text ends: behind the end, or at what is refused.
abbrev pub EndsBy : OptionsData → List Item → ReaderState → Option Fault → Type 0
EndsBy o items s None = (front last : List Item) × (items ≡ front ++ last) × (is_end last ≡ true)
EndsBy o items s (Some f) = ReadRefused o s f.kind f.mark

-- ---- all items of a text

-- nothing is read from a place
abbrev pub StopsThere : OptionsData → ReaderState → Type 0
StopsThere o s = (items : List Item) (next : ReaderState) → Reads o s items next → ⊥

-- All items from a place on: up to the end of the text, or up to a place from which nothing is read.
pub data ReadWhole (o : OptionsData) : ReaderState → List Item → (ended : Bool) → ReaderState → Type 0 where
  whole_ends : {s next : ReaderState} {items : List Item} → Reads o s items next → is_end items ≡ true
      → ReadWhole o s items true next
  whole_stops : {s : ReaderState} → StopsThere o s → ReadWhole o s [] false s
  whole_goes_on : {s t : ReaderState} {all : List Item} {ended : Bool} (next : ReaderState) (items more : List Item)
      → Reads o s items next → is_end items ≡ false → ReadWhole o next more ended t → all ≡ items ++ more
      → ReadWhole o s all ended t
