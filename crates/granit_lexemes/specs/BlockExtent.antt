-- How far a block scalar goes, what it spells, and what is refused at it (YAML 1.2.2, 8.1).
use Rattle.std.specs.Prelude.{◌≡◌, ℕ, Bool, true, false, ◌==◌, List, [], ◌∷◌, Option, Some, None}
use Rattle.granit_base.specs.Classes.{is_break}
use Rattle.granit_base.specs.Place.{Mark}
use Rattle.granit_error.specs.FaultKind.{FaultKind, ZeroBlockScalarIndent, InvalidBlockScalarHeader}
use Rattle.granit_error.specs.FaultKind.{TabAtBlockScalarStart, InvalidBlockScalarIndent, CommentNotSeparated}
use Rattle.granit_error.specs.FaultKind.{UnexpectedCharacter}
use Rattle.granit_lexemes.specs.Basics.{owned, unprintable}
use Rattle.granit_lexemes.specs.BlockHeader.{Chomping, BlockHeader, chomping_of}
use Rattle.granit_lexemes.specs.BlockScalar.{BlockRead, BlockGiven, block_read, is_between}
use Rattle.granit_lexemes.specs.BlockValue.{block_value, empty_value}
use Rattle.granit_lexemes.specs.Comment.{CommentRead, Spoils}
use Rattle.granit_lexemes.specs.HeaderExtent.{HeaderStands, HeaderFront, LexemeTail, LineEnds}
use Rattle.granit_lexemes.specs.Here.{Here, text_len, next_char, mark_of}
use Rattle.granit_lexemes.specs.LinesExtent.{ContentColumn, Empties, BlockLine, IsLine, ContentLines, is_outside_block}
use Rattle.granit_lexemes.specs.LinesExtent.{is_clear}
use Rattle.granit_lexemes.specs.PlainExtent.{over}
use Rattle.granit_lexemes.specs.QuotedExtent.{BlanksBehind}

-- A header and its tail, the end of their line, and behind it so many empty lines up to a place. Its first line begins
-- with no tab.
pub record BlockFront (block : Option ℕ) (h : Here) (header : BlockHeader) (noted : Option CommentRead) (broken : Bool)
    (column k : ℕ) (place : Here) : Type 0 where
  pub behind_header : Here
  pub behind_tail : Here
  pub first_line : Here
  pub heads : HeaderStands h header behind_header
  pub tails : LexemeTail behind_header noted behind_tail
  pub ends : LineEnds behind_tail broken first_line
  pub no_tab : (next_char first_line == 0x09) ≡ false
  pub indented : ContentColumn block header.digit first_line column
  pub empties : Empties column first_line place k

-- what stands from behind the first empty lines on, what is answered for it, and where it ends
pub data BlockBody (literal : Bool) (chomping : Chomping) (broken : Bool) (block : Option ℕ) (column k : ℕ)
    (start : Mark) (place : Here) : BlockRead → Here → Type 0 where
  without_content : place.unread.text ≡ []
      → BlockBody literal chomping broken block column k start place
      (record { text = owned (empty_value chomping broken k place.place.column); shown = start; indent = None }) place
  with_content : (lines : List BlockLine) (t : ℕ) (after : Here) → (text_len place == 0) ≡ false
      → is_between block column place ≡ false → ContentLines column k place after lines t
      → is_outside_block column after ≡ true → is_clear after ≡ true
      → unprintable (block_value literal chomping lines t) ≡ None
      → BlockBody literal chomping broken block column k start place
      (block_read column (mark_of place) (block_value literal chomping lines t)) after

-- A block scalar is answered where it stands, with its value, and nothing at it is refused.
pub record AnswersBlock (literal : Bool) (block : Option ℕ) (h : Here) (given : BlockGiven)
    (after : Here) : Type 0 where
  pub header : BlockHeader
  pub broken : Bool
  pub column : ℕ
  pub k : ℕ
  pub place : Here
  pub front : BlockFront block h header given.noted broken column k place
  pub body : BlockBody literal (chomping_of header.chomping) broken block column k (mark_of h) place given.read after

-- why a block scalar is refused, and where
pub data RefusesBlock (literal : Bool) (block : Option ℕ) (h : Here) : FaultKind → Mark → Type 0 where
  -- a digit 0 in the header, at the scalar's start
  zero_digit : {b : BlockHeader} {g : Here} → HeaderFront h b g → b.digit ≡ None → next_char g ≡ 0x30
      → RefusesBlock literal block h ZeroBlockScalarIndent (mark_of h)
  -- a `#` directly behind the header (6.6), at it
  hash_touches : {header : BlockHeader} {g : Here} → HeaderStands h header g → next_char g ≡ 0x23
      → RefusesBlock literal block h CommentNotSeparated (mark_of g)
  -- an unprintable character in the comment, at it
  in_comment : {header : BlockHeader} {g : Here} {kind : FaultKind} {m : Mark} (b : ℕ) (blanks rest : List ℕ)
      → HeaderStands h header g → BlanksBehind g (b ∷ blanks) rest → Spoils (over (b ∷ blanks) g) kind m
      → RefusesBlock literal block h kind m
  -- an unprintable character behind the header and its tail, at it
  behind_header : {header : BlockHeader} {g i : Here} {noted : Option CommentRead} → HeaderStands h header g
      → LexemeTail g noted i → is_clear i ≡ false
      → RefusesBlock literal block h (UnexpectedCharacter (next_char i)) (mark_of i)
  -- other content on the header's line, at the scalar's start
  other_content : {header : BlockHeader} {g i : Here} {noted : Option CommentRead} → HeaderStands h header g
      → LexemeTail g noted i → is_clear i ≡ true → (text_len i == 0) ≡ false → is_break (next_char i) ≡ false
      → RefusesBlock literal block h InvalidBlockScalarHeader (mark_of h)
  -- an unprintable character that begins the first line, at it
  first_character : {header : BlockHeader} {g i j : Here} {noted : Option CommentRead} {broken : Bool}
      → HeaderStands h header g → LexemeTail g noted i → LineEnds i broken j → is_clear j ≡ false
      → RefusesBlock literal block h (UnexpectedCharacter (next_char j)) (mark_of j)
  -- a tab that begins the first line, at the scalar's start
  first_tab : {header : BlockHeader} {g i j : Here} {noted : Option CommentRead} {broken : Bool}
      → HeaderStands h header g → LexemeTail g noted i → LineEnds i broken j → next_char j ≡ 0x09
      → RefusesBlock literal block h TabAtBlockScalarStart (mark_of h)
  -- the first content, right of its block but left of the content's column, at it
  wrong_column : {header : BlockHeader} {noted : Option CommentRead} {broken : Bool} {column k : ℕ} {place : Here}
      → BlockFront block h header noted broken column k place → is_clear place ≡ true
      → (text_len place == 0) ≡ false → is_between block column place ≡ true
      → RefusesBlock literal block h InvalidBlockScalarIndent (mark_of place)
  -- an unprintable character where content would begin, or what ends the scalar, at it
  before_content : {header : BlockHeader} {noted : Option CommentRead} {broken : Bool} {column k t : ℕ}
      {place after : Here} {lines : List BlockLine} → BlockFront block h header noted broken column k place
      → ContentLines column k place after lines t → is_clear after ≡ false
      → RefusesBlock literal block h (UnexpectedCharacter (next_char after)) (mark_of after)
  -- a NUL in content, at it
  in_line : {header : BlockHeader} {noted : Option CommentRead} {broken : Bool} {column k t : ℕ}
      {place after end : Here} {lines : List BlockLine} {cs : List ℕ}
      → BlockFront block h header noted broken column k place → ContentLines column k place after lines t
      → IsLine column after cs end → is_clear end ≡ false
      → RefusesBlock literal block h (UnexpectedCharacter (next_char end)) (mark_of end)
  -- an unprintable character in the value, at the first content
  in_value : {header : BlockHeader} {noted : Option CommentRead} {broken : Bool} {column k t c : ℕ}
      {place after : Here} {lines : List BlockLine} → BlockFront block h header noted broken column k place
      → ContentLines column k place after lines t → is_outside_block column after ≡ true → is_clear after ≡ true
      → unprintable (block_value literal (chomping_of header.chomping) lines t) ≡ Some c
      → RefusesBlock literal block h (UnexpectedCharacter c) (mark_of place)
