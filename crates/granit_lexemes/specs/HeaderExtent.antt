-- The header of a block scalar, and what stands behind it on its line (YAML 1.2.2, 8.1.1).
use Rattle.std.specs.Prelude.{◌≡◌, ℕ, ◌-◌, Bool, true, false, ◌==◌, ◌&&◌, ◌||◌, List, [], ◌∷◌, Option, Some, None}
use Rattle.std.specs.Prelude.{is_none}
use Rattle.granit_base.specs.Classes.{is_within, is_digit}
use Rattle.granit_lexemes.specs.BlockHeader.{Chomping, Strip, Keep, BlockHeader}
use Rattle.granit_lexemes.specs.BlockMoves.{Breaks}
use Rattle.granit_lexemes.specs.Comment.{CommentRead, StandsComment}
use Rattle.granit_lexemes.specs.Here.{Here, next_char, step}
use Rattle.granit_lexemes.specs.PlainExtent.{over, starts_comment}
use Rattle.granit_lexemes.specs.QuotedExtent.{BlanksBehind}

-- the sign that tells how breaks at the end are kept
pub data Sign : (c : ℕ) → Chomping → Type 0 where
  plus : {c : ℕ} → c ≡ 0x2B → Sign c Keep
  minus : {c : ℕ} → c ≡ 0x2D → Sign c Strip

abbrev pub is_sign : ℕ → Bool
is_sign c = c == 0x2B || c == 0x2D

abbrev pub no_indicators : BlockHeader
no_indicators = record { chomping = None; digit = None }

-- one more indicator, of a sort that hasn't come yet: a sign, or a digit from 1 to 9; or none of them
pub data Indicator (b : BlockHeader) (h : Here) : BlockHeader → Here → Type 0 where
  takes_sign : (c : Chomping) → b.chomping ≡ None → Sign (next_char h) c
      → Indicator b h (record b { chomping = Some c }) (step h)
  takes_digit : b.digit ≡ None → is_within 0x31 0x39 (next_char h) ≡ true
      → Indicator b h (record b { digit = Some (next_char h - 0x30) }) (step h)
  takes_none : (is_none b.chomping && is_sign (next_char h)) ≡ false
      → (is_none b.digit && is_digit (next_char h)) ≡ false → Indicator b h b h

-- at most two indicators behind the character that stands here, which is `|` or `>` where a block scalar is read
pub record HeaderStands (h : Here) (header : BlockHeader) (after : Here) : Type 0 where
  pub once : BlockHeader
  pub middle : Here
  pub earlier : Indicator no_indicators (step h) once middle
  pub later : Indicator once middle header after

-- a header up to one of its indicators
pub data HeaderFront (h : Here) : BlockHeader → Here → Type 0 where
  at_first : HeaderFront h no_indicators (step h)
  at_second : {once : BlockHeader} {middle : Here} → Indicator no_indicators (step h) once middle
      → HeaderFront h once middle

-- what stands behind a header: blanks and a comment, or blanks
pub data LexemeTail (h : Here) : Option CommentRead → Here → Type 0 where
  commented : {after : Here} (b : ℕ) (blanks rest : List ℕ) (c : CommentRead) → BlanksBehind h (b ∷ blanks) rest
      → starts_comment rest ≡ true → StandsComment (over (b ∷ blanks) h) c after → LexemeTail h (Some c) after
  uncommented : {after : Here} (blanks rest : List ℕ) → BlanksBehind h blanks rest
      → starts_comment rest ≡ false → after ≡ over blanks h → LexemeTail h None after

-- where a line ends: a break, or the end of the text
pub data LineEnds (h : Here) : (broken : Bool) → Here → Type 0 where
  line_broken : {after : Here} → Breaks h after → LineEnds h true after
  line_unbroken : h.unread.text ≡ [] → LineEnds h false h
