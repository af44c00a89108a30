-- Moves from one place to another: over given characters, over one break, and over spaces (YAML 1.2.2, 5.4 and 6.1).
use Rattle.std.specs.Prelude.{◌≡◌, ℕ, ◌<◌, ◌≤◌, true, false, List, ◌++◌}
use Rattle.granit_lexemes.specs.BlockHeader.{is_space}
use Rattle.granit_lexemes.specs.Here.{Here, next_char, step, mid_line}
use Rattle.granit_lexemes.specs.PlainExtent.{over}
use Rattle.granit_lexemes.specs.QuotedExtent.{OneBreak}

-- these characters stand between two places
pub record Crosses (h : Here) (cs : List ℕ) (after : Here) : Type 0 where
  pub text : h.unread.text ≡ cs ++ after.unread.text
  pub lands : after ≡ over cs h

-- the same, where what is known of the line doesn't count
pub record Covers (h : Here) (cs : List ℕ) (after : Here) : Type 0 where
  pub text : h.unread.text ≡ cs ++ after.unread.text
  pub lands : mid_line after ≡ mid_line (over cs h)

-- one break stands between two places
pub record Breaks (h after : Here) : Type 0 where
  pub characters : List ℕ
  pub spans : Crosses h characters after
  pub one : OneBreak characters after.unread.text

-- on over all spaces
pub data AllSpaces : (h after : Here) → Type 0 where
  no_space : {h : Here} → is_space (next_char h) ≡ false → AllSpaces h h
  space : {h after : Here} → is_space (next_char h) ≡ true → AllSpaces (step h) after → AllSpaces h after

-- on over spaces, up to a column
pub data Spaces (column : ℕ) : (h after : Here) → Type 0 where
  at_column : {h : Here} → column ≤ h.place.column → Spaces column h h
  no_space_left : {h : Here} → is_space (next_char h) ≡ false → Spaces column h h
  space_left : {h after : Here} → h.place.column < column → is_space (next_char h) ≡ true → Spaces column (step h) after
      → Spaces column h after
