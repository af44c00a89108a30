-- Places in a text, and how a place moves over a character.
use Rattle.std.specs.Prelude.{ℕ, ◌+◌, Bool, ◌&&◌, ◌||◌, ◌==◌, not, if◌then◌else◌, List, length, drop, slice_index}
use Rattle.std.specs.Prelude.{Option}
use Rattle.std.specs.Option.{option_map}
use Rattle.std.specs.Char.{encode_utf8}

-- how many characters stand before it, its line from 1, and its column from 0
pub record Place : Type 0 where
  pub index : ℕ
  pub line : ℕ
  pub column : ℕ

-- a place, and how many bytes stand before it, where that is told
pub record Mark : Type 0 where
  pub place : Place
  pub byte_offset : Option ℕ

abbrev pub same_place : Mark → Mark → Bool
same_place a b = (a.place.index == b.place.index && a.place.line == b.place.line) && a.place.column == b.place.column

-- the first character, and NUL where there is none
abbrev pub first : List ℕ → ℕ
first text = slice_index text 0

-- whether a line ends with the first character: LF, or CR that no LF follows (5.4)
abbrev pub ends_line : List ℕ → Bool
ends_line text = first text == 0x0A || (first text == 0x0D && not (first (drop 1 text) == 0x0A))

-- the place behind the first character of a text, from the place in front of it
abbrev pub place_after : List ℕ → Place → Place
place_after text p =
    if ends_line text then record { index = p.index + 1; line = p.line + 1; column = 0 }
    else record { index = p.index + 1; line = p.line; column = p.column + 1 }

-- what is still to be read: its characters, how many bytes stand before it where that is told, and whether parts of it
-- can be lent
pub record Unread : Type 0 where
  pub text : List ℕ
  pub offset : Option ℕ
  pub lends : Bool

-- without its first character
abbrev pub past_first : Unread → Unread
past_first u = record {
  text = drop 1 u.text;
  offset = option_map (λ n. n + length (encode_utf8 (first u.text))) u.offset;
  lends = u.lends;
}
