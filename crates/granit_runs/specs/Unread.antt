-- How what is left to be read goes on.
use Rattle.std.specs.Prelude.{◌≡◌, ◌≤◌, ℕ, ◌+◌, ◌-◌, true, List, length, take, drop, Option, Some}
use Rattle.std.specs.Option.{option_map}
use Rattle.std.specs.Str.{chars, encode_utf8_all, is_utf8}
use Rattle.granit_base.specs.Place.{Unread}

-- how many bytes these characters take in UTF-8
abbrev pub utf8_length : List ℕ → ℕ
utf8_length text = length (encode_utf8_all text)

-- behind n characters, or at the end where fewer are left
unfoldable pub past_count : ℕ → Unread → Unread
past_count n u = record {
  text = drop n u.text;
  offset = option_map (λ bytes. bytes + utf8_length (take n u.text)) u.offset;
  lends = u.lends;
}

-- from that offset on the bytes are the UTF-8 of the text
pub record Spells (bytes : List ℕ) (at : ℕ) (text : List ℕ) : Type 0 where
  pub within : at ≤ length bytes
  pub utf8 : is_utf8 (drop at bytes) ≡ true
  pub spelled : chars (drop at bytes) ≡ text

-- where there is a source and the offset is told, the source spells what is left
abbrev pub SpelledBy : Option (List ℕ) → Unread → Type 0
SpelledBy source u = (bytes : List ℕ) (at : ℕ) → source ≡ Some bytes → u.offset ≡ Some at → Spells bytes at u.text

-- what is left of a string
abbrev pub left_of : List ℕ → List ℕ → Unread
left_of source rest = record { text = chars rest; offset = Some (length source - length rest); lends = true }
