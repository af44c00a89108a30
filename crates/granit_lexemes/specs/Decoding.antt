-- Escapes, and what they stand for (YAML 1.2.2, 5.7).
use Rattle.std.specs.Prelude.{◌≡◌, ℕ, ◌+◌, ◌-◌, ◌*◌, Bool, true, ◌==◌, if◌then◌else◌, List, [], ◌∷◌, ◌++◌, length}
use Rattle.std.specs.Prelude.{Option, Some, None}
use lib.Utf8.{scalar}
use Rattle.granit_base.specs.Classes.{is_within, is_hex, hex_value}
use Rattle.granit_lexemes.specs.Gap.{Each}

-- the character that a letter behind a backslash stands for
unfoldable pub letter_value : ℕ → Option ℕ
letter_value l =
    if l == 0x30 then Some 0x00
    else if l == 0x61 then Some 0x07
    else if l == 0x62 then Some 0x08
    else if l == 0x74 then Some 0x09
    else if l == 0x09 then Some 0x09
    else if l == 0x6E then Some 0x0A
    else if l == 0x76 then Some 0x0B
    else if l == 0x66 then Some 0x0C
    else if l == 0x72 then Some 0x0D
    else if l == 0x65 then Some 0x1B
    else if l == 0x20 then Some 0x20
    else if l == 0x22 then Some 0x22
    else if l == 0x2F then Some 0x2F
    else if l == 0x5C then Some 0x5C
    else if l == 0x4E then Some 0x85
    else if l == 0x5F then Some 0xA0
    else if l == 0x4C then Some 0x2028
    else if l == 0x50 then Some 0x2029
    else None

-- how many hexadecimal digits the letters `x`, `u` and `U` want behind them
unfoldable pub digit_count : ℕ → Option ℕ
digit_count l = if l == 0x78 then Some 2 else if l == 0x75 then Some 4 else if l == 0x55 then Some 8 else None

-- the number that digits write behind those of another
abbrev pub number_behind : ℕ → List ℕ → ℕ
number_behind n [] = n
number_behind n (d ∷ ds) = number_behind (n * 16 + hex_value d) ds

-- the number that hexadecimal digits write
abbrev pub number_of : List ℕ → ℕ
number_of ds = number_behind 0 ds

-- the two halves of a character past U+FFFF in UTF-16, and that character
unfoldable pub is_high : ℕ → Bool
is_high n = is_within 0xD800 0xDBFF n

unfoldable pub is_low : ℕ → Bool
is_low n = is_within 0xDC00 0xDFFF n

abbrev pub joined : (high low : ℕ) → ℕ
joined high low = 0x10000 + (high - 0xD800) * 0x400 + (low - 0xDC00)

-- so many hexadecimal digits
pub record AreDigits (count : ℕ) (digits : List ℕ) : Type 0 where
  pub counted : length digits ≡ count
  pub each : Each is_hex digits

-- the characters of an escape, and the one that it stands for
pub data Escape : List ℕ → ℕ → Type 0 where
  -- a backslash and a letter
  letter : {l c : ℕ} → letter_value l ≡ Some c → Escape (0x5C ∷ l ∷ []) c
  -- a backslash, a letter and the digits that it wants, which write the number of a character
  number : {l count : ℕ} {digits : List ℕ} → digit_count l ≡ Some count → AreDigits count digits
      → scalar (number_of digits) ≡ true → Escape (0x5C ∷ l ∷ digits) (number_of digits)
  -- `\u` and a first half, `\u` and a second half
  halves : {high low : List ℕ} → AreDigits 4 high → is_high (number_of high) ≡ true → AreDigits 4 low
      → is_low (number_of low) ≡ true
      → Escape (0x5C ∷ 0x75 ∷ (high ++ 0x5C ∷ 0x75 ∷ low)) (joined (number_of high) (number_of low))
