-- How strings, numbers and names of JSON are written (RFC 8259, 2, 3, 6 and 7).
use Rattle.std.specs.Prelude.{◌≡◌, ℕ, Bool, true, ◌==◌, ◌&&◌, ◌||◌, not, nat_le, List, [], ◌∷◌, ◌++◌, ◌⊎◌, codes}
use lib.Utf8.{scalar}
use Rattle.granit_base.specs.Classes.{is_digit}
use Rattle.granit_lexemes.specs.Decoding.{AreDigits, is_high, is_low, joined, number_of}
use Rattle.granit_lexemes.specs.Gap.{Each}

-- white space
unfoldable pub is_json_white : ℕ → Bool
is_json_white c = (c == 0x20 || c == 0x09) || (c == 0x0A || c == 0x0D)

abbrev pub White : List ℕ → Type 0
White w = Each is_json_white w

-- ---- strings

-- a character that stands for itself: neither a control, nor a quote or a backslash
unfoldable pub is_unescaped : ℕ → Bool
is_unescaped c = nat_le 0x20 c && not (c == 0x22 || c == 0x5C)

-- what a letter behind a backslash stands for
pub data ShortEscape : (letter character : ℕ) → Type 0 where
  quote : ShortEscape 0x22 0x22
  backslash : ShortEscape 0x5C 0x5C
  slash : ShortEscape 0x2F 0x2F
  backspace : ShortEscape 0x62 0x08
  form_feed : ShortEscape 0x66 0x0C
  line_feed : ShortEscape 0x6E 0x0A
  carriage_return : ShortEscape 0x72 0x0D
  tab : ShortEscape 0x74 0x09

-- A character of a string as it is written. One past U+FFFF may be written as two halves; a half alone is none.
pub data SpellsCharacter : (written : List ℕ) → ℕ → Type 0 where
  itself : {c : ℕ} → is_unescaped c ≡ true → SpellsCharacter (c ∷ []) c
  short : {l c : ℕ} → ShortEscape l c → SpellsCharacter (0x5C ∷ l ∷ []) c
  numbered : {digits : List ℕ} → AreDigits 4 digits → scalar (number_of digits) ≡ true
      → SpellsCharacter (0x5C ∷ 0x75 ∷ digits) (number_of digits)
  halves : {high low : List ℕ} → AreDigits 4 high → is_high (number_of high) ≡ true → AreDigits 4 low
      → is_low (number_of low) ≡ true
      → SpellsCharacter (0x5C ∷ 0x75 ∷ (high ++ 0x5C ∷ 0x75 ∷ low)) (joined (number_of high) (number_of low))

-- what stands between the quotes of a string of these characters
pub data IsString : (source characters : List ℕ) → Type 0 where
  no_more : IsString [] []
  one_more : {source characters more : List ℕ} {c : ℕ} (written : List ℕ) → SpellsCharacter written c
      → source ≡ written ++ more → IsString more characters → IsString source (c ∷ characters)

-- ---- numbers and names

-- at least one decimal digit
abbrev pub Digits : List ℕ → Type 0
Digits [] = ⊥
Digits (d ∷ ds) = (is_digit d ≡ true) × Each is_digit ds

-- the same without a zero in front of others
abbrev pub Whole : List ℕ → Type 0
Whole [] = ⊥
Whole (d ∷ ds) = (is_digit d ≡ true) × Each is_digit ds × (d ≡ 0x30 → ds ≡ [])

pub data Minus : List ℕ → Type 0 where
  positive : Minus []
  negative : Minus (0x2D ∷ [])

pub data Fraction : List ℕ → Type 0 where
  no_fraction : Fraction []
  fraction : {ds : List ℕ} → Digits ds → Fraction (0x2E ∷ ds)

pub data NumberSign : List ℕ → Type 0 where
  unsigned : NumberSign []
  plus : NumberSign (0x2B ∷ [])
  minus : NumberSign (0x2D ∷ [])

pub data Exponent : List ℕ → Type 0 where
  no_exponent : Exponent []
  exponent : (e : ℕ) (sign ds : List ℕ) → (e ≡ 0x65) ⊎ (e ≡ 0x45) → NumberSign sign → Digits ds
      → Exponent (e ∷ (sign ++ ds))

pub record IsJsonNumber (characters : List ℕ) : Type 0 where
  pub sign : List ℕ
  pub whole : List ℕ
  pub rest : List ℕ
  pub power : List ℕ
  pub is : characters ≡ sign ++ (whole ++ (rest ++ power))
  pub minus : Minus sign
  pub digits : Whole whole
  pub fraction : Fraction rest
  pub exponent : Exponent power

abbrev pub IsName : List ℕ → Type 0
IsName characters = (characters ≡ codes "true") ⊎ ((characters ≡ codes "false") ⊎ (characters ≡ codes "null"))
