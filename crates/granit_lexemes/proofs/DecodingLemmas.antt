-- What every reader of escapes needs of letters, digits and halves.
use Rattle.std.proofs.Common.{◌≡◌, ℕ, ◌+◌, ◌*◌, ◌<◌, ◌≤◌, ◌^◌, true, false, ◌==◌, ◌&&◌, List, [], ◌∷◌, refl, ap, ◌∙◌}
use Rattle.std.proofs.Common.{arith, Some, None}
use Rattle.std.specs.Prelude.{slice_index}
use Rattle.std.proofs.lemmas.Bool.Decides.{nat_tests}
use Rattle.std.proofs.Math.Nat.{pow-suc, pow-le-pow_right}
use lib.Utf8.{scalar}
use Rattle.granit_base.specs.Classes.{is_hex, is_digit, hex_value}
use Rattle.granit_base.specs.Place.{first}
use Rattle.granit_lexemes.specs.Decoding.{letter_value, digit_count, is_high}

-- NUL, which a look past the end gives, is no digit and no letter of an escape
pub no_hex_nul : is_hex 0 ≡ false
unfolding is_hex is_digit
no_hex_nul = refl

pub no_letter_nul : letter_value 0 ≡ None
unfolding letter_value
no_letter_nul = refl

pub no_count_nul : digit_count 0 ≡ None
unfolding digit_count
no_count_nul = refl

-- a letter that wants digits stands for no character by itself
pub number_letter : (l count : ℕ) → digit_count l ≡ Some count → letter_value l ≡ None
unfolding digit_count letter_value
number_letter l count e = grind (arith, nat_tests)

-- `u` wants four digits, and it alone
pub u_wants_four : digit_count 0x75 ≡ Some 4
unfolding digit_count
u_wants_four = refl

pub four_digits : (l count : ℕ) → digit_count l ≡ Some count → count ≡ 4 → l ≡ 0x75
unfolding digit_count
four_digits l count e f = grind (arith, nat_tests)

-- half a character is none
pub half_is_none : (n : ℕ) → is_high n ≡ true → scalar n ≡ false
unfolding is_high
half_is_none n e = grind (arith, nat_tests)

-- a second half begins with `\u`
pub begins_second : (l : List ℕ) → (first l == 0x5C && slice_index l 1 == 0x75) ≡ true
    → (t : List ℕ) × (l ≡ 0x5C ∷ 0x75 ∷ t)
begins_second [] e = absurd (grind (arith, nat_tests))
begins_second (a ∷ []) e = absurd (grind (arith, nat_tests))
begins_second (a ∷ b ∷ t) e =
    let p : a ≡ 0x5C = grind (arith, nat_tests) in
    let q : b ≡ 0x75 = grind (arith, nat_tests) in
    (t, cc)

-- ---- numbers of digits

pub digit_below : (c : ℕ) → is_hex c ≡ true → hex_value c < 16
unfolding is_hex is_digit hex_value
digit_below c is = grind (arith, nat_tests)

-- as many digits as fit
pub digits_fit : (i v : ℕ) → i ≤ 8 → v < 16 ^ i → v < 2 ^ 32
digits_fit i v le fits = let most : 16 ^ i ≤ 16 ^ 8 = pow-le-pow_right (omega arith) le in omega arith

pub digit_space : (i v : ℕ) → v < 16 ^ i → v * 16 < 16 ^ (i + 1)
digit_space i v fits = let e : 16 ^ (i + 1) ≡ 16 ^ i * 16 = ap (λ (k : ℕ). 16 ^ k) (omega arith)
    ∙ pow-suc 16 i in omega arith

pub digit_more : (i v d : ℕ) → v < 16 ^ i → d < 16 → v * 16 + d < 16 ^ (i + 1)
digit_more i v d fits small = let e : 16 ^ (i + 1) ≡ 16 ^ i * 16 = ap (λ (k : ℕ). 16 ^ k) (omega arith)
    ∙ pow-suc 16 i in omega arith
