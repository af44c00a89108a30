-- Numbers in decimal, as an option word says them.
use Rattle.std.proofs.Common.{◌≡◌, ◌≢◌, ℕ, zero, suc, ◌<◌, ◌≤◌, ◌^◌, List, [], ◌∷◌, length, get_or, sym, ap, ◌∙◌}
use Rattle.std.proofs.Common.{Bool, true, ◌==◌, subst, arith}
use Rattle.std.proofs.lemmas.Bool.{eqb-true}
use Rattle.std.specs.Prelude.{Result, Ok, Err}
use Rattle.std.specs.Fmt.{decimal}
use Rattle.std.specs.Str.Parse.{AllDigits, digits_value, ParsesUnsigned}
use Rattle.std.proofs.lemmas.Fmt.{decimal-digits_value, decimal_digit, decimal_is_IsNumeral, decimal_nonempty}
use Rattle.std.proofs.lemmas.Fmt.{first_decimal, parse-decimal}
use Rattle.std.proofs.lemmas.Str.Parse.{IsNumeralModel, digit_at, numerals_by_value, parse_plain, tells_digits}
use Rattle.granit_words.specs.Words.{IsNumber}

own : IsNumeralModel (AllDigits 10) (digits_value 10)
own = numerals_by_value (AllDigits 10) tells_digits

small : (n : ℕ) → IsNumber n → n < 2 ^ 64
small n h = omega (arith, h)

pub decimal_value : (n : ℕ) → IsNumber n → digits_value 10 (decimal n) ≡ n
decimal_value n h = (decimal_is_IsNumeral n (small n h)).1

pub not_empty : (digits bytes : List ℕ) (v : Bool) (n : ℕ) → bytes ≡ digits → v ≡ (length bytes == 0) → v ≡ true
    → IsNumber n → digits ≡ decimal n → ⊥
not_empty digits bytes v n same e t h is =
    let none = eqb-true (length bytes) 0 (sym e ∙ t) in
    omega (arith, decimal_nonempty n (small n h), none, ap length (same ∙ is))

-- no sign
pub not_plus : (digits bytes : List ℕ) (n : ℕ) → bytes ≡ digits → get_or bytes 0 0 ≡ 43 → IsNumber n
    → digits ≡ decimal n → ⊥
not_plus digits bytes n same plus h is =
    let some = decimal_nonempty n (small n h) in
    let digit = digit_at (decimal n) 0 (decimal_is_IsNumeral n (small n h)).0.1 some in
    omega (arith, digit, plus, ap (λ (ds : List ℕ). get_or ds 0 0) (same ∙ is))

-- no zero in front of another digit
pub not_zero : (digits bytes : List ℕ) (n : ℕ) → bytes ≡ digits → get_or bytes 0 0 ≡ 48 → length bytes ≢ 1
    → IsNumber n → digits ≡ decimal n → ⊥
not_zero digits bytes zero same first more h is = more (ap length (same ∙ is ∙ decimal_digit 0 (omega arith)))
not_zero digits bytes (suc n) same first more h is =
    omega (
      arith,
      first_decimal (suc n) (omega arith) (small (suc n) h),
      first,
      ap (λ (ds : List ℕ). get_or ds 0 0) (same ∙ is),
    )

-- a zero alone
pub zero_alone : (digits bytes : List ℕ) → bytes ≡ digits → get_or bytes 0 0 ≡ 48 → length bytes ≡ 1
    → digits ≡ decimal 0
zero_alone digits bytes same first one = sym same ∙ on_bytes bytes first one ∙ sym (decimal_digit 0 (omega arith))
  where
    on_bytes : (bs : List ℕ) → get_or bs 0 0 ≡ 48 → length bs ≡ 1 → bs ≡ 48 ∷ []
    on_bytes [] e one = absurd (omega (arith, one))
    on_bytes (b ∷ []) e one = ap (λ (k : ℕ). k ∷ []) e
    on_bytes (b ∷ d ∷ bs) e one = absurd (omega (arith, one))

ok_same : (E : Type 0) (m n : ℕ) → ◌≡◌ {A = Result ℕ E} (Ok m) (Ok n) → m ≡ n
ok_same E m n e = cc

pub not_parsed : (E : Type 0) (digits : List ℕ) (r : Result ℕ E) (x : E) → ParsesUnsigned 64 10 digits r → r ≡ Err x
    → (n : ℕ) → IsNumber n → digits ≡ decimal n → ⊥
not_parsed E digits r x p is n h e =
    let ok : r ≡ Ok n = parse-decimal 64 n digits r (small n h) (small n h) e p in cc

pub too_large : (E : Type 0) (digits : List ℕ) (r : Result ℕ E) (m : ℕ) → ParsesUnsigned 64 10 digits r → r ≡ Ok m
    → 1000000000 ≤ m → (n : ℕ) → IsNumber n → digits ≡ decimal n → ⊥
too_large E digits r m p is large n h e =
    let ok : r ≡ Ok n = parse-decimal 64 n digits r (small n h) (small n h) e p in
    omega (arith, large, h, ok_same E m n (sym is ∙ ok))

is_decimal : (E : Type 0) (digits : List ℕ) (n : ℕ) → ParsesUnsigned {E = E} 64 10 digits (Ok n)
    → get_or digits 0 0 ≢ 43 → get_or digits 0 0 ≢ 48 → digits ≡ decimal n
is_decimal E digits n p sign first =
    let h = parse_plain own {E = E} 64 digits (Ok n) p sign in
    sym (ap decimal h.1 ∙ decimal-digits_value own digits h.0.0 h.0.1 (λ e. absurd (first e)) h.0.2)

pub parsed : (E : Type 0) (digits bytes : List ℕ) (r : Result ℕ E) (n : ℕ) → ParsesUnsigned 64 10 digits r → r ≡ Ok n
    → bytes ≡ digits → get_or bytes 0 0 ≢ 43 → get_or bytes 0 0 ≢ 48 → digits ≡ decimal n
parsed E digits bytes r n p is same sign first =
    is_decimal E digits n (subst (λ (x : Result ℕ E). ParsesUnsigned 64 10 digits x) is p)
    (λ d. sign (ap (λ (bs : List ℕ). get_or bs 0 0) same ∙ d))
    (λ d. first (ap (λ (bs : List ℕ). get_or bs 0 0) same ∙ d))
