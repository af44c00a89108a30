-- The digits of a number, one by one.
use Rattle.std.proofs.Common.{◌≡◌, ◌≢◌, ℕ, zero, suc, ◌+◌, ◌-◌, ◌*◌, ◌<◌, ◌≤◌, ◌^◌, ◌==◌, true, false, length, Result}
use Rattle.std.proofs.Common.{Ok, Err, refl, sym, ap, ap₂, ◌∙◌, subst, arith}
use Rattle.std.specs.Prelude.{nat_lt}
use Rattle.std.proofs.lemmas.Bool.{cond-true, cond-false}
use Rattle.std.proofs.lemmas.Bool.Decides.{nat_tests}
use Rattle.std.proofs.Math.Nat.{pow-suc, pow-le-pow_right}
use Rattle.granit_base.specs.Classes.{is_digit, is_hex, hex_value}
use Rattle.granit_base.specs.Place.{Mark}
use Rattle.granit_cursor.specs.Reading.{GivesTo}
use Rattle.granit_error.specs.Refused.{Refused}
use Rattle.granit_error.specs.FaultKind.{MissingYamlVersion, YamlVersionTooLong}
use Rattle.granit_lexemes.specs.Basics.{fails_at, count_up_to, text_up_to}
use Rattle.granit_lexemes.specs.Directive.{digits_value, version_number}
use Rattle.granit_lexemes.specs.Here.{Here, next_char, step, past}
use Rattle.granit_directives.specs.VersionCode.{counted_number}
use Rattle.granit_properties.proofs.WordLemmas.{up_to_length, run_on, run_ends}

pub no_nul_digit : is_digit 0 ≡ false
unfolding is_digit
no_nul_digit = refl

pub digit_value : (c : ℕ) → is_digit c ≡ true → (hex_value c ≡ c - 0x30) × (hex_value c < 10)
unfolding is_digit hex_value
digit_value c e = (grind (arith, nat_tests), grind (arith, nat_tests))

-- behind so many digits, of that number
pub record Digits (h now : Here) (count number : ℕ) : Type 0 where
  pub goes : past is_digit now ≡ past is_digit h
  pub counts : count + count_up_to now (past is_digit now) ≡ count_up_to h (past is_digit h)
  pub values : digits_value number (text_up_to now (past is_digit now))
      ≡ digits_value 0 (text_up_to h (past is_digit h))

pub digits_begin : (h : Here) → Digits h h 0 0
digits_begin h = record { goes = refl; counts = omega arith; values = refl }

pub digits_on : (h now : Here) (count number : ℕ) → is_digit (next_char now) ≡ true → Digits h now count number
    → Digits h (step now) (count + 1) (number * 10 + hex_value (next_char now))
digits_on h now count number is d =
    let on = run_on is_digit now no_nul_digit is in
    let less : count_up_to now (past is_digit now) ≡ suc (count_up_to (step now) (past is_digit (step now))) =
    sym (up_to_length now (past is_digit now)) ∙ ap (length {A = ℕ}) on.1
    ∙ ap suc (up_to_length (step now) (past is_digit (step now))) in
    record {
      goes = on.0 ∙ d.goes;
      counts = omega (arith, less, d.counts);
      values = ap (λ n. digits_value (number * 10 + n) (text_up_to (step now) (past is_digit (step now))))
          (digit_value (next_char now) is).0
          ∙ ap (digits_value number) (sym on.1)
          ∙ d.values;
    }

ends : (h now : Here) (count number : ℕ) → is_digit (next_char now) ≡ false → Digits h now count number
    → (past is_digit h ≡ now) × (count_up_to h (past is_digit h) ≡ count)
    × (digits_value 0 (text_up_to h (past is_digit h)) ≡ number)
ends h now count number none d =
    let end = run_ends is_digit now none in
    let zero_left : count_up_to now (past is_digit now) ≡ 0 = sym (up_to_length now (past is_digit now))
    ∙ ap (length {A = ℕ}) end.1 in
    (sym d.goes ∙ end.0, omega (arith, zero_left, d.counts), sym d.values ∙ ap (digits_value number) end.1)

pub number_given : (start : Mark) (h now : Here) (count number : ℕ) → is_digit (next_char now) ≡ false
    → Digits h now count number → count ≢ 0 → count ≤ 9 → version_number start h ≡ Ok (number, now)
unfolding version_number
number_given start h now count number none d some few =
    let e = ends h now count number none d in
    let a : (count_up_to h (past is_digit h) == 0) ≡ false = rw e.1 (not_none count some) in
    let b : nat_lt 9 (count_up_to h (past is_digit h)) ≡ false = rw e.1 (grind (arith, nat_tests)) in
    cond-false (count_up_to h (past is_digit h) == 0) _ _ a
    ∙ cond-false (nat_lt 9 (count_up_to h (past is_digit h))) _ _ b ∙ ap₂ (λ n (g : Here). Ok (n, g)) e.2 e.0
  where
    not_none : (n : ℕ) → n ≢ 0 → (n == 0) ≡ false
    not_none zero p = absurd (p refl)
    not_none (suc n) p = grind (arith, nat_tests)

pub number_missing : (start : Mark) (h now : Here) (number : ℕ) → is_digit (next_char now) ≡ false
    → Digits h now 0 number → version_number start h ≡ fails_at MissingYamlVersion start
unfolding version_number
number_missing start h now number none d =
    let e = ends h now 0 number none d in
    cond-true (count_up_to h (past is_digit h) == 0) _ _ (ap (λ n. n == 0) e.1)

pub number_long : (start : Mark) (h now : Here) (number : ℕ) → is_digit (next_char now) ≡ true → Digits h now 9 number
    → version_number start h ≡ fails_at YamlVersionTooLong start
unfolding version_number
number_long start h now number is d =
    let on = digits_on h now 9 number is d in
    let c = on.counts in
    let a : (count_up_to h (past is_digit h) == 0) ≡ false = grind (arith, nat_tests, c) in
    let b : nat_lt 9 (count_up_to h (past is_digit h)) ≡ true = grind (arith, nat_tests, c) in
    cond-false (count_up_to h (past is_digit h) == 0) _ _ a
    ∙ cond-true (nat_lt 9 (count_up_to h (past is_digit h))) _ _ b

-- what is said of the number that was counted
pub number_result : (start : Mark) (h now : Here) (count number : ℕ) (Lands : Here → Type 0) (r : Result ℕ Refused)
    → is_digit (next_char now) ≡ false → Digits h now count number → count ≤ 9 → Lands now
    → counted_number start count number r → GivesTo (λ n. n) r Lands (version_number start h)
number_result start h now count number Lands (Ok n) none d few lands given =
    (now, lands, number_given start h now count number none d given.0 few ∙ ap (λ m. Ok (m, now)) (sym given.1))
number_result start h now count number Lands (Err e) none d few lands given =
    λ other. number_missing start h now number none (subst (λ k. Digits h now k number) given.0 d)
    ∙ ap Err (sym given.1)

pub digit_hex : (c : ℕ) → is_digit c ≡ true → is_hex c ≡ true
unfolding is_hex
digit_hex c e = rw e refl

pub digits_fit : (count number d : ℕ) → count < 9 → number < 10 ^ count → d < 10 → (number * 10 + d < 10 ^ (count + 1))
    × (number * 10 + d < 4294967296)
digits_fit count number d few fits small =
    let e : 10 ^ (count + 1) ≡ 10 ^ count * 10 = ap (λ (k : ℕ). 10 ^ k) (omega arith) ∙ pow-suc 10 count in
    let le : count + 1 ≤ 9 = omega arith in
    let most : 10 ^ (count + 1) ≤ 10 ^ 9 = pow-le-pow_right (omega arith) le in
    (omega (arith, e), omega (arith, e, most))
