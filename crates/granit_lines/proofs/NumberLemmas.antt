-- Numbers as a front and two digits.
use Rattle.std.proofs.Common.{◌≡◌, ℕ, zero, suc, ◌+◌, ◌-◌, ◌*◌, ◌/◌, ◌%◌, ◌^◌, ◌<◌, ◌≤◌, ◌==◌}
use Rattle.std.proofs.Common.{if◌then◌else◌, true, false, List, [], ◌∷◌, ◌++◌, length, take, drop, map}
use Rattle.std.proofs.Common.{set, get_or, refl, sym, ap, ap₂, ◌∙◌, inl, inr, arith, decimal, eq-zero-or-pos}
use Rattle.std.specs.List.{range_with_len}
use Rattle.std.proofs.lemmas.Bool.Decides.{nat_tests}
use Rattle.std.proofs.lemmas.Fmt.{decimal_digit, decimal_nonempty, decimal_step, length-decimal-le}
use Rattle.std.proofs.lemmas.List.{append-nil, drop_all, same_from_push, take_all, take_more}
use Rattle.std.proofs.lemmas.List.{take_more_set}
use Rattle.std.proofs.lemmas.List.FromFn.{get_or-map-range_with_len}
use Rattle.itoa.proofs.Decimal.{decimal_pair}
use Rattle.granit_lines.specs.declared.numbers.TheConstants.{PAIRS}

-- ---- the table

abbrev digit_at : ℕ → ℕ
digit_at i = if i % 2 == 0 then 48 + i / 20 else 48 + i / 2 % 10

all_pairs : PAIRS ≡ map digit_at (range_with_len 0 200)
all_pairs = refl

looked_up : (i : ℕ) → i < 200 → get_or PAIRS i 0 ≡ digit_at i
looked_up i small =
    ap (λ (bs : List ℕ). get_or bs i 0) all_pairs
    ∙ get_or-map-range_with_len digit_at 0 200 i i 0 small (omega arith)

pub tens_at : (p : ℕ) → p < 100 → get_or PAIRS (p * 2) 0 ≡ 48 + p / 10
tens_at p small =
    let even : (p * 2 % 2 == 0) ≡ true = grind (arith, nat_tests) in
    let tens : p * 2 / 20 ≡ p / 10 = omega arith in
    looked_up (p * 2) (omega (arith, small)) ∙ rw (even, tens) refl

pub ones_at : (p : ℕ) → p < 100 → get_or PAIRS (p * 2 + 1) 0 ≡ 48 + p % 10
ones_at p small =
    let odd : ((p * 2 + 1) % 2 == 0) ≡ false = grind (arith, nat_tests) in
    let half : (p * 2 + 1) / 2 ≡ p = omega arith in
    looked_up (p * 2 + 1) (omega (arith, small)) ∙ rw (odd, half) refl

-- ---- numbers

-- a number is the front that is kept, and two digits
pub decimal_near : (n base pair count : ℕ) (digits : List ℕ) → 100 ≤ n → n < 2 ^ 64 → base % 100 ≡ 0 → n ≡ base + pair
    → pair < 100 → take count digits ≡ decimal (base / 100)
    → decimal n ≡ take count digits ++ ((48 + pair / 10) ∷ (48 + pair % 10) ∷ [])
decimal_near n base pair count digits large small even parts short told =
    let front : n / 100 ≡ base / 100 = omega (arith, even, parts, short) in
    let last : n % 100 ≡ pair = omega (arith, even, parts, short) in
    rw (decimal_pair n large small, front, last, told) refl

pub at_most_eight : (n : ℕ) → n < 10 ^ 10 → length (decimal (n / 100)) ≤ 8
at_most_eight n near = length-decimal-le 8 (n / 100) (omega arith) (omega (arith, near)) (omega (arith, near))

pub at_most_twenty : (n : ℕ) → n < 2 ^ 64 → length (decimal n) ≤ 20
at_most_twenty n small = length-decimal-le 20 n (omega arith) (omega (arith, small)) small

-- what was written up to the end of a buffer
pub written_digits : (buffer digits old : List ℕ) (end start : ℕ) → drop start buffer ≡ digits ++ drop end old
    → length old ≡ end → start + length digits ≡ end → take (end - start) (drop start buffer) ≡ digits
written_digits buffer digits old end start is long parts =
    ap (take (end - start)) (is ∙ ap (λ (xs : List ℕ). digits ++ xs) (drop_all end old (omega (arith, long)))
    ∙ append-nil digits)
    ∙ take_all (end - start) digits (omega (arith, parts))

-- ---- the next hundred

-- a number and the next one differ in the last digit, where that is below nine
parted : (k : ℕ) → k < 10 ^ 8 → (front : List ℕ) × (decimal k ≡ front ++ (48 + k % 10) ∷ [])
    × (k % 10 < 9 → decimal (k + 1) ≡ front ++ (48 + k % 10 + 1) ∷ [])
parted k small =
    elim (eq-zero-or-pos (k / 10)) [
      | inl z ↦ let low : k < 10 = omega (arith, z) in let last : k ≡ k % 10 = omega arith in (
        [],
        decimal_digit k low ∙ ap (λ (d : ℕ). (48 + d) ∷ []) last,
        λ less. decimal_digit (k + 1) (omega (arith, last, less)) ∙ ap (λ (d : ℕ). d ∷ []) (omega (arith, last)),
      )
      | inr p ↦ let high : 10 ≤ k = omega (arith, p) in (
        decimal (k / 10),
        decimal_step k high (omega (arith, small)),
        λ less. decimal_step (k + 1) (omega (arith, high)) (omega (arith, small))
            ∙ ap₂ (λ (f d : ℕ). decimal f ++ d ∷ []) (omega (arith, less)) (omega (arith, less)),
      )
    ]

pub some_digit : (k count : ℕ) (digits : List ℕ) → k < 10 ^ 8 → take count digits ≡ decimal k → 1 ≤ count
some_digit k zero digits small told = absurd (omega (arith, decimal_nonempty k (omega (arith, small)), ap length told))
some_digit k (suc m) digits small told = omega arith

last_told : (count : ℕ) (digits front : List ℕ) (d : ℕ) → 1 ≤ count → count ≤ length digits
    → take count digits ≡ front ++ d ∷ [] → (take (count - 1) digits ≡ front) × (get_or digits (count - 1) 0 ≡ d)
last_told count digits front d some few told =
    let whole : count ≡ count - 1 + 1 = omega (arith, some) in
    same_from_push (take (count - 1) digits) front (get_or digits (count - 1) 0) d
    (sym (take_more digits (count - 1) 0 (omega (arith, some, few)))
    ∙ ap (λ (n : ℕ). take n digits) (sym whole) ∙ told)

pub last_digit : (k count : ℕ) (digits : List ℕ) → k < 10 ^ 8 → count ≤ length digits
    → take count digits ≡ decimal k → get_or digits (count - 1) 0 ≡ 48 + k % 10
last_digit k count digits small few told =
    let p = parted k small in
    (last_told count digits p.0 (48 + k % 10) (some_digit k count digits small told) few (told ∙ p.1)).1

pub last_raised : (k count : ℕ) (digits : List ℕ) → k < 10 ^ 8 → count ≤ length digits
    → take count digits ≡ decimal k → k % 10 < 9
    → take count (set digits (count - 1) (get_or digits (count - 1) 0 + 1)) ≡ decimal (k + 1)
last_raised k count digits small few told less =
    let p = parted k small in
    let some = some_digit k count digits small told in
    let last = last_told count digits p.0 (48 + k % 10) some few (told ∙ p.1) in
    let whole : count ≡ count - 1 + 1 = omega (arith, some) in
    ap (λ (n : ℕ). take n (set digits (count - 1) (get_or digits (count - 1) 0 + 1))) whole
    ∙ take_more_set digits (count - 1) (get_or digits (count - 1) 0 + 1) (omega (arith, some, few))
    ∙ ap₂ (λ (f : List ℕ) (d : ℕ). f ++ (d + 1) ∷ []) last.0 last.1 ∙ sym (p.2 less)
