-- Hexadecimal digits.
use Rattle.std.proofs.Common.{◌≡◌, ℕ, zero, suc, ◌-◌, ◌/◌, ◌%◌, ◌^◌, ◌<◌, ◌≤◌, ◌==◌, Bool, true, false, List, []}
use Rattle.std.proofs.Common.{◌∷◌, ◌+◌, ◌*◌, ◌++◌, if◌then◌else◌, length, refl, sym, ap, subst, ◌∙◌, arith}
use Rattle.std.proofs.Common.{append_assoc, encode_utf8}
use Rattle.std.specs.Fmt.{digits, digits_onto, digit_glyph, radix_digits}
use Rattle.std.proofs.Math.Nat.{pow-suc}
use Rattle.std.proofs.lemmas.Bool.Decides.{nat_tests}
use Rattle.std.proofs.lemmas.List.{length_push}
use Rattle.std.proofs.lemmas.Nat.{div_below}
use Rattle.std.proofs.lemmas.Str.{length-encode}

fewer : (n k : ℕ) → n < 16 ^ suc k → n / 16 < 16 ^ k
fewer n k small = div_below n 16 (16 ^ k) (omega arith) (subst (λ (m : ℕ). n < m) (pow-suc 16 k) small)

-- one digit of a number is in front of those behind it
one_more : (n end : ℕ) (acc : List ℕ) → 0 < end → digits_onto end 16 false n acc
    ≡ (if n / 16 == 0 then digit_glyph false (n % 16) ∷ acc
    else digits_onto (end - 1) 16 false (n / 16) (digit_glyph false (n % 16) ∷ acc))
one_more n zero acc some = absurd (omega (arith, some))
one_more n (suc k) acc some =
    let less : suc k - 1 ≡ k = omega arith in
    rw less refl

where_else : (b : Bool) (x y z : List ℕ) → (b ≡ false → y ≡ z) → (if b then x else y) ≡ (if b then x else z)
where_else true x y z e = refl
where_else false x y z e = e refl

-- more room changes no digits
same_digits : (m k n : ℕ) (acc : List ℕ) → 0 < k → k ≤ m → n < 16 ^ k
    → digits_onto m 16 false n acc ≡ digits_onto k 16 false n acc
same_digits m zero n acc some within small = absurd (omega (arith, some))
same_digits zero (suc k) n acc some within small = absurd (omega (arith, within))
same_digits (suc m) (suc zero) n acc some within small =
    where_else (n / 16 == 0) _ _ _ (λ more. absurd (grind (arith, nat_tests, more, small)))
same_digits (suc m) (suc (suc k)) n acc some within small =
    where_else (n / 16 == 0) _ _ _ (λ more. same_digits m (suc k) (n / 16) (digit_glyph false (n % 16) ∷ acc)
    (omega arith) (omega (arith, within)) (fewer n (suc k) small))

-- ---- digits from the first on

if_append : (b : Bool) (x y x2 y2 acc : List ℕ) → x ≡ x2 ++ acc → y ≡ y2 ++ acc
    → (if b then x else y) ≡ (if b then x2 else y2) ++ acc
if_append true x y x2 y2 acc e f = e
if_append false x y x2 y2 acc e f = f

-- what stands behind the digits changes none
behind : (k n : ℕ) (acc : List ℕ) → digits_onto k 16 false n acc ≡ digits_onto k 16 false n [] ++ acc
behind zero n acc = refl
behind (suc k) n acc =
    let last = digit_glyph false (n % 16) in
    if_append (n / 16 == 0) _ _ _ _ acc refl
    (behind k (n / 16) (last ∷ acc)
    ∙ sym (append_assoc (digits_onto k 16 false (n / 16) []) (last ∷ []) acc)
    ∙ ap (λ (xs : List ℕ). xs ++ acc) (sym (behind k (n / 16) (last ∷ []))))

pub one_digit : (n : ℕ) → n < 16 → radix_digits 16 false n ≡ digit_glyph false n ∷ []
unfolding digits
one_digit n small =
    let none : (n / 16 == 0) ≡ true = grind (arith, nat_tests, small) in
    let itself : n % 16 ≡ n = omega (arith, small) in
    one_more n 64 [] (omega arith) ∙ rw (none, itself) refl

pub hex_step : (n : ℕ) → 16 ≤ n → n < 2 ^ 32
    → radix_digits 16 false n ≡ radix_digits 16 false (n / 16) ++ digit_glyph false (n % 16) ∷ []
unfolding digits
hex_step n large small =
    let some : (n / 16 == 0) ≡ false = grind (arith, nat_tests, large) in
    let last = digit_glyph false (n % 16) in
    one_more n 64 [] (omega arith) ∙ rw some (behind 63 (n / 16) (last ∷ []))
    ∙ ap (λ (xs : List ℕ). xs ++ (last ∷ []))
    (sym (same_digits 64 63 (n / 16) [] (omega arith) (omega arith) (omega (arith, small))))

pub hex_longer : (n : ℕ) → 16 ≤ n → n < 2 ^ 32
    → length (radix_digits 16 false n) ≡ length (radix_digits 16 false (n / 16)) + 1
hex_longer n large small =
    ap length (hex_step n large small) ∙ length_push (radix_digits 16 false (n / 16)) (digit_glyph false (n % 16))

-- ---- how many digits

either_few : (b : Bool) (x y : List ℕ) (k : ℕ) → length x ≤ k → length y ≤ k → length (if b then x else y) ≤ k
either_few true x y k e f = e
either_few false x y k e f = f

onto_few : (k n : ℕ) (acc : List ℕ) → length (digits_onto k 16 false n acc) ≤ k + length acc
onto_few zero n acc = omega arith
onto_few (suc k) n acc =
    either_few (n / 16 == 0) _ _ (suc k + length acc) (omega arith)
    (let more = onto_few k (n / 16) (digit_glyph false (n % 16) ∷ acc) in omega (arith, more))

pub few_digits : (k n : ℕ) → 0 < k → k ≤ 64 → n < 16 ^ k → length (radix_digits 16 false n) ≤ k
unfolding digits
few_digits k n some within small =
    let few = onto_few k n [] in
    rw (same_digits 64 k n [] some within small) (omega (arith, few))

-- what stands for a character takes six bytes at most for each of its own
pub escape_fits : (c : ℕ) → c < 0x110000 → length (radix_digits 16 false c) + 4 ≤ 6 * length (encode_utf8 c)
escape_fits c small =
    let bytes = length-encode c in
    let two : c < 0x100 → length (radix_digits 16 false c) ≤ 2 = few_digits 2 c (omega arith) (omega arith) in
    let three : c < 0x1000 → length (radix_digits 16 false c) ≤ 3 = few_digits 3 c (omega arith) (omega arith) in
    let four : c < 0x10000 → length (radix_digits 16 false c) ≤ 4 = few_digits 4 c (omega arith) (omega arith) in
    let six = few_digits 6 c (omega arith) (omega arith) (omega (arith, small)) in
    grind (arith, nat_tests, bytes, two, three, four, six)
