-- Lists of numbers in another list's order, and numbers below one.
use Rattle.std.proofs.Common.{◌≡◌, ℕ, suc, ◌<◌, ◌≤◌, ◌==◌, ◌||◌, Bool, false, List, [], ◌∷◌, Option, Some, None}
use Rattle.std.proofs.Common.{◌⊎◌, inl, inr, refl, ap, ◌∙◌, arith}
use Rattle.std.proofs.lemmas.Bool.{or_parts, or_from}
use Rattle.std.proofs.lemmas.Bool.Decides.{nat_tests}
use Rattle.granit_lexemes.specs.Lexeme.{KeyStart}
use Rattle.granit_machine.specs.Lexing.{and_key}

abbrev pub IsNil : List ℕ → Type 0
IsNil [] = Unit {0}
IsNil (x ∷ xs) = ⊥

abbrev pub StartsWith : List ℕ → ℕ → (List ℕ → Type 0) → Type 0
StartsWith [] y rest = ⊥
StartsWith (x ∷ xs) y rest = (x ≡ y) × rest xs

-- some of a list, in its order
abbrev pub Sub : List ℕ → List ℕ → Type 0
Sub xs [] = IsNil xs
Sub xs (y ∷ ys) = StartsWith xs y (λ t. Sub t ys) ⊎ Sub xs ys

pub sub_nil : (ys : List ℕ) → Sub [] ys
sub_nil [] = tt
sub_nil (y ∷ ys) = inr (sub_nil ys)

pub sub_refl : (xs : List ℕ) → Sub xs xs
sub_refl [] = tt
sub_refl (x ∷ xs) = inl (refl, sub_refl xs)

pub sub_trans : (xs ys zs : List ℕ) → Sub xs ys → Sub ys zs → Sub xs zs
sub_trans xs [] [] p q = p
sub_trans xs (y ∷ ys) [] p q = absurd q
sub_trans xs ys (z ∷ zs) p (inr q) = inr (sub_trans xs ys zs p q)
sub_trans xs [] (z ∷ zs) p (inl q) = absurd q
sub_trans xs (y ∷ ys) (z ∷ zs) (inr p) (inl q) = inr (sub_trans xs ys zs p q.1)
sub_trans [] (y ∷ ys) (z ∷ zs) (inl p) (inl q) = absurd p
sub_trans (x ∷ xs) (y ∷ ys) (z ∷ zs) (inl p) (inl q) = inl (p.0 ∙ q.0, sub_trans xs ys zs p.1 q.1)

-- without the first
pub sub_rest : (x : ℕ) (xs ys : List ℕ) → Sub (x ∷ xs) ys → Sub xs ys
sub_rest x xs ys p = sub_trans xs (x ∷ xs) ys (inr (sub_refl xs)) p

-- ---- which numbers are in a list

abbrev pub is_in : ℕ → List ℕ → Bool
is_in n [] = false
is_in n (m ∷ ms) = (m == n) || is_in n ms

pub sub_in : (n : ℕ) (xs ys : List ℕ) → Sub xs ys → is_in n ys ≡ false → is_in n xs ≡ false
sub_in n [] [] p e = refl
sub_in n (x ∷ xs) [] p e = absurd p
sub_in n xs (y ∷ ys) (inr p) e = sub_in n xs ys p (or_parts (y == n) (is_in n ys) e).1
sub_in n [] (y ∷ ys) (inl p) e = refl
sub_in n (x ∷ xs) (y ∷ ys) (inl p) e =
    or_from (x == n) (is_in n xs) (ap (λ k. k == n) p.0 ∙ (or_parts (y == n) (is_in n ys) e).0)
    (sub_in n xs ys p.1 (or_parts (y == n) (is_in n ys) e).1)

-- ---- numbers below one

abbrev pub Below : ℕ → List ℕ → Type 0
Below n [] = Unit {0}
Below n (x ∷ xs) = (x < n) × Below n xs

pub sub_below : (n : ℕ) (xs ys : List ℕ) → Sub xs ys → Below n ys → Below n xs
sub_below n [] ys p q = tt
sub_below n (x ∷ xs) [] p q = absurd p
sub_below n (x ∷ xs) (y ∷ ys) (inl p) q = let e = p.0 in let less =
    q.0 in (omega (arith, e, less), sub_below n xs ys p.1 q.1)
sub_below n (x ∷ xs) (y ∷ ys) (inr p) q = sub_below n (x ∷ xs) ys p q.1

pub below_suc : (n : ℕ) (xs : List ℕ) → Below n xs → Below (suc n) xs
below_suc n [] p = tt
below_suc n (x ∷ xs) p = let less = p.0 in (omega (arith, less), below_suc n xs p.1)

pub below_not : (n m : ℕ) (xs : List ℕ) → n ≤ m → Below n xs → is_in m xs ≡ false
below_not n m [] h p = refl
below_not n m (x ∷ xs) h p = let less = p.0 in let e : (x == m)
    ≡ false = grind (arith, nat_tests) in or_from (x == m) (is_in m xs) e (below_not n m xs h p.1)

pub sub_key : (k : Option KeyStart) (xs ys : List ℕ) → Sub xs ys → Sub (and_key k xs) (and_key k ys)
sub_key None xs ys p = p
sub_key (Some k) xs ys p = inl (refl, p)

pub sub_without_key : (k : Option KeyStart) (xs ys : List ℕ) → Sub xs ys → Sub xs (and_key k ys)
sub_without_key None xs ys p = p
sub_without_key (Some k) xs ys p = inr p
