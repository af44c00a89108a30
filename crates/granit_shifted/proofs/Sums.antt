-- Numbers that are raised alike are compared alike.
use Rattle.std.proofs.Common.{◌≡◌, ℕ, suc, ◌+◌, ◌-◌, ◌==◌, arith}
use Rattle.std.proofs.lemmas.Bool.Decides.{nat_tests}
use Rattle.std.specs.Prelude.{nat_lt}

pub sum_lt : (n i j : ℕ) → nat_lt (n + i) (n + j) ≡ nat_lt i j
sum_lt n i j = grind (arith, nat_tests)

pub sum_lt_more : (n i k j : ℕ) → nat_lt ((n + i) + k) (n + j) ≡ nat_lt (i + k) j
sum_lt_more n i k j = grind (arith, nat_tests)

pub sum_eq : (n i j : ℕ) → (n + i == n + j) ≡ (i == j)
sum_eq n i j = grind (arith, nat_tests)

pub sum_eq_suc : (n i j : ℕ) → (n + i == suc (n + j)) ≡ (i == suc j)
sum_eq_suc n i j = grind (arith, nat_tests)

pub sum_minus : (n i j : ℕ) → ((n + i) - (n + j)) ≡ (i - j)
sum_minus n i j = omega arith

pub sum_suc : (n i : ℕ) → suc (n + i) ≡ n + suc i
sum_suc n i = omega arith

pub sum_more : (n i j : ℕ) → ((n + i) + j) ≡ (n + (i + j))
sum_more n i j = omega arith

pub none_before : (n : ℕ) → n ≡ 0 → 0 ≡ (n + 0)
none_before n e = omega (arith, e)
