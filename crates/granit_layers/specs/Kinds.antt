-- What a parser of several kinds gives: what the kind that it is of gives.
use Rattle.std.specs.Prelude.{ℕ}
use Rattle.granit_layers.specs.Turning.{Next}
use Rattle.granit_layers.specs.declared.kinds.AnyKind.{AnyKind}
use Rattle.granit_layers.specs.declared.kinds.AnyKind.TheVariants.{First, Second, Third, Fourth}

abbrev pub StepsAny : {A B C D : Type 0} → (A → Next → A → Type 0) → (B → Next → B → Type 0)
    → (C → Next → C → Type 0) → (D → Next → D → Type 0) → AnyKind A B C D → Next → AnyKind A B C D → Type 0
StepsAny a b c d (First p) r (First q) = a p r q
StepsAny a b c d (Second p) r (Second q) = b p r q
StepsAny a b c d (Third p) r (Third q) = c p r q
StepsAny a b c d (Fourth p) r (Fourth q) = d p r q
StepsAny a b c d p r q = ⊥

abbrev pub SetsAny : {A B C D : Type 0} → (ℕ → A → A → Type 0) → (ℕ → B → B → Type 0) → (ℕ → C → C → Type 0)
    → (ℕ → D → D → Type 0) → ℕ → AnyKind A B C D → AnyKind A B C D → Type 0
SetsAny a b c d offset (First p) (First q) = a offset p q
SetsAny a b c d offset (Second p) (Second q) = b offset p q
SetsAny a b c d offset (Third p) (Third q) = c offset p q
SetsAny a b c d offset (Fourth p) (Fourth q) = d offset p q
SetsAny a b c d offset p q = ⊥

abbrev pub number_by_kind : {A B C D : Type 0} → (A → ℕ) → (B → ℕ) → (C → ℕ) → (D → ℕ) → AnyKind A B C D → ℕ
number_by_kind a b c d (First p) = a p
number_by_kind a b c d (Second p) = b p
number_by_kind a b c d (Third p) = c p
number_by_kind a b c d (Fourth p) = d p

abbrev pub number_over : {A B C D : Type 0} → (A → ℕ → ℕ) → (B → ℕ → ℕ) → (C → ℕ → ℕ) → (D → ℕ → ℕ)
    → AnyKind A B C D → ℕ → ℕ
number_over a b c d (First p) below = a p below
number_over a b c d (Second p) below = b p below
number_over a b c d (Third p) below = c p below
number_over a b c d (Fourth p) below = d p below
