-- Calls of an iterator whose items are known.
use Rattle.std.proofs.Common.{◌≡◌, Bool, true, false, List, [], ◌∷◌, Option, Some, None, refl}
use Rattle.std.specs.Iterator.{Count}
use Rattle.granit_buffered.specs.Feeds.{GivesOnly, StillGives}

pub rest_some : {S A : Type 0} (steps : S → Option A → S → Type 0) (remaining : S → Count) (done : Bool) (s t : S)
    (c : A) (xs : List A) → done ≡ false
    → StillGives steps remaining done s xs → steps s (Some c) t
    → (ys : List A) × (xs ≡ c ∷ ys) × StillGives steps remaining done t ys
rest_some steps remaining true s t c xs e known gave = absurd cc
rest_some steps remaining false s t c [] e known gave = let e = known (Some c) t gave in absurd cc
rest_some steps remaining false s t c (x ∷ xs) e known gave =
    let next = known.1 (Some c) t gave in
    let one = next.0 in
    let same : c ≡ x = cc in
    (xs, rw same refl, next.1)

pub rest_none : {S A : Type 0} (steps : S → Option A → S → Type 0) (remaining : S → Count) (done : Bool) (s t : S)
    (xs : List A) → done ≡ false
    → StillGives steps remaining done s xs → steps s None t → xs ≡ []
rest_none steps remaining true s t xs e known gave = absurd cc
rest_none steps remaining false s t [] e known gave = refl
rest_none steps remaining false s t (x ∷ xs) e known gave = let e = (known.1 None t gave).0 in absurd cc

pub rest_ended : {S A : Type 0} (steps : S → Option A → S → Type 0) (remaining : S → Count) (done : Bool) (s : S)
    (xs : List A) → done ≡ true
    → StillGives steps remaining done s xs → xs ≡ []
rest_ended steps remaining true s xs e known = known
rest_ended steps remaining false s xs e known = absurd cc

-- before the first call
pub fresh_gives : {S A : Type 0} (steps : S → Option A → S → Type 0) (remaining : S → Count) (s t : S) (done : Bool)
    (xs : List A) → t ≡ s → done ≡ false → GivesOnly steps remaining s xs → StillGives steps remaining done t xs
fresh_gives steps remaining s t done xs same going known = rw (same, going) known
