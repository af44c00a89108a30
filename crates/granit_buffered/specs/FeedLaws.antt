-- Why an iterator that is asked until it has ended keeps the laws of a feed.
use Rattle.std.proofs.Common.{◌≡◌, ◌≤◌, Bool, true, false, List, [], ◌∷◌, length, Option, refl, ap, arith}
use Rattle.std.specs.Iterator.{Count}
use Rattle.granit_buffered.specs.Feeds.{StillGives, still_left}

pub given_within : {S A : Type 0} (steps : S → Option A → S → Type 0) (remaining : S → Count) (done : Bool) (s : S)
    (xs : List A)
    → StillGives steps remaining done s xs → length xs ≤ still_left done (remaining s)
given_within steps remaining true s xs none = omega (arith, ap length none)
given_within steps remaining false s [] known = omega arith
given_within steps remaining false s (x ∷ xs) known = omega (arith, known.0)

pub none_left : (done : Bool) (c : Count) → done ≡ true → still_left done c ≡ 0
none_left true c e = refl
none_left false c e = absurd cc
