-- What holds of a result: one property of a value, and one of a fault.
use Rattle.std.proofs.Common.{◌≡◌, Bool, true, false, Result, Ok, Err, refl}
use Rattle.std.specs.Prelude.{if◌then◌else◌}
use Rattle.granit_base.specs.Place.{Mark}
use Rattle.granit_error.specs.FaultKind.{FaultKind}
use Rattle.granit_lexemes.specs.Outcome.{Fault, ◌>>=◌}

abbrev pub Answers : {A : Type 0} → (A → Type 0) → (FaultKind → Mark → Type 0) → Result A Fault → Type 0
Answers P Q (Ok x) = P x
Answers P Q (Err f) = Q f.kind f.mark

pub answers_then : {A B : Type 0} (P : A → Type 0) (Q : FaultKind → Mark → Type 0) (R : B → Type 0)
    (W : FaultKind → Mark → Type 0) (r : Result A Fault) (f : A → Result B Fault)
    → Answers P Q r → ((x : A) → P x → Answers R W (f x)) → ((kind : FaultKind) (m : Mark) → Q kind m → W kind m)
    → Answers R W (r >>= f)
answers_then P Q R W (Ok x) f p g h = g x p
answers_then P Q R W (Err e) f p g h = h e.kind e.mark p

-- by what the function answers
pub answers_as : {A B : Type 0} (R : B → Type 0) (W : FaultKind → Mark → Type 0) (r : Result A Fault)
    (f : A → Result B Fault)
    → ((x : A) → r ≡ Ok x → Answers R W (f x)) → ((e : Fault) → r ≡ Err e → W e.kind e.mark) → Answers R W (r >>= f)
answers_as R W (Ok x) f g h = g x refl
answers_as R W (Err e) f g h = h e refl

pub answers_if : {B : Type 0} (R : B → Type 0) (W : FaultKind → Mark → Type 0) (b : Bool) (x y : Result B Fault)
    → (b ≡ true → Answers R W x) → (b ≡ false → Answers R W y) → Answers R W (if b then x else y)
answers_if R W true x y p q = p refl
answers_if R W false x y p q = q refl
