-- What comes from an iterator that may fail.
use Rattle.std.specs.Prelude.{◌≡◌, ℕ, Bool, true, false, List, [], ◌∷◌, Option, Some, None, Result, Ok, Err}
use Rattle.std.specs.Iterator.{Count}
use Rattle.granit_error.specs.FaultKind.{FaultKind}
use Rattle.granit_error.specs.Kinds.{kind_of}
use Rattle.granit_error.specs.declared.kind.ErrorKind.{ErrorKind}
use Rattle.granit_buffered.specs.Feeds.{GivesOnly}
use Rattle.granit_buffered.specs.declared.fallible.Progress.{Progress}
use Rattle.granit_buffered.specs.declared.fallible.Progress.TheVariants.{Going, Ended, Failed, HandedOut}

-- the characters before the first error
abbrev pub characters_of : List (Result ℕ ErrorKind) → List ℕ
characters_of [] = []
characters_of (Ok c ∷ items) = c ∷ characters_of items
characters_of (Err kind ∷ items) = []

-- the first error
abbrev pub first_error : List (Result ℕ ErrorKind) → Option FaultKind
first_error [] = None
first_error (Ok c ∷ items) = first_error items
first_error (Err kind ∷ items) = Some (kind_of kind)

abbrev pub progress_ended : Progress → Bool
progress_ended Going = false
progress_ended Ended = true
progress_ended (Failed kind) = true
progress_ended (HandedOut was) = true

abbrev pub was_handed_out : Progress → Bool
was_handed_out Going = false
was_handed_out Ended = false
was_handed_out (Failed kind) = false
was_handed_out (HandedOut was) = true

abbrev pub error_of : Progress → Option FaultKind
error_of Going = None
error_of Ended = None
error_of (Failed kind) = Some (kind_of kind)
error_of (HandedOut was) = Some (kind_of was.value)

-- these are the characters and the error of what an iterator gives, or gave
abbrev pub IteratorGives : {S : Type 0} → (S → Option (Result ℕ ErrorKind) → S → Type 0) → (S → Count) → (ended : Bool)
    → (error : Option FaultKind) → S → List ℕ → Option FaultKind → Type 0
IteratorGives steps remaining true error s xs fault = (xs ≡ []) × (fault ≡ error)
IteratorGives steps remaining false error s xs fault = (items : List (Result ℕ ErrorKind))
    × GivesOnly steps remaining s items × (xs ≡ characters_of items) × (fault ≡ first_error items)

abbrev pub StillComes : {S : Type 0} → (S → Option (Result ℕ ErrorKind) → S → Type 0) → (S → Count) → Progress → S
    → List ℕ → Option FaultKind → Type 0
StillComes steps remaining progress s xs fault =
    IteratorGives steps remaining (progress_ended progress) (error_of progress) s xs fault
