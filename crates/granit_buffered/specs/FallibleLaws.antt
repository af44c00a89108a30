-- Why an iterator that may fail keeps the laws of a feed.
use Rattle.std.proofs.Common.{◌≡◌, ◌≤◌, ℕ, Bool, true, false, List, [], ◌∷◌, length, Option, Result, Ok, Err}
use Rattle.std.proofs.Common.{refl, ap, arith}
use Rattle.std.specs.Prelude.{IsSome}
use Rattle.std.specs.Iterator.{Count}
use Rattle.granit_error.specs.FaultKind.{FaultKind}
use Rattle.granit_error.specs.declared.kind.ErrorKind.{ErrorKind}
use Rattle.granit_buffered.specs.Feeds.{still_left}
use Rattle.granit_buffered.specs.Fallible.{characters_of, IteratorGives, StillComes, progress_ended, error_of}
use Rattle.granit_buffered.specs.FeedLaws.{given_within}
use Rattle.granit_buffered.specs.declared.fallible.Progress.{Progress}
use Rattle.granit_buffered.specs.declared.fallible.Progress.TheVariants.{Going, Ended, Failed, HandedOut}

fewer_characters : (items : List (Result ℕ ErrorKind)) → length (characters_of items) ≤ length items
fewer_characters [] = omega arith
fewer_characters (Ok c ∷ items) = omega (arith, fewer_characters items)
fewer_characters (Err kind ∷ items) = omega arith

within : {S : Type 0} (steps : S → Option (Result ℕ ErrorKind) → S → Type 0) (remaining : S → Count) (ended : Bool)
    (error : Option FaultKind) (s : S) (xs : List ℕ) (fault : Option FaultKind)
    → IteratorGives steps remaining ended error s xs fault → length xs ≤ still_left ended (remaining s)
within steps remaining true error s xs fault k = omega (arith, ap length k.0)
within steps remaining false error s xs fault k =
    omega (arith, ap length k.2, fewer_characters k.0, given_within steps remaining false s k.0 k.1)

to_its_error : {S : Type 0} (steps : S → Option (Result ℕ ErrorKind) → S → Type 0) (remaining : S → Count)
    (ended : Bool) (error : Option FaultKind) (s : S) (xs : List ℕ) (fault : Option FaultKind) → ended ≡ true
    → IteratorGives steps remaining ended error s xs fault → fault ≡ error
to_its_error steps remaining true error s xs fault e k = k.1
to_its_error steps remaining false error s xs fault e k = absurd cc

pub comes_within : {S : Type 0} (steps : S → Option (Result ℕ ErrorKind) → S → Type 0) (remaining : S → Count)
    (progress : Progress) (s : S) (xs : List ℕ) (fault : Option FaultKind)
    → StillComes steps remaining progress s xs fault
    → length xs ≤ still_left (progress_ended progress) (remaining s)
comes_within steps remaining progress s xs fault k =
    within steps remaining (progress_ended progress) (error_of progress) s xs fault k

pub comes_to_its_error : {S : Type 0} (steps : S → Option (Result ℕ ErrorKind) → S → Type 0) (remaining : S → Count)
    (progress : Progress) (s : S) (xs : List ℕ) (fault : Option FaultKind) → progress_ended progress ≡ true
    → StillComes steps remaining progress s xs fault → fault ≡ error_of progress
comes_to_its_error steps remaining progress s xs fault e k =
    to_its_error steps remaining (progress_ended progress) (error_of progress) s xs fault e k

-- an error was met at the end
pub error_ends : (progress : Progress) → IsSome (error_of progress) → progress_ended progress ≡ true
error_ends Going some = absurd cc
error_ends Ended some = refl
error_ends (Failed kind) some = refl
error_ends (HandedOut was) some = refl
