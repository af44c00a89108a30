-- Calls of an iterator that may fail, whose items are known.
use Rattle.std.proofs.Common.{◌≡◌, ℕ, Bool, true, false, List, [], ◌∷◌, Option, Some, None, Result, Ok, Err}
use Rattle.std.proofs.Common.{refl, ap, ◌∙◌}
use Rattle.std.specs.Iterator.{Count}
use Rattle.granit_error.specs.FaultKind.{FaultKind}
use Rattle.granit_error.specs.Kinds.{kind_of}
use Rattle.granit_error.specs.declared.kind.ErrorKind.{ErrorKind}
use Rattle.granit_buffered.specs.Feeds.{GivesOnly}
use Rattle.granit_buffered.specs.Fallible.{characters_of, first_error, IteratorGives, StillComes}
use Rattle.granit_buffered.specs.declared.fallible.Progress.{Progress}
use Rattle.granit_buffered.specs.declared.fallible.Progress.TheVariants.{Going}
use Rattle.granit_buffered.proofs.FeedLemmas.{rest_some, rest_none}

item_known : {S : Type 0} (steps : S → Option (Result ℕ ErrorKind) → S → Type 0) (remaining : S → Count) (s t : S)
    (item : Result ℕ ErrorKind) (items : List (Result ℕ ErrorKind))
    → GivesOnly steps remaining s items → steps s (Some item) t
    → (more : List (Result ℕ ErrorKind)) × (items ≡ item ∷ more) × GivesOnly steps remaining t more
item_known steps remaining s t item items known gave = rest_some steps remaining false s t item items refl known gave

module _ {S : Type 0} (steps : S → Option (Result ℕ ErrorKind) → S → Type 0) (remaining : S → Count) where
  -- a character came
  pub comes_character : (ended : Bool) (error : Option FaultKind) (s t : S) (c : ℕ) (xs : List ℕ)
      (fault : Option FaultKind) → ended ≡ false → IteratorGives steps remaining ended error s xs fault
      → steps s (Some (Ok c)) t
      → (ys : List ℕ) × (xs ≡ c ∷ ys) × IteratorGives steps remaining ended error t ys fault
  comes_character true error s t c xs fault e k gave = absurd cc
  comes_character false error s t c xs fault e k gave =
      let next = item_known steps remaining s t (Ok c) k.0 k.1 gave in (
        characters_of next.0,
        k.2 ∙ ap characters_of next.1,
        (next.0, next.2, refl, k.3 ∙ ap first_error next.1),
      )

  -- an error came
  pub comes_error : (ended : Bool) (error : Option FaultKind) (s t : S) (kind : ErrorKind) (xs : List ℕ)
      (fault : Option FaultKind) → ended ≡ false → IteratorGives steps remaining ended error s xs fault
      → steps s (Some (Err kind)) t
      → (xs ≡ []) × (fault ≡ Some (kind_of kind))
  comes_error true error s t kind xs fault e k gave = absurd cc
  comes_error false error s t kind xs fault e k gave =
      let next = item_known steps remaining s t (Err kind) k.0 k.1 gave in
      (rw (k.2, next.1) refl, rw (k.3, next.1) refl)

  -- nothing came
  pub comes_nothing : (ended : Bool) (error : Option FaultKind) (s t : S) (xs : List ℕ) (fault : Option FaultKind)
      → ended ≡ false → IteratorGives steps remaining ended error s xs fault → steps s None t
      → (xs ≡ []) × (fault ≡ None)
  comes_nothing true error s t xs fault e k gave = absurd cc
  comes_nothing false error s t xs fault e k gave =
      let none = rest_none steps remaining false s t k.0 refl k.1 gave in
      (rw (k.2, none) refl, rw (k.3, none) refl)

  -- nothing comes any more
  pub comes_no_more : (ended : Bool) (error : Option FaultKind) (s : S) (xs : List ℕ) (fault : Option FaultKind)
      → ended ≡ true → IteratorGives steps remaining ended error s xs fault
      → (xs ≡ []) × IteratorGives steps remaining ended error s [] fault
  comes_no_more true error s xs fault e k = (k.0, (refl, k.1))
  comes_no_more false error s xs fault e k = absurd cc

-- before the first call
pub fresh_comes : {S : Type 0} (steps : S → Option (Result ℕ ErrorKind) → S → Type 0) (remaining : S → Count) (s t : S)
    (progress : Progress) (items : List (Result ℕ ErrorKind)) → t ≡ s → progress ≡ Going
    → GivesOnly steps remaining s items
    → StillComes steps remaining progress t (characters_of items) (first_error items)
fresh_comes steps remaining s t progress items same going known =
    rw (same, going) (items, known, refl, refl)

-- what comes of each item, and behind the last
pub ruleset comes = (comes_character, comes_error, comes_nothing, comes_no_more)
