-- What comes from an iterator, and a buffer over it.
use Rattle.std.specs.Prelude.{◌≡◌, ℕ, ◌<◌, Bool, true, false, if◌then◌else◌, List, [], ◌∷◌, ◌++◌, length, Option}
use Rattle.std.specs.Prelude.{Some, None}
use Rattle.std.specs.Iterator.{Count, size}
use Rattle.granit_base.specs.Place.{Unread}
use Rattle.granit_error.specs.FaultKind.{FaultKind}
use Rattle.granit_input.specs.Origin.{Origin}

-- every run from s gives these items and no others, and no bound falls below what is left
abbrev pub GivesOnly : {S A : Type 0} → (S → Option A → S → Type 0) → (S → Count) → S → List A → Type 0
GivesOnly steps remaining s [] = (r : _) (t : _) → steps s r t → r ≡ None
GivesOnly steps remaining s (x ∷ xs) = (length xs < size (remaining s))
    × ((r : _) (t : _) → steps s r t → (r ≡ Some x) × GivesOnly steps remaining t xs)

-- the same of an iterator that is asked only until it has ended
abbrev pub StillGives : {S A : Type 0} → (S → Option A → S → Type 0) → (S → Count) → Bool → S → List A → Type 0
StillGives steps remaining true s xs = xs ≡ []
StillGives steps remaining false s xs = GivesOnly steps remaining s xs

abbrev pub still_left : Bool → Count → ℕ
still_left true left = 0
still_left false left = size left

-- the error that is handed out
abbrev pub still_given : (handed_out : Bool) → Option FaultKind → Option FaultKind
still_given handed_out error = if handed_out then None else error

-- the text is what is held, and what still comes
abbrev pub Holds : {F : Type 0} → (F → List ℕ → Option FaultKind → Type 0) → F → List ℕ → List ℕ → Option FaultKind
    → Type 0
Holds told feed front text fault = (rest : List ℕ) × (text ≡ front ++ rest) × told feed rest fault

-- the error that what still comes is known to end with
abbrev pub FeedEndsWith : {F : Type 0} → (F → List ℕ → Option FaultKind → Type 0) → F → Option FaultKind → Type 0
FeedEndsWith told feed fault = (rest : List ℕ) × told feed rest fault

-- where the characters of a buffer come from: there is nothing to slice, no offset is told, and the end isn't known
-- until it was asked for
abbrev pub of_buffer : (ends_with : Option FaultKind → Type 0) → (ended : Bool) → (error : Option FaultKind)
    → (handed_out : Bool) → Origin
of_buffer ends_with ended error handed_out = record {
  sliced = None;
  lent = None;
  tells_offset = false;
  knows_end = ended;
  error = error;
  handed_out = handed_out;
  floor = 0;
  ends_with = ends_with;
}

-- the same, whatever is known of the end
abbrev pub of_feed : (ended : Bool) → (error : Option FaultKind) → (handed_out : Bool) → Origin
of_feed ended error handed_out = of_buffer (λ fault. Unit {0}) ended error handed_out

-- where the characters of a feed come from
abbrev pub origin_of : {F : Type 0} → (F → List ℕ → Option FaultKind → Type 0) → (F → Bool) → (F → Option FaultKind)
    → (F → Bool) → F → Origin
origin_of told ended error handed_out feed =
    of_buffer (λ fault. FeedEndsWith told feed fault) (ended feed) (error feed) (handed_out feed)

-- what is known to be left to be read: it can't be lent, and no offset is told
abbrev pub LeftInFeed : {F : Type 0} → (F → List ℕ → Option FaultKind → Type 0) → F → List ℕ → Unread → Type 0
LeftInFeed told feed front u = (u.offset ≡ None) × (u.lends ≡ false)
    × ((fault : Option FaultKind) × Holds told feed front u.text fault)
