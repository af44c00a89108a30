-- Calls of an iterator whose items are known.
use Rattle.std.proofs.Common.{◌≡◌, ◌<◌, ℕ, Bool, true, false, List, [], ◌∷◌, ◌++◌, length, drop, Option, Some, None}
use Rattle.std.proofs.Common.{refl, append_assoc, arith}
use Rattle.std.specs.Iterator.{Count}
use Rattle.granit_base.specs.Place.{Unread}
use Rattle.granit_input.specs.Origin.{Goes, Origin}
use Rattle.granit_stream.specs.Stream.{StreamHolds, of_stream}
use Rattle.granit_runs.specs.Unread.{past_count}
use Rattle.granit_buffered.specs.Feeds.{StillGives}

pub rest_some : {S : Type 0} (steps : S → Option ℕ → S → Type 0) (remaining : S → Count) (done : Bool) (s t : S) (c : ℕ)
    (xs : List ℕ) → done ≡ false
    → StillGives steps remaining done s xs → steps s (Some c) t
    → (ys : List ℕ) × (xs ≡ c ∷ ys) × StillGives steps remaining done t ys
rest_some steps remaining true s t c xs e known gave = absurd cc
rest_some steps remaining false s t c [] e known gave = let e = known (Some c) t gave in absurd cc
rest_some steps remaining false s t c (x ∷ xs) e known gave =
    let next = known.1 (Some c) t gave in
    let one = next.0 in
    let same : c ≡ x = cc in
    (xs, rw same refl, next.1)

pub rest_none : {S : Type 0} (steps : S → Option ℕ → S → Type 0) (remaining : S → Count) (done : Bool) (s t : S)
    (xs : List ℕ) → done ≡ false
    → StillGives steps remaining done s xs → steps s None t → xs ≡ []
rest_none steps remaining true s t xs e known gave = absurd cc
rest_none steps remaining false s t [] e known gave = refl
rest_none steps remaining false s t (x ∷ xs) e known gave = let e = (known.1 None t gave).0 in absurd cc

pub rest_ended : {S : Type 0} (steps : S → Option ℕ → S → Type 0) (remaining : S → Count) (done : Bool) (s : S)
    (xs : List ℕ) → done ≡ true
    → StillGives steps remaining done s xs → xs ≡ []
rest_ended steps remaining true s xs e known = known
rest_ended steps remaining false s xs e known = absurd cc

-- nothing is left where the iterator has ended
pub rest_over : {S : Type 0} (steps : S → Option ℕ → S → Type 0) (remaining : S → Count) (done : Bool) (s : S)
    (xs : List ℕ) → done ≡ true → xs ≡ []
    → StillGives steps remaining done s xs
rest_over steps remaining true s xs e none = none
rest_over steps remaining false s xs e none = absurd cc

-- one more item is held
pub holds_more : {S : Type 0} (steps : S → Option ℕ → S → Type 0) (remaining : S → Count) (done : Bool) (t : S)
    (front more ys text : List ℕ) (c : ℕ) → text ≡ front ++ c ∷ ys → more ≡ front ++ c ∷ []
    → StillGives steps remaining done t ys → StreamHolds steps remaining done t more text
holds_more steps remaining done t front more ys text c is grown known = (ys, rw (grown, append_assoc) is, known)

-- the first is no longer held
pub holds_less : {S : Type 0} (steps : S → Option ℕ → S → Type 0) (remaining : S → Count) (done : Bool) (t : S)
    (front text : List ℕ)
    → (length front < 1 → done ≡ true) → StreamHolds steps remaining done t front text
    → StreamHolds steps remaining done t (drop 1 front) (drop 1 text)
holds_less steps remaining done t [] text ended h =
    let none = rest_ended steps remaining done t h.0 (ended (omega arith)) h.2 in
    (h.0, rw (h.1, none) refl, h.2)
holds_less steps remaining done t (x ∷ front) text ended h = (h.0, rw h.1 refl, h.2)

pub skip_holds : {S L : Type 0} (steps : S → Option ℕ → S → Type 0) (remaining : S → Count) (done : Bool) (s : S)
    (front : List ℕ) (lends : Option L) (u : Unread)
    → (length front < 1 → done ≡ true) → lends ≡ None → u.offset ≡ None → u.lends ≡ false
    → StreamHolds steps remaining done s front u.text
    → (lends ≡ None) × ((past_count 1 u).offset ≡ None) × ((past_count 1 u).lends ≡ false)
    × StreamHolds steps remaining done s (drop 1 front) (past_count 1 u).text
unfolding past_count
skip_holds steps remaining done s front lends u ended alone none lent h =
    (alone, rw none refl, lent, holds_less steps remaining done s front u.text ended h)

-- reading on leaves all as it was, but that the end may become known
pub stream_goes : {L : Type 0} (old new breaks_off handed_out : Bool) (origin : L → Origin) (lends : Option L)
    → (old ≡ true → new ≡ true)
    → Goes (of_stream old breaks_off handed_out origin lends) (of_stream new breaks_off handed_out origin lends)
stream_goes true new breaks_off handed_out origin lends stays =
    let same : new ≡ true = stays refl in
    rw same (record {
      sliced = refl;
      lent = refl;
      tells_offset = refl;
      handed_out = refl;
      knows_end = λ _. (refl, refl);
      error =
          λ _. refl;
      floor = omega arith;
      ends_with = λ f told. told;
    })
stream_goes false new breaks_off handed_out origin lends stays =
    record {
      sliced = refl;
      lent = refl;
      tells_offset = refl;
      handed_out = refl;
      knows_end = λ known. absurd cc;
      error =
          λ some. absurd cc;
      floor = omega arith;
      ends_with = λ f told. told;
    }
