-- What a buffer holds, and what still comes.
use Rattle.std.proofs.Common.{◌≡◌, ◌<◌, ◌≤◌, ◌==◌, ℕ, Bool, zero, suc, inl, inr, List, [], ◌∷◌, ◌++◌, length}
use Rattle.std.proofs.Common.{drop, true, false, Option, None, Some, refl, ap, sym, ◌∙◌, append_assoc, arith}
use Rattle.std.proofs.lemmas.Bool.{cases_lt}
use Rattle.std.proofs.lemmas.Bool.Decides.{nat_tests}
use Rattle.std.proofs.lemmas.List.{append-nil}
use Rattle.std.specs.List.{slice_index}
use Rattle.std.specs.Prelude.{MatchOption}
use Rattle.granit_base.specs.Place.{Unread, first}
use Rattle.granit_error.specs.FaultKind.{FaultKind}
use Rattle.granit_input.specs.Origin.{Goes}
use Rattle.granit_runs.specs.Unread.{past_count}
use Rattle.granit_buffered.specs.Feeds.{Holds, LeftInFeed, FeedEndsWith, of_buffer, of_feed}

-- behind the end nothing comes
pub none_comes : {F : Type 0} (told : F → List ℕ → Option FaultKind → Type 0) (bound : F → ℕ)
    (bounded : (s : F) (xs : List ℕ) (fault : Option FaultKind) → told s xs fault → length xs ≤ bound s)
    (feed : F) (xs : List ℕ) (fault : Option FaultKind) → bound feed ≡ 0 → told feed xs fault → xs ≡ []
none_comes told bound bounded feed [] fault over k = refl
none_comes told bound bounded feed (x ∷ xs) fault over k =
    let within = bounded feed (x ∷ xs) fault k in absurd (omega (arith, within, over))

-- one more item is held
pub holds_more : {F : Type 0} (told : F → List ℕ → Option FaultKind → Type 0) (feed : F)
    (front more rest ys text : List ℕ) (fault : Option FaultKind) (c : ℕ)
    → text ≡ front ++ rest → rest ≡ c ∷ ys → more ≡ front ++ c ∷ [] → told feed ys fault
    → Holds told feed more text fault
holds_more told feed front more rest ys text fault c is one grown k =
    (ys, rw (grown, append_assoc, ← one) is, k)

-- the first is no longer held
pub holds_less : {F : Type 0} (told : F → List ℕ → Option FaultKind → Type 0) (feed : F) (front text : List ℕ)
    (fault : Option FaultKind)
    → (length front < 1 → (xs : List ℕ) → told feed xs fault → xs ≡ []) → Holds told feed front text fault
    → Holds told feed (drop 1 front) (drop 1 text) fault
holds_less told feed [] text fault ended h =
    let none = ended (omega arith) h.0 h.2 in
    (h.0, rw (h.1, none) refl, h.2)
holds_less told feed (x ∷ front) text fault ended h = (h.0, rw h.1 refl, h.2)

pub skip_leaves : {F : Type 0} (told : F → List ℕ → Option FaultKind → Type 0) (feed : F) (front : List ℕ) (u : Unread)
    → (length front < 1 → (xs : List ℕ) (fault : Option FaultKind) → told feed xs fault → xs ≡ [])
    → LeftInFeed told feed front u → LeftInFeed told feed (drop 1 front) (past_count 1 u)
unfolding past_count
skip_leaves told feed front u ended k = (
  rw k.0 refl,
  k.1,
  (
    k.2.0,
    holds_less told feed front u.text k.2.0
        (λ few xs here. ended few xs k.2.0 here) k.2.1,
  ),
)

front_first : (front rest : List ℕ) (n : ℕ) → n < length front → slice_index (front ++ rest) n ≡ slice_index front n
front_first [] rest n few = absurd (omega (arith, few))
front_first (x ∷ front) rest zero few = refl
front_first (x ∷ front) rest (suc n) few = front_first front rest n (omega (arith, few))

-- what is held is what may be looked at
pub held_is_seen : {F : Type 0} (told : F → List ℕ → Option FaultKind → Type 0) (feed : F) (front : List ℕ) (n : ℕ)
    (u : Unread)
    → (length front ≤ n → (xs : List ℕ) (fault : Option FaultKind) → told feed xs fault → xs ≡ [])
    → LeftInFeed told feed front u → slice_index u.text n ≡ slice_index front n
held_is_seen told feed front n u ended k =
    let h = k.2.1 in
    elim (cases_lt n (length front)) [
      | inl few ↦ ap (λ (text : List ℕ). slice_index text n) h.1 ∙ front_first front h.0 n few
      | inr many ↦ (let none = ended (many) h.0 k.2.0 h.2 in
          ap (λ (text : List ℕ). slice_index text n) (h.1 ∙ ap (λ (rest : List ℕ). front ++ rest) none
          ∙ append-nil front))
    ]

-- where nothing is held, nothing is left
pub nothing_held : {F : Type 0} (told : F → List ℕ → Option FaultKind → Type 0) (feed : F) (front : List ℕ) (u : Unread)
    → (length front ≤ 0 → (xs : List ℕ) (fault : Option FaultKind) → told feed xs fault → xs ≡ [])
    → LeftInFeed told feed front u → (length u.text == 0) ≡ (length front == 0)
nothing_held told feed [] u ended k =
    let h = k.2.1 in
    ap (λ (text : List ℕ). length text == 0) (h.1 ∙ ended (omega arith) h.0 k.2.0 h.2)
nothing_held told feed (x ∷ front) u ended k =
    let len = ap length k.2.1.1 in grind (arith, nat_tests, len)

-- where nothing is held, NUL is seen
pub seen_is_held : (front : List ℕ) (n : ℕ) → 0 < slice_index front n → n < length front
seen_is_held [] n some = absurd (omega (arith, some))
seen_is_held (x ∷ front) zero some = omega arith
seen_is_held (x ∷ front) (suc n) some = omega (arith, seen_is_held front n some)

-- with what is known of the end
pub goes_known : (old_ended new_ended : Bool) (old_error new_error : Option FaultKind)
    (old_handed_out new_handed_out : Bool)
    (old_ends new_ends : Option FaultKind → Type 0)
    → Goes (of_feed old_ended old_error old_handed_out) (of_feed new_ended new_error new_handed_out)
    → ((fault : Option FaultKind) → old_ends fault → new_ends fault)
    → Goes (of_buffer old_ends old_ended old_error old_handed_out)
    (of_buffer new_ends new_ended new_error new_handed_out)
goes_known old_ended new_ended old_error new_error old_handed_out new_handed_out old_ends new_ends goes on = record {
  sliced = goes.sliced;
  lent = goes.lent;
  tells_offset = goes.tells_offset;
  handed_out = goes.handed_out;
  knows_end = goes.knows_end;
  error = goes.error;
  floor = goes.floor;
  ends_with = on;
}

-- ---- a character straight from the feed

-- what a feed's next character says of what is known to come
abbrev pub Steps : {F : Type 0} → (F → List ℕ → Option FaultKind → Type 0) → F → F → Option ℕ → Type 0
Steps told old new result = (xs : List ℕ) (fault : Option FaultKind) → told old xs fault
    → MatchOption result ((xs ≡ []) × told new [] fault) (λ c. (ys : List ℕ) × (xs ≡ c ∷ ys) × told new ys fault)

holds_passed : {F : Type 0} (told : F → List ℕ → Option FaultKind → Type 0) (old new : F) (result : Option ℕ)
    (text : List ℕ) (fault : Option FaultKind) → Steps told old new result → Holds told old [] text fault
    → Holds told new [] (drop 1 text) fault
holds_passed told old new None text fault steps h =
    let none = steps h.0 fault h.2 in ([], ap (drop 1) (h.1 ∙ none.0), none.1)
holds_passed told old new (Some c) text fault steps h =
    let one = steps h.0 fault h.2 in (one.0, ap (drop 1) (h.1 ∙ one.1), one.2)

-- it is consumed
pub feed_passed : {F : Type 0} (told : F → List ℕ → Option FaultKind → Type 0) (old new : F) (result : Option ℕ)
    (front : List ℕ) (u : Unread) → front ≡ [] → Steps told old new result → LeftInFeed told old front u
    → LeftInFeed told new front (past_count 1 u)
unfolding past_count
feed_passed told old new result [] u none steps k =
    (rw k.0 refl, k.1, (k.2.0, holds_passed told old new result u.text k.2.0 steps k.2.1))
feed_passed told old new result (x ∷ front) u none steps k = absurd cc

pub ends_passed : {F : Type 0} (told : F → List ℕ → Option FaultKind → Type 0) (old new : F) (result : Option ℕ)
    (fault : Option FaultKind) → Steps told old new result → FeedEndsWith told old fault → FeedEndsWith told new fault
ends_passed told old new None fault steps ends = ([], (steps ends.0 fault ends.1).1)
ends_passed told old new (Some c) fault steps ends = let one = steps ends.0 fault ends.1 in (one.0, one.2)

-- it is the first of what is left
pub fed_is_first : {F : Type 0} (told : F → List ℕ → Option FaultKind → Type 0) (old new : F) (c : ℕ)
    (front : List ℕ) (u : Unread) → front ≡ [] → Steps told old new (Some c) → LeftInFeed told old front u
    → (after : List ℕ) × (u.text ≡ c ∷ after)
fed_is_first told old new c [] u none steps k =
    let one = steps k.2.1.0 k.2.0 k.2.1.2 in (one.0, k.2.1.1 ∙ one.1)
fed_is_first told old new c (x ∷ front) u none steps k = absurd cc

-- ---- the first character that is held

pub held_is_first : {F : Type 0} (told : F → List ℕ → Option FaultKind → Type 0) (feed : F) (front : List ℕ) (c : ℕ)
    (u : Unread) → 0 < length front → c ≡ slice_index front 0 → LeftInFeed told feed front u
    → (after : List ℕ) × (u.text ≡ c ∷ after)
held_is_first told feed [] c u some is k = absurd (omega (arith, some))
held_is_first told feed (x ∷ front) c u some is k =
    let h = k.2.1 in
    (front ++ h.0, h.1 ∙ ap (λ (y : ℕ). y ∷ (front ++ h.0)) (sym is))

-- a character that was consumed is held again
held_again_text : {F : Type 0} (told : F → List ℕ → Option FaultKind → Type 0) (feed : F) (front text : List ℕ) (c : ℕ)
    (fault : Option FaultKind) → 0 < length text → c ≡ first text → Holds told feed front (drop 1 text) fault
    → Holds told feed (c ∷ front) text fault
held_again_text told feed front [] c fault some is h = absurd (omega (arith, some))
held_again_text told feed front (x ∷ text) c fault some is h =
    (h.0, ap (λ (y : ℕ). y ∷ text) (sym is) ∙ ap (λ (rest : List ℕ). c ∷ rest) h.1, h.2)

pub held_again : {F : Type 0} (told : F → List ℕ → Option FaultKind → Type 0) (feed now : F) (front held : List ℕ)
    (u : Unread) (c : ℕ) → now ≡ feed → held ≡ c ∷ front → u.offset ≡ None → u.lends ≡ false → 0 < length u.text
    → c ≡ first u.text → LeftInFeed told feed front (past_count 1 u) → LeftInFeed told now held u
unfolding past_count
held_again told feed now front held u c same again offset lends some is k = rw (same, again)
    (offset, lends, (k.2.0, held_again_text told feed front u.text c k.2.0 some is k.2.1))

pub none_held : (front : List ℕ) → (length front == 0) ≡ true → front ≡ []
none_held [] e = refl
none_held (x ∷ front) e =
    let none : length (x ∷ front) ≡ 0 = grind (arith, nat_tests, e) in absurd (omega (arith, none))

pub some_held : (front : List ℕ) → (length front == 0) ≡ false → 0 < length front
some_held [] e = absurd cc
some_held (x ∷ front) e = omega arith
