-- Wants of memory of calls that send events one behind the other, and what such calls leave of recovery's answer.
use Rattle.std.proofs.Common.{◌≡◌, ◌∙◌, ◌≤◌, inl, inr, ℕ, ◌+◌, Bool, true, false, List, [], ◌∷◌, ◌++◌}
use Rattle.std.proofs.Common.{length, Option, Some, None, Result, Ok, Err, refl, ap, subst, sym, arith}
use Rattle.std.proofs.lemmas.List.{length_push}
use Rattle.std.specs.Result.{IsErrAnd}
use Rattle.granit_base.specs.Counts.{last_count}
use Rattle.granit_base.specs.declared.place.Span.{Span}
use Rattle.granit_error.specs.FaultKind.{NoMemory, wants_memory}
use Rattle.granit_error.specs.Refused.{Refused}
use Rattle.granit_event.specs.declared.event.Event.{Event}
use Rattle.granit_parser.proofs.FirstLemmas.{scan_or}
use Rattle.granit_parser.specs.Parsing.{StarvedBy, Starves, notes_answered}
use Rattle.granit_parser.specs.Receiving.{TakesMost, UnlessRefused, WantsOnly, scanned}
use Rattle.granit_receivers.proofs.TakingLemmas.{took_more, took_none}
use Rattle.granit_receivers.specs.Kept.{KeptAgain}
use Rattle.granit_receivers.specs.Taking.{Told, Took}
use Rattle.granit_receivers.specs.declared.error.TryLoadError.{TryLoadError}
use Rattle.granit_receivers.specs.declared.error.TryLoadError.TheVariants.{Scan, Receiver}

-- so many events were taken
abbrev pub CountsTo : ℕ → (old new : Told) → Type 0
CountsTo n old new = (xs : List (Event × Span)) × Took old new xs × (length xs ≡ n)

pub counts_none : (t : Told) → CountsTo 0 t t
counts_none t = ([], took_none t, refl)

pub counts_more : (n : ℕ) (old mid new : Told) (x : Event × Span) → CountsTo n old mid → Took mid new (x ∷ [])
    → CountsTo (n + 1) old new
counts_more n old mid new x s more = (
  s.0 ++ x ∷ [],
  took_more old mid new s.0 (x ∷ []) s.1 more,
  length_push s.0 x ∙ ap (λ m. m + 1) s.2,
)

pub counts_all : (n : ℕ) (old new : Told) → CountsTo n old new → last_count ≤ n → TakesMost (Took old new)
counts_all n old new s all = (s.0, s.1, subst (λ m. last_count ≤ m) (sym s.2) all)

-- behind an event recovery's answer counts no more
pub answered_none : (r : Result (Event × Span) Refused) (x : Event × Span) (old new : Bool) → r ≡ Ok x
    → new ≡ notes_answered (Some r) old → new ≡ false
answered_none r x old new is noted = noted ∙ ap (λ r. notes_answered (Some r) old) is

pub unless_refused : {X : Type 0} (A B : Type 0) (r : Option (Result X Refused)) → UnlessRefused r (A → B) → A
    → UnlessRefused r B
unless_refused A B None on a = on a
unless_refused A B (Some (Ok x)) on a = on a
unless_refused A B (Some (Err e)) on a = tt

pub load_refuses : {X : Type 0} (A : Type 0) (e : Refused) (r : Result X Refused) → IsErrAnd r (λ f. f ≡ e)
    → UnlessRefused (Some r) A
load_refuses A e (Ok x) so = absurd so
load_refuses A e (Err f) so = tt

pub try_refuses : {X E : Type 0} (A : Type 0) (e : Refused) (r : Result X (TryLoadError E))
    → IsErrAnd r (λ f. f ≡ Scan e) → UnlessRefused (scanned r) A
try_refuses A e (Ok x) so = absurd so
try_refuses A e (Err (Scan f)) so = tt
try_refuses A e (Err (Receiver f)) so = absurd (cc)

-- the refusal of a call
pub starves_by : (r : Result (Event × Span) Refused) (e : Refused) → r ≡ Err e → (old new : Bool)
    → Starves (Some r) old new → e.kind ≡ NoMemory → new ≡ true
starves_by r e is old new starves wants =
    subst (λ (s : Result (Event × Span) Refused). Starves (Some s) old new) is starves ∙ ap wants_memory wants

-- where nothing was refused before
pub was_fed : (given : Option Refused) (starved : Bool) → StarvedBy starved given → given ≡ None → starved ≡ false
was_fed given starved by none = subst (StarvedBy starved) none by

-- a refusal that is given again was given before
pub given_nothing : (given : Option Refused) (e : Refused) → KeptAgain given (Some e) → given ≡ None → ⊥
given_nothing given e again none =
    let n : Some e ≡ None = subst (λ g. KeptAgain g (Some e)) none again in cc

module _ (e : Refused) (starved : Bool) (Takes : List (Event × Span) → Type 0)
    (first : e.kind ≡ NoMemory → starved ≡ true) where
  pub load_wants : {X : Type 0} (r : Result X Refused) → IsErrAnd r (λ f. f ≡ e) → WantsOnly starved Takes (Some r)
  load_wants (Ok x) so = absurd so
  load_wants (Err f) so = λ wants. inl (first (ap (λ (x : Refused). x.kind) (sym so) ∙ wants))

  pub try_wants : {X E : Type 0} (r : Result X (TryLoadError E)) → IsErrAnd r (λ f. f ≡ Scan e)
      → WantsOnly starved Takes (scanned r)
  try_wants (Ok x) so = absurd so
  try_wants (Err (Scan f)) so = λ wants. inl (first (ap (λ (x : Refused). x.kind) (sym (ap (scan_or e) so)) ∙ wants))
  try_wants (Err (Receiver f)) so = tt

-- behind the first event
pub wants_behind : {X : Type 0} (starved : Bool) (old mid new : Told) (x : Event × Span) → Took old mid (x ∷ [])
    → (r : Option (Result X Refused)) → WantsOnly starved (Took mid new) r → WantsOnly starved (Took old new) r
wants_behind starved old mid new x first None rest = tt
wants_behind starved old mid new x first (Some (Ok y)) rest = tt
wants_behind starved old mid new x first (Some (Err e)) rest = λ wants. elim (rest wants) [
  | inl by ↦ inl by
  | inr most ↦ inr (
    x ∷ most.0,
    took_more old mid new (x ∷ []) most.0 first most.1,
    (let m = most.2 in omega arith),
  )
]
