-- What a stack sends to a receiver.
use Rattle.std.specs.Prelude.{◌≡◌, ◌⊎◌, ℕ, Bool, true, false, List, [], ◌∷◌, ◌++◌, length, Option, Some, None}
use Rattle.std.specs.Prelude.{Result, Ok, Err}
use Rattle.granit_base.specs.Counts.{last_count}
use Rattle.granit_base.specs.declared.place.Span.{Span}
use Rattle.granit_error.specs.FaultKind.{NoMemory}
use Rattle.granit_error.specs.Refused.{Refused}
use Rattle.granit_event.specs.declared.event.Event.{Event}
use Rattle.granit_layers.specs.Stacking.{Stack, StepsTo}
use Rattle.granit_layers.specs.Turning.{Next}
use Rattle.granit_receivers.specs.declared.error.TryLoadError.{TryLoadError}
use Rattle.granit_receivers.specs.declared.error.TryLoadError.TheVariants.{Scan, Receiver}
use Rattle.granit_replay.specs.Sending.{ends_with}

-- the refusal that a stack ended with
abbrev pub failure_of : Option (Result (Unit {0}) Refused) → Option Refused
failure_of None = None
failure_of (Some (Ok x)) = None
failure_of (Some (Err e)) = Some e

-- one by one these events are given, and none of them is the last that is sent
pub data StackSendsOn {S : Type 0} (steps : S → Next → S → Type 0) (offset : S → ℕ) (sets : ℕ → S → S → Type 0)
    (multi : Bool) : Stack S → List (Event × Span) → Stack S → Type 0 where
  none_given : {p : Stack S} → StackSendsOn steps offset sets multi p [] p
  one_given : {p mid q : Stack S} {es : List (Event × Span)} {e : Event × Span}
      → StackSendsOn steps offset sets multi p es mid → StepsTo steps offset sets mid (Some (Ok e)) q
      → ends_with multi e ≡ false → StackSendsOn steps offset sets multi p (es ++ e ∷ []) q

-- an event is sent behind these, and it is the last
pub record SendsLast {S : Type 0} (steps : S → Next → S → Type 0) (offset : S → ℕ) (sets : ℕ → S → S → Type 0)
    (multi : Bool) (Takes : List (Event × Span) → Type 0) (es : List (Event × Span)) (mid new : Stack S) : Type 0 where
  pub event : Event × Span
  pub step : StepsTo steps offset sets mid (Some (Ok event)) new
  pub last : ends_with multi event ≡ true
  pub takes : Takes (es ++ event ∷ [])

-- these are sent, and then nothing is left
pub record SendsNoMore {S : Type 0} (steps : S → Next → S → Type 0) (offset : S → ℕ) (sets : ℕ → S → S → Type 0)
    (Takes : List (Event × Span) → Type 0) (es : List (Event × Span)) (mid new : Stack S) : Type 0 where
  pub step : StepsTo steps offset sets mid None new
  pub takes : Takes es

-- a stack ended for want of memory, in the place of what comes next
pub record RunsOut {S : Type 0} (old : Stack S) (e : Refused) (new : Stack S) : Type 0 where
  pub kind : e.kind ≡ NoMemory
  pub kept : Refused
  pub kept_kind : kept.kind ≡ NoMemory
  pub ended : new ≡ record old { peeked = None; end = Some (Err kept) }

-- all is sent that comes up to the last event, or until nothing is left
abbrev pub SendsAll : {S : Type 0} → (steps : S → Next → S → Type 0) → (offset : S → ℕ)
    → (sets : ℕ → S → S → Type 0) → (multi : Bool) → (List (Event × Span) → Type 0) → Stack S → Stack S → Type 0
SendsAll steps offset sets multi Takes old new =
    (es : List (Event × Span)) × (mid : Stack _) × StackSendsOn steps offset sets multi old es mid
    × (SendsNoMore steps offset sets Takes es mid new ⊎ SendsLast steps offset sets multi Takes es mid new)

-- all is sent that comes before a refusal, or 2^64 - 1 events are
abbrev pub SendsBefore : {S : Type 0} → (steps : S → Next → S → Type 0) → (offset : S → ℕ)
    → (sets : ℕ → S → S → Type 0) → (multi : Bool) → (List (Event × Span) → Type 0) → Stack S → Refused → Stack S
    → Type 0
SendsBefore steps offset sets multi Takes old e new =
    (es : List (Event × Span)) × (mid : Stack _) × StackSendsOn steps offset sets multi old es mid × Takes es
    × (StepsTo steps offset sets mid (Some (Err e)) new ⊎ (RunsOut mid e new × (length es ≡ last_count)))

-- all is sent that comes up to an event that the receiver refuses, which it took
abbrev pub StackSendsUpTo : {S : Type 0} → (steps : S → Next → S → Type 0) → (offset : S → ℕ)
    → (sets : ℕ → S → S → Type 0) → (multi : Bool) → (List (Event × Span) → Type 0) → Stack S → Stack S → Type 0
StackSendsUpTo steps offset sets multi Takes old new =
    (es : List (Event × Span)) × (mid : Stack _) × (e : Event × Span) × StackSendsOn steps offset sets multi old es mid
    × StepsTo steps offset sets mid (Some (Ok e)) new × Takes (es ++ e ∷ [])

-- what `load` sends and answers
abbrev pub StackLoads : {S X : Type 0} → (steps : S → Next → S → Type 0) → (offset : S → ℕ)
    → (sets : ℕ → S → S → Type 0) → (multi : Bool) → (List (Event × Span) → Type 0) → Stack S → Result X Refused
    → Stack S → Type 0
StackLoads steps offset sets multi Takes old (Ok x) new = SendsAll steps offset sets multi Takes old new
StackLoads steps offset sets multi Takes old (Err e) new = SendsBefore steps offset sets multi Takes old e new

-- what `try_load` sends and answers
abbrev pub StackTries : {S X E : Type 0} → (steps : S → Next → S → Type 0) → (offset : S → ℕ)
    → (sets : ℕ → S → S → Type 0) → (multi : Bool) → (List (Event × Span) → Type 0) → Stack S
    → Result X (TryLoadError E) → Stack S → Type 0
StackTries steps offset sets multi Takes old (Ok x) new = SendsAll steps offset sets multi Takes old new
StackTries steps offset sets multi Takes old (Err (Scan e)) new = SendsBefore steps offset sets multi Takes old e new
StackTries steps offset sets multi Takes old (Err (Receiver e)) new = StackSendsUpTo steps offset
    sets multi Takes old new
