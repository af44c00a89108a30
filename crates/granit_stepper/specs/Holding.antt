-- A refusal of a turn made ahead that waits, whatever options and number were set since.
use Rattle.std.specs.Prelude.{◌≡◌, ℕ, Bool, true, false, List, [], ◌∷◌, Option, Some, None, Result, Ok, Err}
use Rattle.granit_base.specs.Place.{Unread}
use Rattle.granit_cursor.specs.Reading.{Reading}
use Rattle.granit_error.specs.FaultKind.{NoMemory}
use Rattle.granit_error.specs.OptionsData.{OptionsData}
use Rattle.granit_error.specs.Refused.{Refused}
use Rattle.granit_lexemes.specs.PlainEvent.{PlainEvent}
use Rattle.granit_restart.specs.Looking.{told_by}
use Rattle.granit_restart.specs.Skipping.{Ended, Failed, SkipEnd, ahead, ends_before, skip_ahead, skip_fault}
use Rattle.granit_restart.specs.Skipping.{with_pending}
use Rattle.granit_stepper.specs.Recovering.{SkipsFault}
use Rattle.granit_stepper.specs.Refusals.{StandsRefused}
use Rattle.granit_stepper.specs.Stepping.{Stepping}
use Rattle.granit_steps.specs.Steps.{StepState}

-- a turn was made ahead in a state of the machine and refused; what waits is given before
pub record HoldsFault {I : Type 0} (unread : I → Unread → Type 0) (s : Stepping I) (m : StepState) (e : Refused)
    : Type 0 where
  pub ahead : s.ahead ≡ Some e
  pub going : s.failed ≡ false
  pub other : e.kind ≡ NoMemory → ⊥
  pub stands : StandsRefused unread s m e

-- what waits is given, one by one, and then the refusal
abbrev pub GivesHeld : {I X : Type 0} → (I → Unread → Type 0) → (X → Option PlainEvent) → Result X Refused
    → Stepping I → StepState → Refused → Type 0
GivesHeld unread view (Ok r) s m e = (x : PlainEvent) × (es : List PlainEvent) × (view r ≡ Some x)
    × (m.pending ≡ x ∷ es) × HoldsFault unread s (with_pending es m) e
GivesHeld unread view (Err f) s m e = (m.pending ≡ []) × (f ≡ e) × StandsRefused unread s m e

-- ---- what is dropped

-- Where what is dropped ends: behind the end of a document that waits, or where the refusal is met.
abbrev pub held_skip : Refused → StepState → SkipEnd
held_skip e m = skip_ahead (λ n. skip_fault n e) m (ahead m.pending)

-- what waits is dropped up to there; the refusal waits on, or is the open document's, and nothing was read
abbrev pub PassesHeld : {I : Type 0} → (I → Unread → Type 0) → Refused → SkipEnd → (passed : Bool)
    → (old new : Stepping I) → Type 0
PassesHeld unread e (Ended n) passed old new = (passed ≡ true) × HoldsFault unread new n e
PassesHeld unread e (Failed f n) passed old new =
    (passed ≡ false) × StandsRefused unread new n f × (new.scanner ≡ old.scanner)

-- the same of a document, or of what is left of the open one: behind the refusal of that it goes on by where the cursor
-- stood
abbrev pub SkipsHeld : {I : Type 0} → (I → Unread → Type 0) → OptionsData → (cursor : Reading I) → Refused → SkipEnd
    → Stepping I → Type 0
SkipsHeld unread o cursor e (Ended n) s = HoldsFault unread s n e
SkipsHeld unread o cursor e (Failed f n) s = SkipsFault unread o cursor f s n

-- a refusal on the way: it is the next document's, and kept, or the open document's
abbrev pub MeetsHeld : {I : Type 0} → Refused → Stepping I → StepState → (ends : Bool) → Type 0
MeetsHeld e s m true = (ends_before m e ≡ true) × (s.ahead ≡ Some e)
MeetsHeld e s m false = ends_before m e ≡ false

-- ---- what is looked at

-- what waits tells whether another document is there; else the refusal counts as one
abbrev pub told_or_refused : Option (Result Bool Refused) → Result Bool Refused
told_or_refused None = Ok true
told_or_refused (Some told) = told

abbrev pub held_follows : ℕ → StepState → Result Bool Refused
held_follows room m = told_or_refused (told_by room m.pending)
