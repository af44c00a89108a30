-- A stepper where the machine's calls lead, and what a read gives there.
use Rattle.std.specs.Prelude.{◌≡◌, ◌⊎◌, ℕ, Bool, true, List, [], ◌∷◌, Some, None, Ok, Err}
use Rattle.granit_base.specs.Place.{Unread}
use Rattle.granit_error.specs.FaultKind.{NoMemory}
use Rattle.granit_error.specs.OptionsData.{OptionsData}
use Rattle.granit_error.specs.Refused.{Refused}
use Rattle.granit_event.specs.Events.{plain_event}
use Rattle.granit_layers.specs.Turning.{Next}
use Rattle.granit_lexemes.specs.Outcome.{Fault}
use Rattle.granit_lexemes.specs.PlainEvent.{PlainEvent}
use Rattle.granit_restart.specs.Ahead.{AheadOf, NoneComes}
use Rattle.granit_restart.specs.Calls.{Calls, failing, noted}
use Rattle.granit_restart.specs.Skipping.{with_pending}
use Rattle.granit_restart.specs.Turned.{with_count}
use Rattle.granit_stepper.specs.Holding.{HoldsFault}
use Rattle.granit_stepper.specs.Numbers.{RefusesNumber}
use Rattle.granit_stepper.specs.Refusals.{FailsIn, StandsAhead, StandsRefused}
use Rattle.granit_stepper.specs.Stepping.{Stepping}
use Rattle.granit_steps.specs.Steps.{StepState, next_event}

-- No call failed: a stepper is where calls led, or some turns ahead of it. Directly behind a document it is ahead only
-- where no other comes.
pub record GoesWithCalls {I : Type 0} (unread : I → Unread → Type 0) (s : Stepping I) (c : Calls) : Type 0 where
  pub steps : StepState
  pub ahead : AheadOf s.scanner.options c.steps steps
  pub stands : StandsAhead unread s steps
  pub between : c.between ≡ true → (steps ≡ c.steps) ⊎ NoneComes s.scanner.options c.steps
  pub told : c.between ≡ true → s.first ≡ None

-- A call failed: the turn that failed is known, and under which options, behind how many anchors, it did. Others may
-- have been set since; recovery goes on by those.
pub record Failed {I : Type 0} (unread : I → Unread → Type 0) (s : Stepping I) (m : StepState) (f : Fault) : Type 0
  where
    pub stands : StandsRefused unread s m f
    pub options : OptionsData
    pub count : ℕ
    pub fails : FailsIn s.renumbered options (with_pending [] (with_count count m)) f
    pub failed : s.failed ≡ true

-- an event was looked at: the next call gives it, and the stepper is where that call leads
pub record SeenNext {I : Type 0} (unread : I → Unread → Type 0) (s : Stepping I) (e : PlainEvent) (c : Calls) : Type 0
  where
    pub steps : StepState
    pub next : next_event s.scanner.options c.steps ≡ Ok (Some e, steps)
    pub goes : GoesWithCalls unread s (noted e.kind (record c { steps = steps }))

-- Which turn failed: the machine's, behind the turns that lead there, or the next anchor would get the greatest number.
abbrev pub FailsAt : (renumbered : Bool) → OptionsData → StepState → Calls → Refused → Type 0
FailsAt renumbered o m c e =
    FailsIn renumbered o (with_pending [] m) e
    × (((next_event o c.steps ≡ Err e) × (m ≡ failing o c.steps))
    ⊎ ((t : StepState) × AheadOf o c.steps t × RefusesNumber renumbered o t e))

-- what a read gives: the event of the next call, with the stepper where that leads, or its fault, unless memory ran out
-- or an anchor would get the greatest number
abbrev pub ReadsNext : {I : Type 0} → (I → Unread → Type 0) → Next → Stepping I → Calls → Type 0
ReadsNext unread None s c = (t : StepState) × (next_event s.scanner.options c.steps ≡ Ok (None, t))
ReadsNext unread (Some (Ok x)) s c = SeenNext unread s (plain_event x) c
ReadsNext unread (Some (Err e)) s c = (e.kind ≡ NoMemory → ⊥) → (m : StepState) × Failed unread s m e
    × FailsAt s.renumbered s.scanner.options m c e

-- where a refusal waits, a read gives the first of what waits before it, or the refusal, where nothing does
abbrev pub ReadsHeld : {I : Type 0} → (I → Unread → Type 0) → Next → Stepping I → StepState → Fault → Type 0
ReadsHeld unread None s m f = ⊥
ReadsHeld unread (Some (Ok x)) s m f =
    (es : List PlainEvent) × (m.pending ≡ plain_event x ∷ es) × HoldsFault unread s (with_pending es m) f
ReadsHeld unread (Some (Err e)) s m f =
    (m.pending ≡ []) × (e ≡ f) × (s.failed ≡ true) × StandsRefused unread s m f
