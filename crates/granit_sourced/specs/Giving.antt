-- What a call of a stepper gives, in a state of the machine.
use Rattle.std.specs.Prelude.{◌≡◌, ◌⊎◌, Bool, true, Option, Some, None, Result, Ok, Err, IfErr, IfSome}
use Rattle.granit_base.specs.Place.{Unread}
use Rattle.granit_error.specs.OptionsData.{OptionsData}
use Rattle.granit_error.specs.Refused.{Refused}
use Rattle.granit_event.specs.Events.{plain_event}
use Rattle.granit_layers.specs.Turning.{Next}
use Rattle.granit_lexemes.specs.Outcome.{Fails}
use Rattle.granit_stepper.specs.Numbers.{RefusesNumber}
use Rattle.granit_stepper.specs.Stepping.{Stepping, StandsIn}
use Rattle.granit_steps.specs.Steps.{StepState, next_event}

-- an event, why there is none, or nothing more, as the stepper says it
abbrev pub next_view : {X : Type 0} → Result (Option X) Refused → Option (Result X Refused)
next_view (Ok None) = None
next_view (Ok (Some x)) = Some (Ok x)
next_view (Err e) = Some (Err e)

-- where this is a refusal, it is the last that is given: a parser that has nothing looked at is then over
abbrev pub EndsWith : {I : Type 0} → Next → Stepping I → Type 0
EndsWith r s = IfSome r (λ x. IfErr x (λ e. s.failed ≡ true))

-- a call gives what the machine's step gives, and a state is then known in which that ends; a refusal is its fault,
-- unless memory ran out, or says that no number is left for an anchor
abbrev pub GivesNext : Next → (StepState → Type 0) → (renumbered : Bool) → OptionsData → StepState → Type 0
GivesNext None Lands renumbered o m = (after : StepState) × Lands after × (next_event o m ≡ Ok (None, after))
GivesNext (Some (Ok e)) Lands renumbered o m =
    (after : StepState) × Lands after × (next_event o m ≡ Ok (Some (plain_event e), after))
GivesNext (Some (Err e)) Lands renumbered o m = Fails e (next_event o m) ⊎ RefusesNumber renumbered o m e

-- what the step from a state gives, and a state is then known in which that leaves the stepper
abbrev pub StepsBy : {I : Type 0} → (I → Unread → Type 0) → Next → (old new : Stepping I) → StepState → Type 0
StepsBy unread r old new m = GivesNext r (StandsIn unread new) new.renumbered old.scanner.options m
