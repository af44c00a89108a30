-- What calls give behind a recovery from a fault.
use Rattle.std.specs.Prelude.{◌≡◌, ◌⊎◌, Bool, false, List, [], ◌∷◌, ◌++◌, Some, None, Ok, Err}
use Rattle.granit_chains.specs.Chains.{GivesOn}
use Rattle.granit_chains.specs.Chains.{CountsAt}
use Rattle.granit_base.specs.Place.{Unread}
use Rattle.granit_error.specs.FaultKind.{NoMemory}
use Rattle.granit_error.specs.OptionsData.{OptionsData}
use Rattle.granit_event.specs.Events.{plain_event}
use Rattle.granit_lexemes.specs.Outcome.{Fault}
use Rattle.granit_lexemes.specs.PlainEvent.{PlainEvent}
use Rattle.granit_parser.specs.Parsing.{Next, Parsing}
use Rattle.granit_parser.specs.Recovering.{ParserIn}
use Rattle.granit_recovery.specs.Streams.{CallsGive, ReachedByCalls}
use Rattle.granit_restart.specs.Ahead.{AheadOf}
use Rattle.granit_restart.specs.Calls.{Calls, next_call}
use Rattle.granit_restart.specs.Recovery.{recover}
use Rattle.granit_restart.specs.Skipping.{Stops}
use Rattle.granit_chains.specs.Chains.{FaultFits}
use Rattle.granit_stepper.specs.Numbers.{RefusesNumber}
use Rattle.granit_steps.specs.Steps.{StepState}

-- Calls failed with a fault, recovery went on behind it where lines count from 1, by where refused reads stopped, and
-- calls then gave these events.
pub record Resumed (o : OptionsData) (stops : Stops) (c : Calls) (es : List PlainEvent) (e : Calls) : Type 0 where
  pub reached : ReachedByCalls o c
  pub over : c.over ≡ false
  pub fault : Fault
  pub failed : c.fault ≡ Some fault
  pub counts : FaultFits CountsAt o stops c.steps
  pub looked : Bool
  pub follows : Bool
  pub start : Calls
  pub recovers : recover o stops looked c ≡ (Ok follows, start)
  pub gives : CallsGive o start es e

-- The next call behind them gives an event or is refused: what was given then is what the text tells that is left from
-- the boundary on, as a text of its own, or where handles stay from before, behind one that declares them anew; so is a
-- refusal, unless memory ran out or no number is left for an anchor.
abbrev pub ResumesCall : {I : Type 0} → (I → Unread → Type 0) → OptionsData → Stops → Calls → List PlainEvent → Next
    → Parsing I → Calls → Type 0
ResumesCall unread o stops c es None p e = ⊥
ResumesCall unread o stops c es (Some (Ok x)) p e = (after : Calls)
    × Resumed o stops c (es ++ plain_event x ∷ []) after
    × GivesOn o stops c.steps (es ++ plain_event x ∷ []) after × ParserIn unread p after
ResumesCall unread o stops c es (Some (Err x)) p e = (x.kind ≡ NoMemory → ⊥)
    → ((after : Calls) × (next_call o e ≡ (Some (Err x), after)) × GivesOn o stops c.steps es e)
    ⊎ ((t : StepState) × AheadOf o e.steps t × RefusesNumber p.stepper.renumbered o t x)
