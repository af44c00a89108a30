-- What calls give behind a boundary, by what the text that is left there tells alone.
use Rattle.std.specs.Prelude.{◌≡◌, ◌⊎◌, ℕ, Bool, List, [], ◌∷◌, ◌++◌, Some, None, Ok, Err}
pub use Rattle.granit_chains.specs.Chains.{BeginsAlone, CausedAlone, ReadsAlone, stream_start}
use Rattle.granit_error.specs.FaultKind.{NoMemory}
use Rattle.granit_error.specs.OptionsData.{OptionsData}
use Rattle.granit_event.specs.Events.{plain_event}
use Rattle.granit_lexemes.specs.PlainEvent.{PlainEvent}
use Rattle.granit_parser.specs.Parsing.{Next}
use Rattle.granit_shifted.specs.Shift.{Shift}
use Rattle.granit_stepper.specs.Numbers.{RefusesNumber}
use Rattle.granit_steps.specs.Steps.{StepState}

-- Behind these events of what is told from a boundary on, in that state, where the text that is left there stands:
-- where there is nothing more, they are the events of its reading; an event goes on with what begins its stream; and a
-- refusal, behind such events, is for want of memory, or a cause of it, or says that no number is left for an anchor.
abbrev pub EndsAlone : OptionsData → List ℕ → Shift → List PlainEvent → (renumbered : Bool) → StepState → Next → Type 0
EndsAlone o x shift es renumbered m None = ReadsAlone o x shift es
EndsAlone o x shift es renumbered m (Some (Ok e)) = BeginsAlone x shift (es ++ plain_event e ∷ [])
EndsAlone o x shift es renumbered m (Some (Err e)) =
    BeginsAlone x shift es
    × ((e.kind ≡ NoMemory) ⊎ (CausedAlone o x shift e ⊎ RefusesNumber renumbered o m e))
