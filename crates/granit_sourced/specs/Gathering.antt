-- All events that a stepper still gives, as one list.
use Rattle.std.specs.Prelude.{◌≡◌, ◌⊎◌, ◌<◌, ◌≤◌, ◌-◌, ◌^◌, ℕ, Bool, true, false, List, [], ◌∷◌, length, None}
use Rattle.std.specs.Prelude.{Some, Result, Ok, Err}
use Rattle.granit_base.specs.Place.{Unread}
use Rattle.granit_error.specs.OptionsData.{OptionsData}
use Rattle.granit_error.specs.Refused.{Refused}
use Rattle.granit_input.specs.Origin.{Origin}
use Rattle.granit_lexemes.specs.Outcome.{Fails}
use Rattle.granit_lexemes.specs.PlainEvent.{PlainEvent}
use Rattle.granit_restart.specs.Skipping.{with_pending}
use Rattle.granit_sourced.specs.Sources.{IsSourceError}
use Rattle.granit_stepper.specs.Numbers.{RefusesNumber}
use Rattle.granit_stepper.specs.Stepping.{Stepping, StandsIn}
use Rattle.granit_steps.specs.Steps.{StepState, next_event}

-- one by one these events are given, from a state up to another one
pub data LeadsTo (o : OptionsData) : StepState → List PlainEvent → StepState → Type 0 where
  none_given : {m : StepState} → LeadsTo o m [] m
  first_given : {m next last : StepState} {e : PlainEvent} {es : List PlainEvent}
      → next_event o m ≡ Ok (Some e, next) → LeadsTo o next es last → LeadsTo o m (e ∷ es) last

-- these events were gathered from a state on, and a stepper is known to stand behind them
abbrev pub Gathered : {I : Type 0} → (I → Unread → Type 0) → OptionsData → StepState → List PlainEvent → Stepping I
    → Type 0
Gathered unread o m es s = (n : StepState) × LeadsTo o m es n × StandsIn unread s n

-- all that was given from a state on waits in a stepper, and it is known in which state that stands behind it
pub record WaitsGathered {I : Type 0} (unread : I → Unread → Type 0) (o : OptionsData) (m : StepState) (s : Stepping I)
    : Type 0 where
  pub told : s.first ≡ None
  pub at : StepState
  pub leads : LeadsTo o m s.parser.given (with_pending [] at)
  pub stands : StandsIn unread s (with_pending s.parser.given at)

-- One by one these events are given from a state on, and nothing more. Behind them fewer anchors are counted than the
-- greatest number of 64 bits, since one that would get it is refused.
abbrev pub LeadsOut : OptionsData → StepState → List PlainEvent → Type 0
LeadsOut o m es =
    (n : StepState) × LeadsTo o m es n × (n.parser.count < 2 ^ 64 - 1)
    × ((after : StepState) × (next_event o n ≡ Ok (None, after)))

-- a refusal in a state: the machine's, unless memory ran out, or that no number is left for an anchor, or the error of
-- the source
abbrev pub RefusedThere : {I : Type 0} → (I → Origin) → OptionsData → StepState → Stepping I → Refused → Type 0
RefusedThere origin o m s e =
    (Fails e (next_event o m) ⊎ RefusesNumber s.renumbered o m e)
    ⊎ IsSourceError (origin s.scanner.cursor.input) s.scanner.cursor.place e

-- it comes behind some events
abbrev pub RefusesAfter : {I : Type 0} → (I → Origin) → OptionsData → StepState → Stepping I → Refused → Type 0
RefusesAfter origin o m s e = (es : List PlainEvent) × (n : StepState) × LeadsTo o m es n × RefusedThere origin o n s e

-- all events from a state on are these, or there is a refusal
abbrev pub AllGathered : {I V : Type 0} → (I → Origin) → OptionsData → StepState → Result V Refused
    → (V → List PlainEvent) → Stepping I → Type 0
AllGathered origin o m (Ok v) view s = LeadsOut o m (view v)
AllGathered origin o m (Err e) view s = RefusesAfter origin o m s e

-- these are the next events from a state on, at least one, and it is known in which state a stepper stands behind them;
-- where no more come they are all, or there is a refusal
abbrev pub NextGathered : {I : Type 0} → (I → Unread → Type 0) → (I → Origin) → OptionsData → StepState
    → Result Bool Refused → List PlainEvent → Stepping I → Type 0
NextGathered unread origin o m (Ok true) es s = (0 < length es) × Gathered unread o m es s
NextGathered unread origin o m (Ok false) es s = LeadsOut o m es
NextGathered unread origin o m (Err e) es s = RefusesAfter origin o m s e

-- the same of the events that wait, where so many are wanted at least
abbrev pub WaitsOrRefuses : {I : Type 0} → (I → Unread → Type 0) → (I → Origin) → OptionsData → StepState → ℕ
    → Result Bool Refused → Stepping I → Type 0
WaitsOrRefuses unread origin o m count (Ok true) s =
    (count ≤ length s.parser.given) × WaitsGathered unread o m s
WaitsOrRefuses unread origin o m count (Ok false) s = LeadsOut o m s.parser.given
WaitsOrRefuses unread origin o m count (Err e) s = RefusesAfter origin o m s e
