-- All events that a parser still gives, as one list.
use Rattle.std.specs.Prelude.{◌<◌, Bool, true, false, List, length, Result, Ok, Err}
use Rattle.granit_base.specs.Place.{Unread}
use Rattle.granit_error.specs.OptionsData.{OptionsData}
use Rattle.granit_error.specs.Refused.{Refused}
use Rattle.granit_input.specs.Origin.{Origin}
use Rattle.granit_lexemes.specs.PlainEvent.{PlainEvent}
use Rattle.granit_parser.specs.Parsing.{LeadsTo, Parsing, StandsAt}
use Rattle.granit_sourced.specs.Gathering.{AllGathered, RefusesAfter}
pub use Rattle.granit_sourced.specs.Gathering.{LeadsOut}
pub use Rattle.granit_sourced.specs.Sources.{GoesGiving, IsSourceError}
use Rattle.granit_steps.specs.Steps.{StepState}

-- or a refusal comes behind some events
abbrev pub RefusesLate : {I : Type 0} → (I → Origin) → OptionsData → StepState → Parsing I → Refused → Type 0
RefusesLate origin o m p e = RefusesAfter origin o m p.stepper e

-- all events from a state on are these, or there is a refusal
abbrev pub GathersAll : {I V : Type 0} → (I → Origin) → OptionsData → StepState → Result V Refused
    → (V → List PlainEvent) → Parsing I → Type 0
GathersAll origin o m r view p = AllGathered origin o m r view p.stepper

-- these are the next events from a state on, at least one, and it is known in which state a parser stands behind them;
-- where no more come they are all, or there is a refusal
abbrev pub GathersSome : {I : Type 0} → (I → Unread → Type 0) → (I → Origin) → OptionsData → StepState
    → Result Bool Refused → List PlainEvent → Parsing I → Type 0
GathersSome unread origin o m (Ok true) es p =
    (0 < length es) × ((n : StepState) × LeadsTo o m es n × StandsAt unread p n)
GathersSome unread origin o m (Ok false) es p = LeadsOut o m es
GathersSome unread origin o m (Err e) es p = RefusesLate origin o m p e
