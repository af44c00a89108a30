-- The lines of all events that a parser gives.
use Rattle.std.specs.Prelude.{◌≡◌, ℕ, Bool, true, false, List, Result, Ok, Err}
use Rattle.granit_base.specs.Place.{Unread}
use Rattle.granit_error.specs.OptionsData.{OptionsData}
use Rattle.granit_error.specs.Refused.{Refused}
use Rattle.granit_input.specs.Origin.{Origin}
use Rattle.granit_lexemes.specs.Line.{event_lines}
use Rattle.granit_lexemes.specs.Outcome.{Fault, Fails}
use Rattle.granit_lexemes.specs.PlainEvent.{PlainEvent}
use Rattle.granit_parser.specs.Gathering.{LeadsOut, RefusesLate}
use Rattle.granit_parser.specs.Parsing.{LeadsTo, Parsing, StandsAt}
use Rattle.granit_steps.specs.Steps.{StepState}

-- the lines of an answer's events, or its fault, unless memory ran out
abbrev pub GivesLines : Result (List ℕ) Refused → Result (List PlainEvent) Fault → Type 0
GivesLines (Ok page) answer = (es : List PlainEvent) × (answer ≡ Ok es) × (page ≡ event_lines es)
GivesLines (Err e) answer = Fails e answer

-- these are the lines of events that are given from a state on, and a parser is known to stand behind them
abbrev pub LinesLead : {I : Type 0} → (I → Unread → Type 0) → OptionsData → StepState → List ℕ → Parsing I → Type 0
LinesLead unread o m page p =
    (es : List PlainEvent) × (n : StepState) × LeadsTo o m es n × StandsAt unread p n × (page ≡ event_lines es)

-- these are the lines of all of them
abbrev pub LinesOut : OptionsData → StepState → List ℕ → Type 0
LinesOut o m page = (es : List PlainEvent) × LeadsOut o m es × (page ≡ event_lines es)

-- the lines of all of them, or there is a refusal
abbrev pub GathersLines : {I : Type 0} → (I → Origin) → OptionsData → StepState → Result (List ℕ) Refused → Parsing I
    → Type 0
GathersLines origin o m (Ok page) p = LinesOut o m page
GathersLines origin o m (Err e) p = RefusesLate origin o m p e

-- the lines of more of them, of all where no more come, or there is a refusal
abbrev pub PushesLines : {I : Type 0} → (I → Unread → Type 0) → (I → Origin) → OptionsData → StepState
    → Result Bool Refused → List ℕ → Parsing I → Type 0
PushesLines unread origin o m (Ok true) page p = LinesLead unread o m page p
PushesLines unread origin o m (Ok false) page p = LinesOut o m page
PushesLines unread origin o m (Err e) page p = RefusesLate origin o m p e
