-- A parser between its calls, as far as recovery asks, and its next event.
use Rattle.std.specs.Prelude.{ℕ, zero, suc, Bool, true, false, ◌||◌, if◌then◌else◌, List, Option, Some, None, is_some}
use Rattle.std.specs.Prelude.{Result, Ok, Err}
use Rattle.granit_error.specs.OptionsData.{OptionsData}
use Rattle.granit_lexemes.specs.Outcome.{Fault}
use Rattle.granit_lexemes.specs.PlainEvent.{PlainEvent, EventKind, StreamEnd, DocumentStart, DocumentEnd}
use Rattle.granit_steps.specs.Steps.{StepState, Turn, next_event, step_size, step_turn, steps_start}

pub record Calls : Type 0 where
  -- the machine, where a fault was given before the turn that failed
  pub steps : StepState
  -- whether the end of a document was the last thing given, comments aside
  pub between : Bool
  -- whether the end of the stream was given
  pub over : Bool
  -- the fault that was given, if a call failed
  pub fault : Option Fault
  -- the refusal of recovery itself, which it answers from then on
  pub refusal : Option Fault

abbrev pub calls_start : List ℕ → Calls
calls_start text =
    record { steps = steps_start text; between = false; over = false; fault = None; refusal = None }

-- an event was given
abbrev pub noted : EventKind → Calls → Calls
noted (DocumentStart explicit version) c = record c { between = false }
noted DocumentEnd c = record c { between = true }
noted StreamEnd c = record c { over = true }
noted kind c = c

-- the state before the turn that fails, after at most so many turns
abbrev pub failing_by : (StepState → StepState) → StepState → Turn → StepState
failing_by later s (Ok (Some es, after)) = later after
failing_by later s (Ok (None, after)) = s
failing_by later s (Err f) = s

abbrev pub failing_in : OptionsData → ℕ → StepState → StepState
failing_in o zero s = s
failing_in o (suc n) s = failing_by (failing_in o n) s (step_turn o s)

abbrev pub failing : OptionsData → StepState → StepState
failing o s = failing_in o (suc (step_size s)) s

-- ---- one call

abbrev pub GivenByCall : Type 0
GivenByCall = Option (Result PlainEvent Fault)

abbrev pub given_by : OptionsData → Calls → Result (Option PlainEvent × StepState) Fault → GivenByCall × Calls
given_by o c (Ok (Some e, after)) = (Some (Ok e), noted e.kind (record c { steps = after }))
given_by o c (Ok (None, after)) = (None, c)
given_by o c (Err f) = (Some (Err f), record c { steps = failing o c.steps; fault = Some f })

-- the next event, and nothing behind the end of the stream, a fault or a refusal of recovery
unfoldable pub next_call : OptionsData → Calls → GivenByCall × Calls
next_call o c =
    if (c.over || is_some c.fault) || is_some c.refusal then (None, c) else given_by o c (next_event o c.steps)
