-- The machine of steps where its text stands behind another one.
use Rattle.std.specs.Prelude.{map, Option, Some, None, Result, Ok, Err}
use Rattle.granit_lexemes.specs.Outcome.{Fault}
use Rattle.granit_lexemes.specs.PlainEvent.{PlainEvent}
use Rattle.granit_shifted.specs.Shift.{Shift, moved_event, moved_events, moved_fault, moved_flagged, moved_state}
use Rattle.granit_shifted.specs.Shift.{moved_reading}
use Rattle.granit_steps.specs.Steps.{StepState}

abbrev pub moved_steps : Shift → StepState → StepState
moved_steps shift s = record {
  reading = moved_reading shift s.reading;
  queue = map (moved_flagged shift) s.queue;
  parser = moved_state shift s.parser;
  pending = moved_events shift s.pending;
}

abbrev pub moved_told : Shift → Option PlainEvent → Option PlainEvent
moved_told shift None = None
moved_told shift (Some e) = Some (moved_event shift e)

-- what a call gives
abbrev pub moved_call : Shift → Result (Option PlainEvent × StepState) Fault
    → Result (Option PlainEvent × StepState) Fault
moved_call shift (Ok x) = Ok (moved_told shift x.0, moved_steps shift x.1)
moved_call shift (Err f) = Err (moved_fault shift f)
