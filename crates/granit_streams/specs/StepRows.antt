-- What is left unread behind some calls, and what some events leave open, for the worked rows.
use Rattle.std.specs.Prelude.{ℕ, zero, suc, List, [], map, Option, Result, Ok, Err}
use Rattle.granit_error.specs.OptionsData.{OptionsData, default_options}
use Rattle.granit_lexemes.specs.Here.{text_len, mark_of, start_of}
use Rattle.granit_lexemes.specs.Outcome.{Fault, ◌>>=◌}
use Rattle.granit_lexemes.specs.PlainEvent.{EventKind, event_on}
use Rattle.granit_steps.specs.Levels.{Level, stream_levels}
use Rattle.granit_steps.specs.Steps.{StepState, next_event, steps_start}

abbrev pub calls : OptionsData → ℕ → StepState → Result StepState Fault
calls o zero s = Ok s
calls o (suc n) s = next_event o s >>= λ x. calls o n x.1

abbrev pub unread_of : Result StepState Fault → ℕ
unread_of (Ok s) = text_len s.reading.reader.here
unread_of (Err f) = 0

-- how many characters are unread behind so many calls
abbrev pub unread_behind : ℕ → List ℕ → ℕ
unread_behind n text = unread_of (calls default_options n (steps_start text))

-- what events of some kinds leave open
abbrev pub left_by : List EventKind → Option (List Level)
left_by kinds = stream_levels (map (λ kind. event_on kind (mark_of (start_of []))) kinds)
