-- How many recoveries one behind another tell of a document, for the worked rows.
use Rattle.std.specs.Prelude.{ℕ, zero, suc, Bool, true, false, List, Option, Some, None, Result, Ok, Err}
use Rattle.granit_chains.specs.Chains.{state_left}
use Rattle.granit_error.specs.OptionsData.{OptionsData, default_options}
use Rattle.granit_lexemes.specs.Here.{Here, start_of}
use Rattle.granit_lexemes.specs.Outcome.{Fault}
use Rattle.granit_recovery.specs.RecoveryRows.{both_at}
use Rattle.granit_restart.specs.Calls.{Calls, calls_start}
use Rattle.granit_restart.specs.Recovery.{recover}
use Rattle.granit_restart.specs.Skipping.{Ended, Failed, skip_by_turns, SkipEnd, Stops}
use Rattle.granit_alone.specs.Behind.{looked_at}
use Rattle.granit_steps.specs.Steps.{start_from, StepState}

-- reads that are refused stop where they began
abbrev pub stop_of : SkipEnd → Here
stop_of (Ended s) = s.reading.reader.here
stop_of (Failed f s) = s.reading.reader.here

abbrev pub stop_by : OptionsData → Option Fault → StepState → Here
stop_by o (Some f) s = s.reading.reader.here
stop_by o None s = stop_of (skip_by_turns o s)

abbrev pub stops_of : OptionsData → Calls → Stops
stops_of o c = both_at (stop_by o c.fault c.steps)

-- the next event is looked at first
abbrev pub recover_looked : OptionsData → Calls → Result Bool Fault × Calls
recover_looked o c = recover o (stops_of o (looked_at o true c)) true c

abbrev pub tells_on : (Calls → ℕ) → Result Bool Fault × Calls → ℕ
tells_on later (Ok true, d) = suc (later d)
tells_on later (Ok false, d) = 0
tells_on later (Err f, d) = 0

-- of at most so many
abbrev pub tells_in : OptionsData → ℕ → Calls → ℕ
tells_in o zero c = 0
tells_in o (suc n) c = tells_on (tells_in o n) (recover_looked o c)

abbrev pub recoveries_told : List ℕ → ℕ
recoveries_told text = tells_in default_options 30 (calls_start text)

abbrev pub recover_first : List ℕ → Result Bool Fault × Calls
recover_first text = recover_looked default_options (calls_start text)

abbrev pub left_of_text : List ℕ → ℕ
left_of_text text = state_left (start_from (start_of text))
