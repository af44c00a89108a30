-- What is printed where recovery follows each fault, or each so many events, for the worked rows.
use Rattle.std.specs.Prelude.{ℕ, zero, suc, Bool, true, false, ◌==◌, if◌then◌else◌, List, [], ◌++◌, codes, Some, None}
use Rattle.std.specs.Prelude.{Result, Ok, Err}
use Rattle.granit_error.specs.OptionsData.{OptionsData, default_options}
use Rattle.granit_lexemes.specs.Here.{Here, start_of}
use Rattle.granit_lexemes.specs.Line.{event_line, fault_line}
use Rattle.granit_lexemes.specs.Moves.{steps}
use Rattle.granit_lexemes.specs.Outcome.{Fault}
use Rattle.granit_restart.specs.Calls.{Calls, GivenByCall, calls_start, next_call}
use Rattle.granit_restart.specs.Recovery.{recover}
use Rattle.granit_restart.specs.Skipping.{Stops}

abbrev pub answer_line : Result Bool Fault → List ℕ
answer_line (Ok true) = codes "proceed true\n"
answer_line (Ok false) = codes "proceed false\n"
answer_line (Err f) = codes "proceed " ++ fault_line f

abbrev pub lines_on : (Calls → List ℕ) → Result Bool Fault × Calls → List ℕ
lines_on later (Ok follows, c) = answer_line (Ok follows) ++ later c
lines_on later (Err f, c) = answer_line (Err f)

abbrev pub recovery_lines : OptionsData → (Calls → Stops) → (Calls → List ℕ) → Calls → List ℕ
recovery_lines o stops later c = lines_on later (recover o (stops c) false c)

-- recovery behind each so many events, of which some were given, and behind each fault
abbrev pub call_lines_by : OptionsData → (Calls → Stops) → (every given : ℕ)
    → (ℕ → Calls → List ℕ) → GivenByCall × Calls
    → List ℕ
call_lines_by o stops every given later (None, c) = []
call_lines_by o stops every given later (Some (Ok e), c) =
    event_line e
    ++ (if suc given == every then recovery_lines o stops (later 0) c else later (suc given) c)
call_lines_by o stops every given later (Some (Err f), c) = fault_line f ++ recovery_lines o stops (later given) c

abbrev pub call_lines : OptionsData → (Calls → Stops) → (every : ℕ) → ℕ → ℕ → Calls → List ℕ
call_lines o stops every zero given c = []
call_lines o stops every (suc n) given c = call_lines_by o stops every given
    (call_lines o stops every n) (next_call o c)

abbrev pub both_at : Here → Stops
both_at h = record { first = h; second = h }

-- reads that are refused stop where they began
abbrev pub at_once : Calls → Stops
at_once c = both_at c.steps.reading.reader.here

-- the lines of thirty calls at most, with recovery behind faults
abbrev pub recovers_under : OptionsData → List ℕ → List ℕ
recovers_under o text = call_lines o at_once 0 30 0 (calls_start text)

abbrev pub recovers : List ℕ → List ℕ
recovers text = recovers_under default_options text

-- the same where the reads that are refused stop behind so many characters of the text
abbrev pub recovers_from : (stop : ℕ) → List ℕ → List ℕ
recovers_from stop text =
    call_lines default_options (λ c. both_at (steps stop (start_of text))) 0 30 0 (calls_start text)

-- and with recovery behind each so many events
abbrev pub skips : (every : ℕ) → List ℕ → List ℕ
skips every text = call_lines default_options at_once every 30 0 (calls_start text)
