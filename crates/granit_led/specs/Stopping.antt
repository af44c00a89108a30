-- Where refused reads stopped, as far as recovery goes by it: what is asked of a place where reading goes on behind it.
use Rattle.std.specs.Prelude.{◌≡◌, Bool, true, false, Option, Some, None}
use Rattle.granit_error.specs.OptionsData.{OptionsData}
use Rattle.granit_lexemes.specs.Here.{Here}
use Rattle.granit_lexemes.specs.Outcome.{Fault}
use Rattle.granit_restart.specs.Calls.{Calls, next_call}
use Rattle.granit_restart.specs.Recovery.{looked_by}
use Rattle.granit_restart.specs.Restart.{behind_fault}
use Rattle.granit_restart.specs.Skipping.{Ended, Failed, skip_by_turns, SkipEnd, Stops}
use Rattle.granit_steps.specs.Steps.{StepState}

-- what is asked of a place in the state before the turn that failed
abbrev pub Asked : Type 1
Asked = Here → StepState → Type 0

abbrev pub EndFits : Asked → Here → SkipEnd → Type 0
EndFits Fits stop (Ended s) = Unit {0}
EndFits Fits stop (Failed f s) = Fits stop s

-- behind a fault, and where the document behind its directives is dropped too
abbrev pub FaultFits : Asked → OptionsData → Stops → StepState → Type 0
FaultFits Fits o stops s = Fits stops.first s
    × EndFits Fits stops.second (skip_by_turns o (behind_fault stops.first s).1)

abbrev pub DropFits : Asked → OptionsData → Stops → SkipEnd → Type 0
DropFits Fits o stops (Ended s) = Unit {0}
DropFits Fits o stops (Failed f s) = FaultFits Fits o stops s

-- behind a fault that was given, or where a document is dropped
abbrev pub StopsFit : Asked → OptionsData → Stops → Option Fault → StepState → Type 0
StopsFit Fits o stops (Some f) s = FaultFits Fits o stops s
StopsFit Fits o stops None s = DropFits Fits o stops (skip_by_turns o s)

-- where recovery goes on, by whether the next event was looked at
abbrev pub looked_at : OptionsData → (looked : Bool) → Calls → Calls
looked_at o true c = looked_by c (next_call o c)
looked_at o false c = c

abbrev pub FitBehind : Asked → OptionsData → Stops → Calls → Type 0
FitBehind Fits o stops c = c.over ≡ false → StopsFit Fits o stops c.fault c.steps
