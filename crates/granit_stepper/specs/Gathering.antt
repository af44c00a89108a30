-- Events that wait behind others.
use Rattle.std.specs.Prelude.{◌≡◌, ◌==◌, ◌⊎◌, not, length, Bool, [], ◌++◌, Result, Ok, Err}
use Rattle.granit_error.specs.OptionsData.{OptionsData}
use Rattle.granit_error.specs.Refused.{Refused}
use Rattle.granit_lexemes.specs.Outcome.{Fails}
use Rattle.granit_restart.specs.Skipping.{with_pending}
use Rattle.granit_steps.specs.Steps.{StepState, settle}

-- The machine settles behind a state and the events that wait in it: what waits then is behind those, in a state that
-- is known, and it is told whether anything came. A refusal is the machine's, unless memory ran out, or is one of
-- these.
abbrev pub GathersBehind : Result Bool Refused → (StepState → Type 0) → OptionsData → StepState → (Refused → Type 0)
    → Type 0
GathersBehind (Ok more) Lands o m Refuses =
    (after : StepState) × (settle o (with_pending [] m) ≡ Ok ([], after))
    × Lands (with_pending (m.pending ++ after.pending) after) × (more ≡ not (length after.pending == 0))
GathersBehind (Err e) Lands o m Refuses = Fails e (settle o (with_pending [] m)) ⊎ Refuses e
