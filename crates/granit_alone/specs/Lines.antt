-- Lines that are counted from 1.
use Rattle.std.specs.Prelude.{◌≤◌}
use Rattle.granit_lexemes.specs.Here.{Here}
use Rattle.granit_lexemes.specs.Onward.{Onward}
use Rattle.granit_restart.specs.Calls.{Calls}
use Rattle.granit_restart.specs.Restart.{cursor_at}
use Rattle.granit_steps.specs.Steps.{StepState}

-- where reading stands
abbrev pub LinesCount : Calls → Type 0
LinesCount c = 1 ≤ c.steps.reading.reader.here.place.line

-- where a refused read stopped, or else where reading stands
abbrev pub CountsAt : Here → StepState → Type 0
CountsAt stop s = 1 ≤ (cursor_at stop s.reading).place.line

-- wherever reading may have come to from where it stands
abbrev pub ComesOnward : Here → StepState → Type 0
ComesOnward stop s = Onward s.reading.reader.here stop
