-- How much was written of an output that is called for.
use Rattle.std.specs.Prelude.{ℕ, List, Option}
use Rattle.std.specs.Io.KnownBytes.{Appends}
use Rattle.granit_events.specs.Wrote.{WroteFront}
use Rattle.granit_events.specs.declared.status.Status.{Status}

-- the whole of an output that is called for with that status
pub record WholeOutput (calls : Status → List ℕ → Type 0) (before now : Option (List ℕ)) (status : Status) : Type
    0 where
  pub output : List ℕ
  pub called : calls status output
  pub wrote : Appends before now output

-- a front of an output that is called for with some status
pub record CutOutput (calls : Status → List ℕ → Type 0) (before now : Option (List ℕ)) : Type 0 where
  pub wanted : Status
  pub output : List ℕ
  pub called : calls wanted output
  pub wrote : WroteFront before now output
