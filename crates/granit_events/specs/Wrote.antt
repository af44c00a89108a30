-- The part of an output that was written.
use Rattle.std.specs.Prelude.{◌≡◌, ℕ, ◌<◌, List, ◌++◌, length, Option}
use Rattle.std.specs.Io.KnownBytes.{Appends}

-- a front of an output was written, but not all of it, and nothing else
pub record WroteFront (before now : Option (List ℕ)) (output : List ℕ) : Type 0 where
  pub front : List ℕ
  pub rest : List ℕ
  pub parts : output ≡ front ++ rest
  pub unwritten : 0 < length rest
  pub wrote : Appends before now front
