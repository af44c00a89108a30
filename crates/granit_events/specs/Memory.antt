-- What contracts see of a source and a sink in memory.
use Rattle.std.specs.Prelude.{ℕ, ◌==◌, Bool, List}
use Rattle.std.specs.List.{list_any}

-- the bytes left, the most bytes a call moves, the numbers of the calls that fail, how many calls there were, and how
-- many of them failed
pub record MemoryIn : Type 0 where
  pub left : List ℕ
  pub most : ℕ
  pub failing : List ℕ
  pub calls : ℕ
  pub faults : ℕ

-- the bytes written, how many there may be, and the same
pub record MemoryOut : Type 0 where
  pub written : List ℕ
  pub room : ℕ
  pub most : ℕ
  pub failing : List ℕ
  pub calls : ℕ
  pub faults : ℕ

-- whether a call is among those that fail
abbrev pub call_fails : ℕ → List ℕ → Bool
call_fails call failing = list_any (λ n. n == call) failing
