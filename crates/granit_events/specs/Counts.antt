-- Counts of faults.
use Rattle.std.specs.Prelude.{ℕ, min}
use Rattle.granit_base.specs.Counts.{last_count}

-- a count as it is told
abbrev pub held_count : ℕ → ℕ
held_count n = min n last_count
