-- Counts that stay at the greatest number of 64 bits.
use Rattle.std.specs.Prelude.{ℕ, ◌+◌, ◌-◌, ◌^◌, ◌≤◌, min}

-- where a count stays once it is reached
abbrev pub last_count : ℕ
last_count = 2 ^ 64 - 1

-- one more
abbrev pub next_count : ℕ → ℕ
next_count n = min (n + 1) last_count

-- a count rose: it is greater than before, or stands at the last value
abbrev pub Rose : ℕ → ℕ → Type 0
Rose before now = next_count before ≤ now
