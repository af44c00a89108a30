-- The number that a parser's next anchor gets.
use Rattle.std.specs.Prelude.{ℕ, ◌-◌, ◌^◌, min, suc}
use Rattle.granit_parser.specs.Parsing.{Parsing}
pub use Rattle.granit_stepper.specs.Numbers.{NoNumberLeft}
use Rattle.granit_stepper.specs.Offset.{renumbered_by}
pub use Rattle.granit_stepper.specs.Offset.{with_offset}

-- one more than the number of the last anchor, held at the greatest number of 64 bits
abbrev pub next_number : {I : Type 0} → Parsing I → ℕ
next_number p = min (suc p.stepper.parser.count) (2 ^ 64 - 1)

-- a next anchor gets this number; 0 is as 1
abbrev pub with_number : {I : Type 0} → ℕ → Parsing I → Parsing I
with_number offset p = record p {
  stepper = renumbered_by offset p.stepper;
}
