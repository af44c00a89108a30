-- The number that a next anchor gets.
use Rattle.std.specs.Prelude.{ℕ, ◌-◌, true}
use Rattle.std.specs.Option.{option_map}
use Rattle.granit_refusals.specs.BeforeTurn.{recounted}
use Rattle.granit_stepper.specs.Stepping.{Stepping}
use Rattle.granit_steps.specs.Steps.{StepState}

-- a next anchor gets this number; 0 is as 1
abbrev pub with_offset : ℕ → StepState → StepState
with_offset offset m = record m { parser = record (m.parser) { count = offset - 1 } }

-- the same of a stepper, and of the refusal that it keeps
abbrev pub renumbered_by : {I : Type 0} → ℕ → Stepping I → Stepping I
renumbered_by offset s = record s {
  parser = record (s.parser) { count = offset - 1 };
  renumbered = true;
  refusal = option_map (recounted offset) s.refusal;
}
