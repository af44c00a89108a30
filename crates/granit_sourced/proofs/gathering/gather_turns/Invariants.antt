use Rattle.std.proofs.Common.{◌≡◌, ◌≤◌, length, true}
use Rattle.granit_cursor.specs.Reading.{GoesOnward}
use Rattle.granit_input.specs.Origin.{Goes}
use Rattle.granit_sourced.specs.Gathering.{WaitsGathered}
use Rattle.granit_sourced.proofs.gathering.gather_turns.Given as goal
use Rattle.granit_steps.specs.Steps.{StepState}

abbrev pub invariant-turns : goal.invariant-turns
invariant-turns g l = record {
  gathered : (m : StepState)
      → WaitsGathered g.T.Input.unread l.fn.stepper.scanner.options m l.fn.stepper
      → (l._turn ≤ length l.stepper.parser.given)
      × WaitsGathered g.T.Input.unread l.fn.stepper.scanner.options m l.stepper;
  over : l.fn.stepper.failed ≡ true → l.stepper.failed ≡ true;
  same : l.stepper.scanner.options ≡ l.fn.stepper.scanner.options;
  renumbered : l.stepper.renumbered ≡ l.fn.stepper.renumbered;
  goes : Goes (g.T.Input.origin l.fn.stepper.scanner.cursor.input)
      (g.T.Input.origin l.stepper.scanner.cursor.input);
  onward : GoesOnward g.T.Input.unread l.fn.stepper.scanner.cursor l.stepper.scanner.cursor;
}
