use Rattle.std.proofs.Common.{◌≡◌, None}
use Rattle.granit_load.specs.Lines.{LinesLead}
use Rattle.granit_load.proofs.lines.gather_lines.Given as goal
use Rattle.granit_parser.specs.Parsing.{StandsAt}
use Rattle.granit_steps.specs.Steps.{StepState}

abbrev pub invariant-batches : goal.invariant-batches
invariant-batches g l = record {
  lead : (m : StepState) → StandsAt g.T.Input.unread l.fn.parser m
      → LinesLead g.T.Input.unread l.fn.parser.stepper.scanner.options m l.page l.parser;
  seen : l.parser.peeked ≡ None;
  same : l.parser.stepper.scanner.options ≡ l.fn.parser.stepper.scanner.options;
  renumbered : l.parser.stepper.renumbered ≡ l.fn.parser.stepper.renumbered;
}
