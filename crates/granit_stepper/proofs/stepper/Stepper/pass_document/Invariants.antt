use Rattle.std.proofs.Common.{◌≡◌, None, Some}
use Rattle.granit_cursor.specs.Reading.{Moves}
use Rattle.granit_error.specs.Refused.{Refused}
use Rattle.granit_restart.specs.Turned.{Turned}
use Rattle.granit_stepper.proofs.PassLemmas.{SkipsAlong}
use Rattle.granit_stepper.specs.Refusals.{StandsAhead}
use Rattle.granit_stepper.proofs.stepper.Stepper.pass_document.Given as goal
use Rattle.granit_steps.specs.Steps.{StepState}

abbrev pub invariant-turns : goal.invariant-turns
invariant-turns g l = record {
  along : (m : StepState) → StandsAhead g.T.Input.unread l.fn.self m → Turned l.fn.self.scanner.options m
      → SkipsAlong g.T.Input.unread l.fn.self.scanner.options l.self m;
  held : (f : Refused) → l.fn.self.ahead ≡ Some f → l.self ≡ record (l.fn.self) { first = None };
  told : l.self.first ≡ None;
  options : l.self.scanner.options ≡ l.fn.self.scanner.options;
  renumbered : l.self.renumbered ≡ l.fn.self.renumbered;
  moves : Moves g.T.Input.unread g.T.Input.left g.T.Input.origin l.fn.self.scanner.cursor l.self.scanner.cursor;
}
