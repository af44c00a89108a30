use Rattle.std.proofs.Common.{◌≡◌, ◌≤◌, None}
use Rattle.granit_cursor.specs.Reading.{Moves}
use Rattle.granit_error.specs.Refused.{Refused}
use Rattle.granit_restart.specs.Turned.{Turned}
use Rattle.granit_stepper.proofs.LookLemmas.{LooksAlong, NotesUpTo}
use Rattle.granit_stepper.specs.Holding.{HoldsFault}
use Rattle.granit_stepper.specs.Refusals.{StandsAhead}
use Rattle.granit_stepper.specs.Stepping.{Keeps}
use Rattle.granit_stepper.proofs.stepper.Stepper.document_follows.Given as goal
use Rattle.granit_steps.specs.Steps.{StepState}

abbrev pub invariant-turns : goal.invariant-turns
invariant-turns g l = record {
  along : (m : StepState) → StandsAhead g.T.Input.unread l.fn.self m → l.fn.self.first ≡ None
      → Turned l.fn.self.scanner.options m
      → LooksAlong g.T.Input.unread l.fn.self.scanner.options l.room l.self m l.kept;
  held : (m : StepState) (e : Refused) → HoldsFault g.T.Input.unread l.fn.self m e
      → (l.self ≡ l.fn.self) × NotesUpTo l.kept l.fn.self.parser.given;
  within : l.kept ≤ l.room;
  keeps : Keeps l.fn.self l.self;
  moves : Moves g.T.Input.unread g.T.Input.left g.T.Input.origin l.fn.self.scanner.cursor l.self.scanner.cursor;
}
