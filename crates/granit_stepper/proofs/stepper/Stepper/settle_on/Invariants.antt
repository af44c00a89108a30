use Rattle.std.proofs.Common.{◌≡◌, [], length}
use Rattle.granit_cursor.specs.Reading.{Moves}
use Rattle.granit_error.specs.Refused.{Refused}
use Rattle.granit_stepper.specs.Stepping.{Keeps}
use Rattle.granit_stepper.specs.TurnMemory.{FailsFree}
use Rattle.granit_stepper.proofs.FreeLemmas.{FailsOn}
use Rattle.granit_stepper.proofs.SettleLemmas.{SettlesAlike}
use Rattle.granit_stepper.proofs.StayLemmas.{Rests, TurnsNone}
use Rattle.granit_stepper.proofs.stepper.Stepper.settle_on.Given as goal

abbrev pub invariant-turns : goal.invariant-turns
invariant-turns g l = record {
  alike : SettlesAlike g.T.Input.unread l.fn.self l.self;
  stays : TurnsNone (Rests l.fn.self) l._turn l.fn.self l.self;
  fails : l.fn.self.parser.given ≡ [] → (e : Refused) (free : FailsFree l.fn.self e)
      → FailsOn free.turns (length l.fn.self.parser.given) l._turn l.self e;
  keeps : Keeps l.fn.self l.self;
  moves : Moves g.T.Input.unread g.T.Input.left g.T.Input.origin l.fn.self.scanner.cursor l.self.scanner.cursor;
}
