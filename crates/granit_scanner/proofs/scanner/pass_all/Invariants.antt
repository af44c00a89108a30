use Rattle.granit_cursor.specs.Reading.{Moves}
use Rattle.granit_scanner.proofs.scanner.pass_all.Given as goal

abbrev pub invariant-all : goal.invariant-all
invariant-all g l = record { moves : Moves g.T.Input.unread g.T.Input.left g.T.Input.origin l.fn.cursor l.cursor }

abbrev pub decreases-all : goal.decreases-all
decreases-all g l = g.T.Input.left l.cursor.input
