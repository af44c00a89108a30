use Rattle.std.proofs.Common.{◌≡◌}
use Rattle.granit_cursor.specs.Reading.{Stands, Moves}
use Rattle.granit_lexemes.specs.Here.{Here}
use Rattle.granit_restart.specs.Boundary.{next_boundary}
use Rattle.granit_boundary.proofs.boundary.pass_to_boundary.Given as goal

abbrev pub invariant-passed : goal.invariant-passed
invariant-passed g l = record {
  told : (h : Here) → Stands g.T.Input.unread l.fn.cursor h
      → (now : Here) × Stands g.T.Input.unread l.cursor now × (next_boundary now ≡ next_boundary h);
  moves : Moves g.T.Input.unread g.T.Input.left g.T.Input.origin l.fn.cursor l.cursor;
}

abbrev pub decreases-passed : goal.decreases-passed
decreases-passed g l = g.T.Input.left l.cursor.input
