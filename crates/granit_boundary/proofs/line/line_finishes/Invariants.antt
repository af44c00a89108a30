use Rattle.std.proofs.Common.{◌≡◌}
use Rattle.granit_boundary.specs.Found.{Within}
use Rattle.granit_cursor.specs.Reading.{Stands, Moves}
use Rattle.granit_lexemes.specs.Here.{Here}
use Rattle.granit_restart.specs.Boundary.{finished_line}
use Rattle.granit_boundary.proofs.line.line_finishes.Given as goal

abbrev pub invariant-blanks : goal.invariant-blanks
invariant-blanks g l = record {
  told : (h : Here) → Stands g.T.Input.unread l.fn.cursor h
      → (now : Here) × Stands g.T.Input.unread l.cursor now
      × ((finished_line now.unread.text now ≡ finished_line h.unread.text h) × Within h now);
  moves : Moves g.T.Input.unread g.T.Input.left g.T.Input.origin l.fn.cursor l.cursor;
}

abbrev pub decreases-blanks : goal.decreases-blanks
decreases-blanks g l = g.T.Input.left l.cursor.input
