use Rattle.std.proofs.Common.{◌≡◌}
use Rattle.granit_boundary.specs.Found.{Within}
use Rattle.granit_cursor.specs.Reading.{Stands, Moves}
use Rattle.granit_lexemes.specs.Here.{Here}
use Rattle.granit_restart.specs.Boundary.{past_note}
use Rattle.granit_boundary.proofs.line.note_finishes.Given as goal

abbrev pub invariant-note : goal.invariant-note
invariant-note g l = record {
  told : (h : Here) → Stands g.T.Input.unread l.fn.cursor h
      → (now : Here) × Stands g.T.Input.unread l.cursor now
      × ((past_note now.unread.text now ≡ past_note h.unread.text h) × Within h now);
  moves : Moves g.T.Input.unread g.T.Input.left g.T.Input.origin l.fn.cursor l.cursor;
}

abbrev pub decreases-note : goal.decreases-note
decreases-note g l = g.T.Input.left l.cursor.input
