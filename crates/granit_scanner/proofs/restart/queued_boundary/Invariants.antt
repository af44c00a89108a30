use Rattle.std.proofs.Common.{◌≡◌, length}
use Rattle.granit_cursor.specs.Reading.{Stands}
use Rattle.granit_lexemes.specs.Here.{Here}
use Rattle.granit_restart.specs.Restart.{read_boundary}
use Rattle.granit_scanner.proofs.restart.queued_boundary.Given as goal

abbrev pub invariant-items : goal.invariant-items
invariant-items g l =
    (h : Here) → Stands g.T.Input.unread l.fn.cursor h → read_boundary h l.queue ≡ read_boundary h l.fn.queue

abbrev pub decreases-items : goal.decreases-items
decreases-items g l = length l.queue
