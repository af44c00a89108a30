use Rattle.std.proofs.Common.{sym, ap}
use Rattle.granit_cursor.proofs.MoveLemmas.{stands_at}
use Rattle.granit_cursor.proofs.OnwardLemmas.{stays}
use Rattle.granit_cursor.proofs.cursor.Cursor.take_source_error.Goals as goal

pub returns-clause-onward : goal.returns-clause-onward
returns-clause-onward g c = stays g.T.Input.unread _ _ (ap (λ r. r.lost) c.self.view_is) (λ h k.
    let stood = stands_at g.T.Input.unread _ _ h c.self.view_is k in
    (c.take_source_error.ensures.unread h.unread stood.0, stood.1, stood.2, stood.3))
