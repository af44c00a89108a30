use Rattle.std.proofs.Common.{sym, ap, arith}
use Rattle.granit_cursor.proofs.MoveLemmas.{stands_at}
use Rattle.granit_cursor.proofs.OnwardLemmas.{stays}
use Rattle.granit_cursor.proofs.cursor.Cursor.look.Goals as goal

pub returns-clause-moves : goal.returns-clause-moves
returns-clause-moves g c =
    let same = sym (ap (λ r. r.input) c.self.view_is) in (
      rw same (omega (arith, c.lookahead.ensures.moves.0)),
      rw same c.lookahead.ensures.moves.2,
      stays g.T.Input.unread _ _ (ap (λ r. r.lost) c.self.view_is) (λ h k.
          let stood = stands_at g.T.Input.unread _ _ h c.self.view_is k in
          (c.lookahead.ensures.unread h.unread stood.0, stood.1, stood.2, stood.3)),
    )
