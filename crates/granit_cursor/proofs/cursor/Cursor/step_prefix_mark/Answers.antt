use Rattle.std.proofs.Common.{refl, sym, ap, arith}
use Rattle.granit_cursor.proofs.MoveLemmas.{stands_at, mark_lands}
use Rattle.granit_cursor.proofs.OnwardLemmas.{stays, mark_on}
use Rattle.granit_input.proofs.OriginLemmas.{goes_on}
use Rattle.granit_cursor.proofs.cursor.Cursor.step_prefix_mark.Goals as goal

pub returns-clause-here : goal.returns-clause-here
returns-clause-here g c = λ h k.
    let stood = stands_at g.T.Input.unread _ _ h c.self.view_is k in
    let looked = c.lookahead.ensures.unread h.unread stood.0 in
    mark_lands g.T.Input.unread _ _ h (c.requires.mark h k) stood (c.skip.ensures.unread h.unread looked) refl refl refl

pub returns-then-next_is_z-clause-moves : goal.returns-then-next_is_z-clause-moves
returns-then-next_is_z-clause-moves g c =
    let same = sym (ap (λ r. r.input) c.self.view_is) in (
      rw same (omega (arith, c.lookahead.ensures.moves.0)),
      rw same c.lookahead.ensures.moves.2,
      stays g.T.Input.unread _ _ (ap (λ r. r.lost) c.self.view_is) (λ h k.
          let stood = stands_at g.T.Input.unread _ _ h c.self.view_is k in
          (c.lookahead.ensures.unread h.unread stood.0, stood.1, stood.2, stood.3)),
    )

pub returns-clause-moves : goal.returns-clause-moves
returns-clause-moves g c =
    let same = sym (ap (λ r. r.input) c.self.view_is) in (
      rw same (omega (arith, c.lookahead.ensures.moves.0, c.skip.ensures.moves.0)),
      rw same (goes_on _ _ _ c.lookahead.ensures.moves.2 c.skip.ensures.moves.2),
      mark_on g.T.Input.unread _ _ (ap (λ r. r.lost) c.self.view_is) c.requires.mark c.requires.column
          (returns-clause-here g c),
    )
