use Rattle.std.proofs.Common.{refl, le_of_eq, sym, ap, arith}
use Rattle.granit_cursor.proofs.MoveLemmas.{stands_at, lands_spaces}
use Rattle.granit_cursor.proofs.OnwardLemmas.{run_on}
use Rattle.granit_cursor.proofs.cursor.Cursor.skip_spaces.Goals as goal

pub returns-clause-here : goal.returns-clause-here
returns-clause-here g c = λ h k.
    let stood = stands_at g.T.Input.unread _ _ h c.self.view_is k in
    let taken = c.skip_ws_to_eol_blanks-taken.ensures.skips h.unread stood.0 in (
      taken.0,
      lands_spaces g.T.Input.unread c.skip_ws_to_eol_blanks-taken.result.0 _ _ h (le_of_eq taken.0) stood
          taken.2 refl refl refl,
    )

pub returns-clause-moves : goal.returns-clause-moves
returns-clause-moves g c =
    let same = sym (ap (λ r. r.input) c.self.view_is) in (
      rw same (omega (arith, c.skip_ws_to_eol_blanks-taken.ensures.moves.0)),
      rw same c.skip_ws_to_eol_blanks-taken.ensures.moves.2,
      run_on g.T.Input.unread _ _ (ap (λ r. r.lost) c.self.view_is) c.skip_ws_to_eol_blanks-taken.result.0
          (λ h k. (returns-clause-here g c h k).1),
    )
