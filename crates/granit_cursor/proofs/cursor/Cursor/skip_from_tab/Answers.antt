use Rattle.std.proofs.Common.{refl, sym, ap, arith}
use Rattle.granit_cursor.proofs.MoveLemmas.{stands_at, lands_tabs}
use Rattle.granit_cursor.proofs.OnwardLemmas.{run_on}
use Rattle.granit_cursor.proofs.cursor.Cursor.skip_from_tab.Goals as goal

pub returns-clause-here : goal.returns-clause-here
returns-clause-here g c = λ h k.
    let stood = stands_at g.T.Input.unread _ _ h c.self.view_is k in
    let taken = c.skip_while_blank-taken.ensures.skips h.unread stood.0 in (
      taken.0,
      lands_tabs g.T.Input.unread c.skip_while_blank-taken.result _ _ h (c.requires h k) taken.0 stood taken.1
          refl refl (c.first_tab-tab.ensures h k),
    )

pub returns-clause-moves : goal.returns-clause-moves
returns-clause-moves g c =
    let same = sym (ap (λ r. r.input) c.self.view_is) in (
      rw same (omega (arith, c.skip_while_blank-taken.ensures.moves.0)),
      rw same c.skip_while_blank-taken.ensures.moves.2,
      run_on g.T.Input.unread _ _ (ap (λ r. r.lost) c.self.view_is) c.skip_while_blank-taken.result
          (λ h k. (returns-clause-here g c h k).1),
    )
