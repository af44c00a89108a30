use Rattle.std.proofs.Common.{refl, sym, ap, arith}
use Rattle.granit_base.specs.PlainContent.{is_content}
use Rattle.granit_cursor.proofs.MoveLemmas.{stands_at, lands, plain_shows}
use Rattle.granit_cursor.proofs.OnwardLemmas.{run_on, lost_on}
use Rattle.granit_cursor.proofs.cursor.Cursor.fetch_plain_scalar_chunk.Goals as goal

pub returns-clause-here : goal.returns-clause-here
returns-clause-here g c = λ h k.
    let stood = stands_at g.T.Input.unread _ _ h c.self.view_is k in
    let taken = c.in_ok-ended.ensures.fetches h.unread stood.0 in (
      (
        taken.0,
        lands g.T.Input.unread (is_content c.args.flow_level_gt_0) c.in_ok-ended.taken _ _ h
            (plain_shows c.args.flow_level_gt_0) taken.0.fits stood taken.1 refl c.still_begins-self-inside.ensures
            c.drop_tab.ensures,
      ),
      taken.2,
    )

pub returns-clause-moves : goal.returns-clause-moves
returns-clause-moves g c =
    let same = sym (ap (λ r. r.input) c.self.view_is) in (
      rw same (omega (arith, c.in_ok-ended.ensures.moves.0)),
      rw same c.in_ok-ended.ensures.moves.2,
      run_on g.T.Input.unread _ _ (ap (λ r. r.lost) c.self.view_is) c.in_ok-ended.taken
          (λ h k. (returns-clause-here g c h k).0.1),
    )

pub returns-in_err-ended-clause-moves : goal.returns-in_err-ended-clause-moves
returns-in_err-ended-clause-moves g c =
    let same = sym (ap (λ r. r.input) c.self.view_is) in (
      rw same (omega (arith, c.in_err-ended.ensures.moves.0)),
      rw same c.in_err-ended.ensures.moves.2,
      lost_on g.T.Input.unread _ _ refl,
    )
