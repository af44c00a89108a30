use Rattle.std.proofs.Common.{refl, le_of_eq, sym, ap, arith}
use Rattle.granit_base.specs.Classes.{is_non_breakz}
use Rattle.granit_runs.specs.Runs.{starts}
use Rattle.granit_cursor.proofs.MoveLemmas.{stands_at, lands_inside, non_breakz_line}
use Rattle.granit_cursor.proofs.OnwardLemmas.{line_on, lost_on}
use Rattle.granit_cursor.proofs.cursor.Cursor.fetch_block_scalar_line.Goals as goal

pub returns-clause-here : goal.returns-clause-here
returns-clause-here g c = λ h k.
    let stood = stands_at g.T.Input.unread _ _ h c.self.view_is k in
    let taken = c.in_ok-taken.ensures.fetches h.unread stood.0 in (
      (
        taken.0,
        lands_inside g.T.Input.unread (starts is_non_breakz) c.in_ok-taken.taken _ _ h non_breakz_line
            (le_of_eq taken.0) stood taken.1 refl refl refl,
      ),
      taken.2,
    )

pub returns-clause-moves : goal.returns-clause-moves
returns-clause-moves g c =
    let same = sym (ap (λ r. r.input) c.self.view_is) in (
      rw same (omega (arith, c.in_ok-taken.ensures.moves.0)),
      rw same c.in_ok-taken.ensures.moves.2,
      line_on g.T.Input.unread _ _ (ap (λ r. r.lost) c.self.view_is) c.in_ok-taken.taken
          (λ h k. (returns-clause-here g c h k).0.1),
    )

pub returns-in_err-taken-clause-moves : goal.returns-in_err-taken-clause-moves
returns-in_err-taken-clause-moves g c =
    let same = sym (ap (λ r. r.input) c.self.view_is) in (
      rw same (omega (arith, c.in_err-taken.ensures.moves.0)),
      rw same c.in_err-taken.ensures.moves.2,
      lost_on g.T.Input.unread _ _ refl,
    )
