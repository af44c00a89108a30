use Rattle.std.proofs.Common.{refl, le_of_eq, sym, ap, arith}
use Rattle.granit_runs.specs.Runs.{starts, is_line_char}
use Rattle.granit_cursor.proofs.MoveLemmas.{stands_at, lands_inside, char_line}
use Rattle.granit_cursor.proofs.OnwardLemmas.{line_on}
use Rattle.granit_cursor.proofs.cursor.Cursor.skip_while_non_breakz.Goals as goal

pub returns-clause-here : goal.returns-clause-here
returns-clause-here g c = λ h k.
    let stood = stands_at g.T.Input.unread _ _ h c.self.view_is k in
    let taken = c.skip_while_non_breakz-taken.ensures.skips h.unread stood.0 in (
      taken.0,
      lands_inside g.T.Input.unread (starts is_line_char) c.skip_while_non_breakz-taken.result _ _ h char_line
          (le_of_eq taken.0) stood taken.1 refl refl refl,
    )

pub returns-clause-moves : goal.returns-clause-moves
returns-clause-moves g c =
    let same = sym (ap (λ r. r.input) c.self.view_is) in (
      rw same (omega (arith, c.skip_while_non_breakz-taken.ensures.moves.0)),
      rw same c.skip_while_non_breakz-taken.ensures.moves.2,
      line_on g.T.Input.unread _ _ (ap (λ r. r.lost) c.self.view_is) c.skip_while_non_breakz-taken.result
          (λ h k. (returns-clause-here g c h k).1),
    )
