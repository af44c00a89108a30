use Rattle.std.proofs.Common.{◌≡◌, ◌<◌, ◌-◌, ◌^◌, refl, arith, sym, ap}
use Rattle.granit_runs.specs.Runs.{run_length, starts, is_line_char}
use Rattle.granit_runs.proofs.RunLemmas.{front_all}
use Rattle.granit_cursor.proofs.MoveLemmas.{stands_at, lands_inside, char_line}
use Rattle.granit_cursor.proofs.OnwardLemmas.{line_on, lost_on}
use Rattle.granit_cursor.proofs.cursor.Cursor.fetch_while_non_breakz.Goals as goal

pub returns-clause-here : goal.returns-clause-here
returns-clause-here g c = λ h k.
    let stood = stands_at g.T.Input.unread _ _ h c.self.view_is k in
    let taken = c.in_ok-taken.ensures.fetches h.unread stood.0 in
    let short = g.met.T.Input.short c.self.inside.input in
    let few : c.in_ok-taken.taken < 2 ^ 64 - 1 = omega (arith, c.in_ok-taken.ensures.moves.0, short) in
    let whole : c.in_ok-taken.taken ≡ run_length (starts is_line_char) h.unread.text = front_all (starts is_line_char)
    h.unread.text _ _ c.in_ok-taken.taken taken.0 few in (
      (
        whole,
        lands_inside g.T.Input.unread (starts is_line_char) c.in_ok-taken.taken _ _ h char_line taken.0.fits stood
            taken.1 refl refl refl,
      ),
      taken.2,
    )

pub returns-clause-moves : goal.returns-clause-moves
returns-clause-moves g c =
    let same = sym (ap (λ r. r.input) c.self.view_is) in (
      rw same (omega (arith, c.in_ok-taken.ensures.moves.0)),
      rw same c.in_ok-taken.ensures.moves.2,
      line_on g.T.Input.unread _ _ (ap (λ r. r.lost) c.self.view_is) c.in_ok-taken.taken
          (λ h k. (returns-clause-here g c h k).0.1),
    )

pub returns-in_err-taken-clause-moves : goal.returns-in_err-taken-clause-moves
returns-in_err-taken-clause-moves g c =
    let same = sym (ap (λ r. r.input) c.self.view_is) in (
      rw same (omega (arith, c.in_err-taken.ensures.moves.0)),
      rw same c.in_err-taken.ensures.moves.2,
      lost_on g.T.Input.unread _ _ refl,
    )
