use Rattle.std.proofs.Common.{◌-◌, ◌^◌, refl, arith, sym, ap}
use Rattle.granit_runs.specs.Runs.{starts, is_quoted_char}
use Rattle.granit_cursor.proofs.MoveLemmas.{stands_at, lands, quoted_shows}
use Rattle.granit_cursor.proofs.SourceLemmas.{whole_run}
use Rattle.granit_cursor.proofs.OnwardLemmas.{run_on}
use Rattle.granit_cursor.proofs.cursor.Cursor.skip_quoted.Goals as goal

pub returns-clause-here : goal.returns-clause-here
returns-clause-here g c = λ h k.
    let stood = stands_at g.T.Input.unread _ _ h c.self.view_is k in
    let taken = c.skip_run-taken.ensures.skips h.unread stood.0 in
    let n = c.skip_run-taken.result.1 in (
      whole_run (starts (is_quoted_char c.args.single)) h.unread.text (g.T.Input.left c.self.inside.input) n
          (2 ^ 64 - 1) c.skip_run-taken.result.0 (omega (arith, c.skip_run-taken.ensures.moves.0))
          (g.met.T.Input.short c.self.inside.input) (omega arith) c.skip_run-taken.ensures.few taken.0,
      lands g.T.Input.unread (starts (is_quoted_char c.args.single)) n _ _ h (quoted_shows c.args.single)
          taken.0.fits stood taken.1 refl c.still_begins-self-inside.ensures c.drop_tab.ensures,
    )

pub returns-clause-moves : goal.returns-clause-moves
returns-clause-moves g c =
    let same = sym (ap (λ r. r.input) c.self.view_is) in (
      rw same (omega (arith, c.skip_run-taken.ensures.moves.0)),
      rw same c.skip_run-taken.ensures.moves.2,
      run_on g.T.Input.unread _ _ (ap (λ r. r.lost) c.self.view_is) c.skip_run-taken.result.1
          (λ h k. (returns-clause-here g c h k).1),
    )
