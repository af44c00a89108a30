use Rattle.std.proofs.Common.{◌-◌, ◌^◌, refl, arith, sym, ap}
use Rattle.granit_runs.specs.Runs.{is_quoted_word}
use Rattle.granit_runs.specs.declared.class.Run.TheVariants.{QuotedWords}
use Rattle.granit_runs.proofs.RunLemmas.{run_nul}
use Rattle.granit_cursor.proofs.MoveLemmas.{stands_at}
use Rattle.granit_cursor.proofs.SourceLemmas.{whole_run}
use Rattle.granit_cursor.proofs.WordLemmas.{lands_joined, quoted_joins}
use Rattle.granit_cursor.proofs.OnwardLemmas.{run_on, lost_on}
use Rattle.granit_cursor.proofs.cursor.Cursor.fetch_quoted_words.Goals as goal

pub returns-clause-here : goal.returns-clause-here
returns-clause-here g c = λ h k.
    let test = is_quoted_word c.args.single in
    let nul = run_nul (QuotedWords c.args.single) in
    let stood = stands_at g.T.Input.unread _ _ h c.self.view_is k in
    let taken = c.in_ok-taken.ensures.fetches h.unread stood.0 in
    let n = c.in_ok-taken.taken in
    let whole = whole_run test h.unread.text (g.T.Input.left c.self.inside.input) n (2 ^ 64 - 1)
    c.in_ok-taken.field-0-0 (omega (arith, c.in_ok-taken.ensures.moves.0))
    (g.met.T.Input.short c.self.inside.input) (omega arith) c.in_ok-taken.ensures.few taken.0 in (
      (
        whole,
        lands_joined g.T.Input.unread test n _ _ h (quoted_joins c.args.single) nul whole
            stood taken.1 refl c.still_begins-self-inside.ensures c.drop_tab.ensures,
      ),
      taken.2,
    )

pub returns-clause-moves : goal.returns-clause-moves
returns-clause-moves g c =
    let same = sym (ap (λ r. r.input) c.self.view_is) in (
      rw same (omega (arith, c.in_ok-taken.ensures.moves.0)),
      rw same c.in_ok-taken.ensures.moves.2,
      run_on g.T.Input.unread _ _ (ap (λ r. r.lost) c.self.view_is) c.in_ok-taken.taken
          (λ h k. (returns-clause-here g c h k).0.1),
    )

pub returns-in_err-taken-clause-moves : goal.returns-in_err-taken-clause-moves
returns-in_err-taken-clause-moves g c =
    let same = sym (ap (λ r. r.input) c.self.view_is) in (
      rw same (omega (arith, c.in_err-taken.ensures.moves.0)),
      rw same c.in_err-taken.ensures.moves.2,
      lost_on g.T.Input.unread _ _ refl,
    )
