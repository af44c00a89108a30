use Rattle.std.proofs.Common.{◌≡◌, false, take, is_some, IfSome, ap, subst}
use Rattle.std.specs.Str.{chars}
use Rattle.granit_runs.specs.Unread.{past_count}
use Rattle.granit_cursor.proofs.SourceLemmas.{lent_here}
use Rattle.granit_cursor.proofs.lending.lent_since.Goals as goal

pub returns-in-Some-clause-here : goal.returns-in-Some-clause-here
returns-in-Some-clause-here g c = λ u n spelled lends told known.
    let lent = lent_here (g.T.Input.origin c.args.cursor.now.input) (g.T.Input.left c.args.cursor.now.input) u n
    c.args.start c.slice_since.result spelled lends told
    (g.met.T.Input.agrees c.args.cursor.now.input (past_count n u) known)
    (c.slice_since.ensures (past_count n u) known) in
    subst (λ answer. IfSome answer (λ part. chars part.now ≡ take n u.text)) c.in-Some.is lent.1

pub returns-in-None-clause-here : goal.returns-in-None-clause-here
returns-in-None-clause-here g c = λ u n spelled lends told known.
    let lent = lent_here (g.T.Input.origin c.args.cursor.now.input) (g.T.Input.left c.args.cursor.now.input) u n
    c.args.start c.slice_since.result spelled lends told
    (g.met.T.Input.agrees c.args.cursor.now.input (past_count n u) known)
    (c.slice_since.ensures (past_count n u) known) in
    let none : is_some c.slice_since.result ≡ false = ap is_some c.in-None.is in
    absurd (let some = lent.0 in cc)
