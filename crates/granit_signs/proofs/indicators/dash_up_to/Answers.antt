use Rattle.std.proofs.Common.{sym, subst}
use Rattle.std.proofs.lemmas.Result.{err_from_is_err_and}
use Rattle.granit_cursor.specs.Reading.{GivesTo}
use Rattle.granit_machine.specs.ReaderState.{Read}
use Rattle.granit_items.specs.ItemViews.{lexeme_view}
use Rattle.granit_content.specs.Reads.{IsAt, lexeme_in, tail_view}
use Rattle.granit_signs.proofs.IndicatorLemmas.{dash_tailed, dash_fails}
use Rattle.granit_refused.specs.Answered.{answered, why}
use Rattle.granit_signs.proofs.indicators.dash_up_to.Goals as goal

pub returns-in_err-tail-clause-here : goal.returns-in_err-tail-clause-here
returns-in_err-tail-clause-here g c = λ h k.
    let p = err_from_is_err_and c.from_residual.result c.from_residual.ensures.1 in
    rw (p.1, p.2) (dash_fails c.args.asked (lexeme_view c.args.found.now) c.args.layouts.now h
    (why c.tail_at.new.fault c.in_err-tail.field-0.0)
    (c.in_err-tail.ensures.here h k))

pub returns-clause-here : goal.returns-clause-here
returns-clause-here g c = λ h k.
    let tail = c.in_ok-tail.ensures.here h k in
    subst (λ (r : Read). GivesTo (lexeme_in c.behind_dash.new.found)
    (answered c.behind_dash.new.fault c.behind_dash.result)
    (IsAt g.T.Input.unread c.behind_dash.new.at c.behind_dash.new.layouts) r)
    (sym (dash_tailed c.args.asked (lexeme_view c.args.found.now) c.args.layouts.now h (tail_view c.in_ok-tail.tail)
    tail.0 tail.2))
    (c.behind_dash.ensures.here tail.0 tail.1)
