use Rattle.std.proofs.Common.{sym, ap, subst, ◌∙◌}
use Rattle.std.proofs.lemmas.Result.{err_from_is_err_and}
use Rattle.granit_base.specs.Place.{Mark}
use Rattle.granit_cursor.specs.Reading.{GivesTo, coded}
use Rattle.granit_error.specs.OptionsView.{options_of}
use Rattle.granit_lexemes.specs.Here.{step}
use Rattle.granit_lexemes.specs.Lexeme.{Lexeme}
use Rattle.granit_machine.specs.IndicatorLexemes.{dash_up_to}
use Rattle.granit_machine.specs.ReaderState.{Read}
use Rattle.granit_steps.specs.Steps.{incoming}
use Rattle.granit_content.specs.Reads.{IsAt, lexeme_in}
use Rattle.granit_signs.proofs.IndicatorLemmas.{dash_entered}
use Rattle.granit_refused.specs.Answered.{answered}
use Rattle.granit_signs.proofs.indicators.dash.Goals as goal

pub returns-clause-here : goal.returns-clause-here
returns-clause-here g c = λ h k.
    let o = options_of c.args.options.now in
    let l = c.args.layouts.now in
    let mark = c.mark-mark.ensures.here h k in
    let signed = c.sign.ensures.here h k in
    let flow = sym c.is_in_flow.ensures ∙ c.if-is_in_flow.false in
    let allowed = sym (rw (c.begins_line.ensures ∙ sym k.2, c.tab.ensures ∙ sym k.3) at c.is_allowed.ensures)
    ∙ c.if-not-is_allowed.false in
    let column = c.col.ensures ∙ ap (λ (m : Mark). m.place.column) mark in
    let entered = rw (column, mark) at c.in_ok-enter.ensures.left in
    let is = dash_entered o c.args.ends h l c.enter.new.self flow allowed entered
    ∙ ap (λ (x : Lexeme). dash_up_to x (step h) c.enter.new.self) (sym signed.1) in
    subst (λ (r : Read). GivesTo (lexeme_in c.dash_up_to.new.found)
    (answered c.dash_up_to.new.fault c.dash_up_to.result)
    (IsAt g.T.Input.unread c.dash_up_to.new.at c.dash_up_to.new.layouts) (coded (incoming o.emit_comments) r))
    (sym is)
    (c.dash_up_to.ensures.here (step h) signed.0)

pub returns-in_err-enter-clause-column : goal.returns-in_err-enter-clause-column
returns-in_err-enter-clause-column g c = λ unasked none.
    let p = err_from_is_err_and c.from_residual.result c.from_residual.ensures.1 in
    rw (p.1, p.2) (c.in_err-enter.ensures.memory (rw (c.col.ensures, c.mark-mark.ensures.place) none))
