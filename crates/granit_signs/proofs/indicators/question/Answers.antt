use Rattle.std.proofs.Common.{sym, ap, subst, refl, ◌∙◌}
use Rattle.std.proofs.lemmas.Result.{err_from_is_err_and}
use Rattle.granit_base.specs.Place.{Mark}
use Rattle.granit_cursor.specs.Reading.{GivesTo, coded}
use Rattle.granit_error.specs.OptionsView.{options_of}
use Rattle.granit_lexemes.specs.Here.{step}
use Rattle.granit_lexemes.specs.Lexeme.{Lexeme}
use Rattle.granit_lexemes.specs.Lexeme.{Question}
use Rattle.granit_machine.specs.ReaderState.{Read, sign_lexeme}
use Rattle.granit_steps.specs.Steps.{incoming}
use Rattle.granit_signs.specs.IndicatorReads.{question_from}
use Rattle.granit_content.specs.Reads.{IsAt, lexeme_in}
use Rattle.granit_signs.proofs.IndicatorLemmas.{question_entered, question_in_flow}
use Rattle.granit_content.proofs.ItemLemmas.{read_untailed}
use Rattle.granit_refused.specs.Answered.{answered}
use Rattle.granit_signs.proofs.indicators.question.Goals as goal

pub returns-then-is_in_flow-clause-here : goal.returns-then-is_in_flow-clause-here
returns-then-is_in_flow-clause-here g c = λ h k.
    let o = options_of c.args.options.now in
    let l = c.args.layouts.now in
    let read = c.flow_question.ensures.here h k in
    let flow = sym c.is_in_flow.ensures ∙ c.if-is_in_flow.true in (
      record { here = step h; laid = c.flow_question.new.layouts },
      (read.0, refl),
      ap (coded (incoming o.emit_comments)) (question_in_flow o c.args.ends h l flow)
          ∙ read_untailed o.emit_comments (sign_lexeme c.args.ends Question h l) (step h) _ refl ∙ read.1,
    )

pub returns-clause-here : goal.returns-clause-here
returns-clause-here g c = λ h k.
    let o = options_of c.args.options.now in
    let l = c.args.layouts.now in
    let mark = c.mark-mark.ensures.here h k in
    let signed = c.sign.ensures.here h k in
    let flow = sym c.is_in_flow.ensures ∙ c.if-is_in_flow.false in
    let allowed = sym (rw (c.begins_line.ensures ∙ sym k.2, c.tab.ensures ∙ sym k.3) at c.is_allowed.ensures)
    ∙ c.if-not-is_allowed.false in
    let column = c.col.ensures ∙ ap (λ (m : Mark). m.place.column) mark in
    let entered = rw (column, mark) at c.in_ok-enter.ensures.left in
    let is = question_entered o c.args.ends h l c.enter.new.self flow allowed entered
    ∙ ap (λ (x : Lexeme). question_from o x (step h) c.enter.new.self) (sym signed.1) in
    subst (λ (r : Read). GivesTo (lexeme_in c.behind_question.new.found)
    (answered c.behind_question.new.fault c.behind_question.result)
    (IsAt g.T.Input.unread c.behind_question.new.at c.behind_question.new.layouts)
    (coded (incoming o.emit_comments) r)) (sym is)
    (c.behind_question.ensures.here (ap (λ (x : Lexeme). x.tail) signed.1) (step h) signed.0)

pub returns-in_err-enter-clause-column : goal.returns-in_err-enter-clause-column
returns-in_err-enter-clause-column g c = λ unasked none.
    let p = err_from_is_err_and c.from_residual.result c.from_residual.ensures.1 in
    rw (p.1, p.2) (c.in_err-enter.ensures.memory (rw (c.col.ensures, c.mark-mark.ensures.place) none))
