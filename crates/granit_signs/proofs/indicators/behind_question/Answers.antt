use Rattle.std.proofs.Common.{false, sym, subst, ◌∙◌}
use Rattle.granit_cursor.specs.Reading.{GivesTo, coded}
use Rattle.granit_error.specs.OptionsView.{options_of}
use Rattle.granit_machine.specs.Gaps.{past_gap}
use Rattle.granit_machine.specs.ReaderState.{Read}
use Rattle.granit_steps.specs.Steps.{incoming}
use Rattle.granit_items.specs.ItemViews.{lexeme_view}
use Rattle.granit_content.specs.Reads.{IsAt, lexeme_in}
use Rattle.granit_signs.proofs.IndicatorLemmas.{question_behind}
use Rattle.granit_refused.specs.Answered.{answered}
use Rattle.granit_signs.proofs.indicators.behind_question.Goals as goal

pub returns-clause-here : goal.returns-clause-here
returns-clause-here g c = λ none h k.
    let o = options_of c.args.options.now in
    let looked = c.look.ensures.here h k in
    let fits = sym (c.is_nul.ensures h looked) ∙ c.if-is_nul.false in
    let passed = c.past_gap.ensures.here h looked in
    subst (λ (r : Read). GivesTo (lexeme_in c.question_up_to.new.found)
    (answered c.question_up_to.new.fault c.question_up_to.result)
    (IsAt g.T.Input.unread c.question_up_to.new.at c.question_up_to.new.layouts)
    (coded (incoming o.emit_comments) r))
    (sym (question_behind o (lexeme_view c.args.found.now) h c.args.layouts.now c.behind_question.new.self fits
    c.behind_question.ensures))
    (c.question_up_to.ensures.here none (past_gap false h) passed)
