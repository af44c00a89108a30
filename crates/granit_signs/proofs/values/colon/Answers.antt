use Rattle.std.proofs.Common.{refl, sym, ap, subst, ◌∙◌}
use Rattle.std.proofs.lemmas.Result.{err_from_is_err_and}
use Rattle.granit_cursor.specs.Reading.{GivesTo}
use Rattle.granit_error.specs.OptionsView.{options_of}
use Rattle.granit_lexemes.specs.Here.{step}
use Rattle.granit_lexemes.specs.Lexeme.{Lexeme}
use Rattle.granit_machine.specs.PossibleKeys.{top_key}
use Rattle.granit_machine.specs.ReaderState.{Read, with_tail}
use Rattle.granit_content.specs.Reads.{IsAt, comment_kept, lexeme_in, tail_view}
use Rattle.granit_content.proofs.CodedLemmas.{gives_lands}
use Rattle.granit_signs.proofs.IndicatorLemmas.{colon_tailed, colon_fails, colon_same}
use Rattle.granit_refused.specs.Answered.{answered, why}
use Rattle.granit_signs.proofs.values.colon.Goals as goal

pub returns-in_err-tail-clause-here : goal.returns-in_err-tail-clause-here
returns-in_err-tail-clause-here g c = λ h k.
    let p = err_from_is_err_and c.from_residual.result c.from_residual.ensures.1 in
    let o = options_of c.args.options.now in
    let looked = c.look.ensures.here h k in
    let fits = sym (c.is_before_flow.ensures h looked) ∙ c.if-is_before_flow.false in
    let on = c.step.ensures.here h looked in
    rw (p.1, p.2) (colon_fails o.emit_comments o c.args.ends h c.args.layouts.now fits
    (why c.colon_tail.new.fault c.in_err-tail.field-0.0)
    (c.in_err-tail.ensures.here (step h) on))

pub returns-clause-here : goal.returns-clause-here
returns-clause-here g c = λ h k.
    let o = options_of c.args.options.now in
    let looked = c.look.ensures.here h k in
    let fits = sym (c.is_before_flow.ensures h looked) ∙ c.if-is_before_flow.false in
    let on = c.step.ensures.here h looked in
    let lexeme = rw (c.mark-end.ensures.here (step h) on) at
    (c.write_lexeme.ensures h (c.start_of-start.ensures h looked)) in
    let tail = c.in_ok-tail.ensures.here (step h) on in
    let allowed = rw (c.begins_line.ensures ∙ sym k.2, c.tab.ensures ∙ sym k.3) at
    c.is_allowed-allowed.ensures in
    let seen = tail_view c.in_ok-tail.tail in
    let tailed = c.put_tail.ensures ∙ ap (λ (x : Lexeme). with_tail x (comment_kept seen)) lexeme in
    let whole = colon_tailed o.emit_comments o c.args.ends h c.args.layouts.now fits seen tail.0 tail.2
    ∙ sym (colon_same o (top_key c.args.layouts.now) tail.0 c.args.layouts.now tailed
    (c.mark-mark.ensures.here h looked) allowed) in
    subst (λ (r : Read). GivesTo (lexeme_in c.colon_by_key.new.found)
    (answered c.colon_by_key.new.fault c.colon_by_key.result)
    (IsAt g.T.Input.unread c.colon_tail.new.at c.colon_by_key.new.layouts) r) (sym whole)
    (gives_lands (lexeme_in c.colon_by_key.new.found) (answered c.colon_by_key.new.fault c.colon_by_key.result)
    (IsAt g.T.Input.unread c.colon_tail.new.at c.colon_by_key.new.layouts)
    (record { here = tail.0; laid = c.colon_by_key.new.layouts }) _ (tail.1, refl) (c.colon_by_key.ensures.here tail.0))

pub returns-clause-memory : goal.returns-clause-memory
returns-clause-memory g c = λ unasked none. c.colon_by_key.ensures.memory
    (rw (c.is_allowed-allowed.ensures, c.begins_line.ensures, c.tab.ensures) none)

pub returns-clause-column : goal.returns-clause-column
returns-clause-column g c = λ unasked none. c.colon_by_key.ensures.column
    (rw (c.mark-mark.ensures.place, c.look.ensures.place) none)
