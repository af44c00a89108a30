use Rattle.std.proofs.Common.{◌∙◌, refl, sym, ap}
use Rattle.granit_error.specs.OptionsView.{options_of}
use Rattle.granit_lexemes.specs.Here.{step}
use Rattle.granit_lexemes.specs.declared.layout.LastLexeme.TheVariants.{Adjacent}
use Rattle.granit_machine.specs.ReaderState.{Read}
use Rattle.granit_steps.specs.Steps.{incoming}
use Rattle.granit_cursor.specs.Reading.{GivesTo, coded}
use Rattle.granit_content.specs.Reads.{IsAt, lexeme_in}
use Rattle.granit_marks.proofs.FlowLemmas.{closer_read, closer_other, same_tailed}
use Rattle.granit_refused.specs.Answered.{answered}
use Rattle.granit_marks.proofs.flow.closer.Goals as goal

pub returns-then-not-is_same-clause-here : goal.returns-then-not-is_same-clause-here
returns-then-not-is_same-clause-here g c = λ h k. λ other.
    let l = c.args.layouts.now in
    let top = sym c.top_bracket.ensures ∙ c.in-Some.is in
    let apart = sym c.is_same.ensures ∙ c.if-not-is_same.true in
    rw (
      closer_other c.args.bracket c.in-Some.innermost l.brackets c.args.ends h l top apart,
      c.refuse.ensures.refusal,
      c.refuse.ensures.kept,
      c.mismatched.ensures,
    ) refl

pub returns-else-not-is_same-clause-here : goal.returns-else-not-is_same-clause-here
returns-else-not-is_same-clause-here g c = λ h k.
    let o = options_of c.args.options.now in
    let l = c.args.layouts.now in
    let signed = c.sign.ensures.here h k in
    let top = sym c.top_bracket.ensures ∙ c.in-Some.is in
    let same = sym c.is_same.ensures ∙ c.if-not-is_same.false in
    let is = closer_read c.args.bracket c.in-Some.innermost l.brackets c.args.ends h l top same in
    same_tailed (λ (r : Read). GivesTo (lexeme_in c.tailed.new.found) (answered c.tailed.new.fault c.tailed.result)
    (IsAt g.T.Input.unread c.tailed.new.at c.tailed.new.layouts) (coded (incoming o.emit_comments) r)) _ _ Adjacent
    (step h) _ _ _ is signed.1 c.close.ensures (c.tailed.ensures.here (step h) signed.0)
