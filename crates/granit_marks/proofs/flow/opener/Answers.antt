use Rattle.std.proofs.Common.{refl, arith}
use Rattle.granit_error.specs.OptionsView.{options_of}
use Rattle.granit_lexemes.specs.Here.{step}
use Rattle.granit_lexemes.specs.declared.layout.LastLexeme.TheVariants.{Opener}
use Rattle.granit_machine.specs.ReaderState.{Read}
use Rattle.granit_steps.specs.Steps.{incoming}
use Rattle.granit_cursor.specs.Reading.{GivesTo, coded}
use Rattle.granit_content.specs.Reads.{IsAt, lexeme_in}
use Rattle.granit_marks.proofs.FlowLemmas.{opener_full, opener_read, same_tailed}
use Rattle.granit_refused.specs.Answered.{answered}
use Rattle.granit_marks.proofs.flow.opener.Goals as goal

pub returns-then-options-depth-clause-here : goal.returns-then-options-depth-clause-here
returns-then-options-depth-clause-here g c = λ h k. λ other.
    rw (
      opener_full (options_of c.args.options.now) c.args.bracket c.args.ends h c.args.layouts.now (omega arith),
      c.refuse_at.ensures.refusal,
      c.refuse_at.ensures.kept,
      c.mark-mark.ensures.here h k,
    ) refl

pub returns-clause-here : goal.returns-clause-here
returns-clause-here g c = λ h k.
    let o = options_of c.args.options.now in
    let l = c.args.layouts.now in
    let signed = c.sign.ensures.here h k in
    let added = rw (c.mark-mark.ensures.here h k) at c.in_ok-open.ensures in
    let is = opener_read o c.args.bracket c.args.ends h l (omega arith) in
    same_tailed (λ (r : Read). GivesTo (lexeme_in c.tailed.new.found) (answered c.tailed.new.fault c.tailed.result)
    (IsAt g.T.Input.unread c.tailed.new.at c.tailed.new.layouts) (coded (incoming o.emit_comments) r)) _ _ Opener
    (step h) _ _ _ is signed.1 added (c.tailed.ensures.here (step h) signed.0)
