use Rattle.std.proofs.Common.{◌∙◌, subst, sym}
use Rattle.granit_lexemes.specs.Here.{Here}
use Rattle.granit_cursor.specs.Reading.{Stands}
use Rattle.granit_content.proofs.GapLemmas.{gap_stops}
use Rattle.granit_content.proofs.gaps.past_gap_here.Goals as goal

pub returns-then-begins_gap-clause-here : goal.returns-then-begins_gap-clause-here
returns-then-begins_gap-clause-here g c = λ h k.
    let begins = c.begins_gap.ensures.here h k in
    (c.past_gap.ensures.here h begins.0, sym c.if-begins_gap.true ∙ begins.1)

pub returns-clause-here : goal.returns-clause-here
returns-clause-here g c = λ h k.
    let begins = c.begins_gap.ensures.here h k in
    let none = sym c.if-begins_gap.false ∙ begins.1 in (
      subst (λ (now : Here). Stands g.T.Input.unread c.begins_gap.new.at now)
          (sym (gap_stops c.args.may_prefix h (sym none))) begins.0,
      none,
    )

pub returns-clause-clear : goal.returns-clause-clear
returns-clause-clear g c = λ h k. sym (c.begins_gap.ensures.seen h k) ∙ c.if-begins_gap.false
