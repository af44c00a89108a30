use Rattle.std.proofs.Common.{Bool, refl, sym, ap, ◌∙◌}
use Rattle.granit_machine.specs.IndicatorLexemes.{behind_dash, widened_if}
use Rattle.granit_machine.specs.PossibleKeys.{forgets_key}
use Rattle.granit_signs.proofs.indicators.behind_dash.Goals as goal

pub returns-clause-here : goal.returns-clause-here
unfolding behind_dash
returns-clause-here g c = λ h k.
    let looked = c.look.ensures.here h k in
    let none = sym (c.is_tabbed_dash.ensures h looked) ∙ c.if-is_tabbed_dash.false in
    let left = c.forget_key.ensures ∙ ap forgets_key
    (c.widen_if.ensures ∙ ap (λ (b : Bool). widened_if b c.args.layouts.now)
    (c.is_before_break-wide.ensures h looked)) in (
      record { here = h; laid = c.count_lexeme.new.self },
      (looked, refl),
      rw (none, c.end_at.ensures, c.mark-mark.ensures.here h looked, c.count_lexeme.ensures, left) refl,
    )
