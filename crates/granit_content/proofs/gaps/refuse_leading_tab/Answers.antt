use Rattle.std.proofs.Common.{◌∙◌, sym}
use Rattle.granit_error.specs.OptionsView.{options_of}
use Rattle.granit_content.proofs.GapLemmas.{no_leading_tab}
use Rattle.granit_content.proofs.gaps.refuse_leading_tab.Goals as goal

pub returns-then-not-has_tab-clause-here : goal.returns-then-not-has_tab-clause-here
returns-then-not-has_tab-clause-here g c = λ h k.
    sym (no_leading_tab (options_of c.args.options.now) c.args.layouts.now h k.3
    (sym c.has_tab.ensures ∙ c.if-not-has_tab.true))
