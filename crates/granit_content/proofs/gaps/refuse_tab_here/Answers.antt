use Rattle.std.proofs.Common.{◌∙◌, ap}
use Rattle.granit_base.specs.Place.{Mark}
use Rattle.granit_error.specs.OptionsView.{options_of}
use Rattle.granit_lexemes.specs.Here.{mark_of}
use Rattle.granit_machine.specs.Gaps.{refuse_tab}
use Rattle.granit_content.proofs.MemoryLemmas.{tab_refused}
use Rattle.granit_content.proofs.gaps.refuse_tab_here.Goals as goal

pub returns-clause-here : goal.returns-clause-here
returns-clause-here g c = λ h k.
    let o = options_of c.args.options.now in
    let l = c.args.layouts.now in
    c.refuse_tab.ensures ∙ ap (λ (m : Mark). refuse_tab o l m c.leading_tab.result) (c.mark.ensures.here h k)
    ∙ ap (refuse_tab o l (mark_of h)) (c.leading_tab.ensures h k)

pub returns-clause-memory : goal.returns-clause-memory
returns-clause-memory g c = tab_refused (options_of c.args.options.now) c.args.layouts.now c.mark.result
    c.leading_tab.result _ c.refuse_tab.ensures
