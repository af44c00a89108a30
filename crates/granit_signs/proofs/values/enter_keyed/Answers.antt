use Rattle.std.proofs.Common.{Result, sym, subst, ◌∙◌}
use Rattle.granit_error.specs.OptionsView.{options_of}
use Rattle.granit_lexemes.specs.Outcome.{Fault}
use Rattle.granit_machine.specs.Laid.{Laid}
use Rattle.granit_machine.specs.Leaving.{LeavesIfRoom}
use Rattle.granit_signs.proofs.IndicatorLemmas.{keyed_fits}
use Rattle.granit_refused.specs.Answered.{answered}
use Rattle.granit_signs.proofs.values.enter_keyed.Goals as goal

pub returns-clause-here : goal.returns-clause-here
returns-clause-here c =
    let near = sym c.is_far_below.ensures ∙ c.if-is_far_below.false in
    let flow = sym c.is_in_flow.ensures ∙ c.if-is_in_flow.false in
    subst (λ (r : Result Laid Fault). LeavesIfRoom (answered c.enter_pair.new.fault c.enter_pair.result)
    c.enter_pair.new.self r)
    (sym (keyed_fits (options_of c.args.options.now) c.args.key.now c.args.mark c.args.layouts.now near flow))
    (rw c.col.ensures at c.enter_pair.ensures.left)

pub returns-clause-column : goal.returns-clause-column
returns-clause-column c = λ none. c.enter_pair.ensures.memory (rw c.col.ensures none)
