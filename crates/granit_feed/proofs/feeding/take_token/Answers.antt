use Rattle.std.proofs.Common.{rules, ◌≡◌, List, [], ◌∷◌, reverse, sym, ap, subst, ◌∙◌}
use Rattle.granit_error.specs.OptionsView.{options_of}
use Rattle.granit_frames.specs.TopViews.{top_view}
use Rattle.granit_frames.specs.Wanting.{StepWantsToGive}
use Rattle.granit_items.specs.ItemViews.{kind_view}
use Rattle.granit_machine.specs.Frames.{Frame, Root}
use Rattle.granit_machine.specs.Parser.{take_in}
use Rattle.granit_nesting.specs.FrameViews.{frames_view}
use Rattle.granit_refused.specs.Answered.{answered}
use Rattle.granit_sorts.specs.SortViews.{machine_token}
use Rattle.granit_feed.proofs.AnchorGiving.{outside_gives}
use Rattle.granit_feed.proofs.TokenGiving.{properties_give, root_gives}
use Rattle.granit_feed.proofs.feeding.take_token.Goals as goal

pub returns-in-Properties-clause-eventless : goal.returns-in-Properties-clause-eventless
returns-in-Properties-clause-eventless c = λ none.
    properties_give (options_of c.args.options.now) (machine_token c.args.token.now) _ c.args.state.now none
    _ _ (c.top.ensures ∙ ap top_view c.in-Properties.is)

pub returns-in-In-Root-default-clause-eventless : goal.returns-in-In-Root-default-clause-eventless
returns-in-In-Root-default-clause-eventless c = λ none.
    let top = c.in-In-Root-default in
    let frames : c.args.state.now.frames ≡ Root top.field-0-0 ∷ frames_view (reverse top.field-1.now) = search rules in
    root_gives (options_of c.args.options.now) (machine_token c.args.token.now) _ c.args.state.now none
    top.field-0-0 (frames_view (reverse top.field-1.now)) frames

pub returns-in-Outside-clause-again : goal.returns-in-Outside-clause-again
returns-in-Outside-clause-again c = λ name anchor lent left known.
    let o = options_of c.args.options.now in
    let t = machine_token c.args.token.now in
    let result = answered c.outside.new.fault c.outside.result in
    let none : c.args.state.now.frames ≡ [] = c.top.ensures ∙ ap top_view c.in-Outside.is in
    subst (λ (fs : List Frame). StepWantsToGive result c.args.state.now (take_in o fs t c.args.state.now)) (sym none)
    (outside_gives o t name (ap kind_view anchor) result c.args.state.now c.args.state.now.stage)
