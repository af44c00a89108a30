use Rattle.granit_error.specs.OptionsView.{options_of}
use Rattle.granit_sorts.specs.SortViews.{machine_token, sort_view}
use Rattle.granit_feed.proofs.FlowGiving.{key_gives}
use Rattle.granit_feed.proofs.flow.in_flow_mapping.Goals as goal

pub returns-in-AtKey-clause-eventless : goal.returns-in-AtKey-clause-eventless
returns-in-AtKey-clause-eventless c = λ none bare deep.
    rw c.in-AtKey.is
    (key_gives (options_of c.args.options.now) (machine_token c.args.token.now) _ c.args.state.now none
    c.args.single (sort_view c.args.token.now.sort))
