use Rattle.granit_error.specs.OptionsView.{options_of}
use Rattle.granit_sorts.specs.SortViews.{machine_token, sort_view}
use Rattle.granit_feed.proofs.FlowGiving.{entry_gives}
use Rattle.granit_feed.proofs.flow.in_flow_sequence.Goals as goal

pub returns-else-behind_entry-clause-eventless : goal.returns-else-behind_entry-clause-eventless
returns-else-behind_entry-clause-eventless c = λ none deep.
    rw c.if-behind_entry.false
    (entry_gives (options_of c.args.options.now) (machine_token c.args.token.now) _ c.args.state.now none
    (sort_view c.args.token.now.sort))
