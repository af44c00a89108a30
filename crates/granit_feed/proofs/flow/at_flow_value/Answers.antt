use Rattle.std.proofs.Common.{ap}
use Rattle.granit_error.specs.OptionsView.{options_of}
use Rattle.granit_machine.specs.Frames.{AtValue}
use Rattle.granit_sorts.specs.SortViews.{machine_token, sort_view}
use Rattle.granit_feed.proofs.FlowGiving.{closer_gives, node_gives}
use Rattle.granit_feed.proofs.flow.at_flow_value.Goals as goal

pub returns-in_err-close_flow-in-MappingCloser-clause-eventless :
    goal.returns-in_err-close_flow-in-MappingCloser-clause-eventless
returns-in_err-close_flow-in-MappingCloser-clause-eventless c = λ none bare deep.
    closer_gives (options_of c.args.options.now) (machine_token c.args.token.now) _ c.args.state.now
    c.args.single AtValue (sort_view c.args.token.now.sort) (ap sort_view c.in-MappingCloser.is)

pub returns-in-BeginsNode-clause-eventless : goal.returns-in-BeginsNode-clause-eventless
returns-in-BeginsNode-clause-eventless c = λ none bare deep.
    node_gives (options_of c.args.options.now) (machine_token c.args.token.now) _ c.args.state.now none
    c.args.single AtValue (sort_view c.args.token.now.sort) (ap sort_view c.in-BeginsNode.is)

pub returns-in_err-close_flow-in-MappingCloser-clause-again :
    goal.returns-in_err-close_flow-in-MappingCloser-clause-again
returns-in_err-close_flow-in-MappingCloser-clause-again c = λ name anchor lent left known bare deep.
    closer_gives (options_of c.args.options.now) (machine_token c.args.token.now) _ c.args.state.now
    c.args.single AtValue (sort_view c.args.token.now.sort) (ap sort_view c.in-MappingCloser.is)
