use Rattle.std.proofs.Common.{ap}
use Rattle.granit_sorts.specs.SortViews.{machine_token, sort_view}
use Rattle.granit_feed.proofs.FlowGiving.{sequence_closer_gives}
use Rattle.granit_feed.proofs.flow.behind_flow_entry.Goals as goal

pub returns-in_err-close_flow-in-SequenceCloser-clause-eventless :
    goal.returns-in_err-close_flow-in-SequenceCloser-clause-eventless
returns-in_err-close_flow-in-SequenceCloser-clause-eventless c = λ bare deep.
    sequence_closer_gives (machine_token c.args.token.now) _ c.args.state.now (sort_view c.args.token.now.sort)
    (ap sort_view c.in-SequenceCloser.is)
