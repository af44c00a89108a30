use Rattle.std.proofs.Common.{ap}
use Rattle.granit_error.specs.OptionsView.{options_of}
use Rattle.granit_sorts.specs.SortViews.{machine_token, sort_view}
use Rattle.granit_feed.proofs.FlowGiving.{entry_closer_gives}
use Rattle.granit_feed.proofs.flow.at_entry.Goals as goal

pub returns-in_err-close_flow-in-SequenceCloser-clause-again :
    goal.returns-in_err-close_flow-in-SequenceCloser-clause-again
returns-in_err-close_flow-in-SequenceCloser-clause-again c = λ name anchor lent left known.
    entry_closer_gives (options_of c.args.options.now) (machine_token c.args.token.now) _ c.args.state.now
    (sort_view c.args.token.now.sort) (ap sort_view c.in-SequenceCloser.is)
