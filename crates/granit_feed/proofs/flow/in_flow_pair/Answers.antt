use Rattle.std.proofs.Common.{rules}
use Rattle.granit_error.specs.OptionsView.{options_of}
use Rattle.granit_sorts.specs.SortViews.{machine_token, sort_view}
use Rattle.granit_feed.proofs.AnchorGiving.{pair_node_again}
use Rattle.granit_feed.proofs.FlowGiving.{value_gives}
use Rattle.granit_feed.proofs.flow.in_flow_pair.Goals as goal

pub returns-in_default : goal.returns-in_default
returns-in_default c = record {
  leaves = search rules;
  by_fault = search rules;
  again = λ name anchor lent left known bare deep.
      pair_node_again (options_of c.args.options.now) (machine_token c.args.token.now) _ c.args.state.now
      c.args.stage c.in_default.not-BehindQuestion (sort_view c.args.token.now.sort)
      (c.node_of_pair.ensures.again name anchor lent left known bare deep);
  kept = search rules;
  eventless = λ none bare deep.
      value_gives (options_of c.args.options.now) (machine_token c.args.token.now) _ c.args.state.now none
      c.args.stage c.in_default.not-BehindQuestion (sort_view c.args.token.now.sort);
}
