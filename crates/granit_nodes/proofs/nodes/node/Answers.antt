use Rattle.std.proofs.Common.{ap}
use Rattle.granit_error.specs.OptionsView.{options_of}
use Rattle.granit_items.specs.ItemViews.{kind_view}
use Rattle.granit_nodes.proofs.AgainLemmas.{key_again}
use Rattle.granit_nodes.proofs.nodes.node.Goals as goal
use Rattle.granit_sorts.specs.SortViews.{machine_token, sort_view}

pub returns-in_err-begin_mapping-in-BeginsKey-clause-again :
    goal.returns-in_err-begin_mapping-in-BeginsKey-clause-again
returns-in_err-begin_mapping-in-BeginsKey-clause-again c = λ name is lent left known.
    let o = options_of c.args.options.now in
    let t = machine_token c.args.token.now in
    key_again o t name (ap kind_view is) _ c.args.state.now (ap sort_view c.in-BeginsKey.is)

pub returns-in_ok-begin_mapping-in-BeginsKey-clause-again :
    goal.returns-in_ok-begin_mapping-in-BeginsKey-clause-again
returns-in_ok-begin_mapping-in-BeginsKey-clause-again c = λ name is lent left known.
    let o = options_of c.args.options.now in
    let t = machine_token c.args.token.now in
    key_again o t name (ap kind_view is) _ c.args.state.now (ap sort_view c.in-BeginsKey.is)
