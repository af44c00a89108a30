use Rattle.std.proofs.Common.{ap}
use Rattle.granit_error.specs.OptionsView.{options_of}
use Rattle.granit_nesting.specs.FrameViews.{pair_view}
use Rattle.granit_refused.specs.Answered.{answered}
use Rattle.granit_sorts.specs.SortViews.{machine_token, sort_view}
use Rattle.granit_feed.proofs.BlockGiving.{pair_gives}
use Rattle.granit_feed.proofs.block.next_pair.Goals as goal

pub returns-in_err-owed-in-BeginsKey-clause-eventless : goal.returns-in_err-owed-in-BeginsKey-clause-eventless
returns-in_err-owed-in-BeginsKey-clause-eventless c = λ none bare deep.
    pair_gives (options_of c.args.options.now) (machine_token c.args.token.now) c.args.column
    (answered c.args.fault.now c.from_residual.result) c.args.state.now none (sort_view c.args.token.now.sort)
    (pair_view c.args.stage) (ap sort_view c.in-BeginsKey.is)

pub returns-in_err-mapping_at-in-BeginsKey-clause-eventless :
    goal.returns-in_err-mapping_at-in-BeginsKey-clause-eventless
returns-in_err-mapping_at-in-BeginsKey-clause-eventless c = λ none bare deep.
    pair_gives (options_of c.args.options.now) (machine_token c.args.token.now) c.args.column
    (answered c.args.fault.now c.from_residual-in_err-mapping_at-in-BeginsKey.result) c.args.state.now none
    (sort_view c.args.token.now.sort) (pair_view c.args.stage) (ap sort_view c.in-BeginsKey.is)

pub returns-in_ok-mapping_at-in-BeginsKey-clause-eventless :
    goal.returns-in_ok-mapping_at-in-BeginsKey-clause-eventless
returns-in_ok-mapping_at-in-BeginsKey-clause-eventless c = λ none bare deep.
    pair_gives (options_of c.args.options.now) (machine_token c.args.token.now) c.args.column
    (answered c.bare.new.fault c.bare.result) c.args.state.now none (sort_view c.args.token.now.sort)
    (pair_view c.args.stage) (ap sort_view c.in-BeginsKey.is)
