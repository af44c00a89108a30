use Rattle.std.proofs.Common.{ap}
use Rattle.granit_error.specs.OptionsView.{options_of}
use Rattle.granit_refused.specs.Answered.{answered}
use Rattle.granit_sorts.specs.SortViews.{machine_token, sort_view}
use Rattle.granit_feed.proofs.BlockGiving.{key_gives}
use Rattle.granit_feed.proofs.block.at_block_key.Goals as goal

pub returns-in-BeginsNode-clause-eventless : goal.returns-in-BeginsNode-clause-eventless
returns-in-BeginsNode-clause-eventless c = λ none bare deep.
    let result = answered c.bare.new.fault c.bare.result in
    key_gives (options_of c.args.options.now) (machine_token c.args.token.now) 0 result c.args.state.now none
    (sort_view c.args.token.now.sort) (ap sort_view c.in-BeginsNode.is)
