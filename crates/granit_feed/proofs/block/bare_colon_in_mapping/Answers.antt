use Rattle.std.proofs.Common.{rules, arith}
use Rattle.granit_error.specs.OptionsView.{options_of}
use Rattle.granit_sorts.specs.SortViews.{machine_token}
use Rattle.granit_feed.proofs.BlockGiving.{null_colon}
use Rattle.granit_feed.proofs.block.bare_colon_in_mapping.Goals as goal

pub returns-in_default : goal.returns-in_default
returns-in_default c = record {
  leaves = search rules;
  kept = search rules;
  eventless = λ bare deep few.
      let less = null_colon (options_of c.args.options.now) (machine_token c.args.token.now) c.args.column c.args.stage
      c.args.state.now c.in_default.not-BehindQuestion in
      absurd (omega (arith, few, less));
}
