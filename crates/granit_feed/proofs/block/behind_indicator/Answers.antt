use Rattle.std.proofs.Common.{◌&&◌, Bool, sym, ap, ap₂, ◌∙◌}
use Rattle.granit_error.specs.OptionsView.{options_of}
use Rattle.granit_machine.specs.TokenSort.{is_in_column, token_column}
use Rattle.granit_nesting.specs.FrameViews.{pair_view}
use Rattle.granit_refused.specs.Answered.{answered}
use Rattle.granit_sorts.specs.SortViews.{machine_token}
use Rattle.granit_feed.proofs.BlockGiving.{indicator_gives}
use Rattle.granit_feed.proofs.block.behind_indicator.Goals as goal
use Rattle.granit_feed.proofs.block.behind_indicator.Goals.{else-begins_pair-via-then-begins_pair+else-is_in_column}
use Rattle.granit_feed.proofs.block.behind_indicator.Goals.{else-begins_pair-via-else-begins_pair}

pub returns-then-is_in_column-2-clause-eventless : goal.returns-then-is_in_column-2-clause-eventless
returns-then-is_in_column-2-clause-eventless c = λ none bare deep.
    let t = machine_token c.args.token.now in
    let here = is_in_column (token_column t) c.args.column in
    indicator_gives (options_of c.args.options.now) t c.args.column (answered c.node.new.fault c.node.result)
    c.args.state.now none (pair_view c.args.stage)
    (elim c.else-begins_pair.branch [
      | else-begins_pair-via-then-begins_pair+else-is_in_column w ↦
          ap₂ (λ (a b : Bool). a && b) (sym c.begins_pair.ensures ∙ w.if-begins_pair.true)
          (sym w.is_in_column.ensures ∙ w.if-is_in_column.false)
      | else-begins_pair-via-else-begins_pair w ↦
          ap (λ (a : Bool). a && here) (sym c.begins_pair.ensures ∙ w.if-begins_pair.false)
    ])
