use Rattle.std.proofs.Common.{◌&&◌, Bool, sym, ap, ap₂, ◌∙◌, arith, true≢false}
use Rattle.granit_error.specs.OptionsView.{options_of}
use Rattle.granit_machine.specs.TokenSort.{is_in_column, token_column}
use Rattle.granit_refused.specs.Answered.{answered}
use Rattle.granit_sorts.specs.SortViews.{machine_token}
use Rattle.granit_feed.proofs.BlockGiving.{dash_events, sequence_gives}
use Rattle.granit_feed.proofs.block.in_sequence.Goals as goal
use Rattle.granit_feed.proofs.block.in_sequence.Goals.{else-is_dash-via-then-is_dash+else-is_in_column}
use Rattle.granit_feed.proofs.block.in_sequence.Goals.{else-is_dash-via-else-is_dash}

pub returns-in_err-give_empty-clause-eventless : goal.returns-in_err-give_empty-clause-eventless
returns-in_err-give_empty-clause-eventless c = λ none bare deep q is few.
    let more = dash_events (options_of c.args.options.now) (machine_token c.args.token.now) c.args.column
    c.args.indentless c.args.state.now q (sym c.is_dash.ensures ∙ c.if-is_dash.true)
    (sym c.is_in_column.ensures ∙ c.if-is_in_column.true) is in
    absurd (true≢false (sym (c.in_err-give_empty.ensures.eventless (omega (arith, few, more)))))

pub returns-then-is_right_of-clause-eventless : goal.returns-then-is_right_of-clause-eventless
returns-then-is_right_of-clause-eventless c = λ none bare deep.
    let t = machine_token c.args.token.now in
    let here = is_in_column (token_column t) c.args.column in
    sequence_gives (options_of c.args.options.now) t c.args.column (answered c.node.new.fault c.node.result)
    c.args.state.now none c.args.indentless
    (elim c.else-is_dash.branch [
      | else-is_dash-via-then-is_dash+else-is_in_column w ↦
          ap₂ (λ (a b : Bool). a && b) (sym c.is_dash.ensures ∙ w.if-is_dash.true)
          (sym w.is_in_column.ensures ∙ w.if-is_in_column.false)
      | else-is_dash-via-else-is_dash w ↦
          ap (λ (a : Bool). a && here) (sym c.is_dash.ensures ∙ w.if-is_dash.false)
    ])

pub returns-in_err-give_empty-clause-again : goal.returns-in_err-give_empty-clause-again
returns-in_err-give_empty-clause-again c = λ name anchor lent left known bare deep q is few.
    let more = dash_events (options_of c.args.options.now) (machine_token c.args.token.now) c.args.column
    c.args.indentless c.args.state.now q (sym c.is_dash.ensures ∙ c.if-is_dash.true)
    (sym c.is_in_column.ensures ∙ c.if-is_in_column.true) is in
    absurd (true≢false (sym (c.in_err-give_empty.ensures.eventless (omega (arith, few, more)))))
