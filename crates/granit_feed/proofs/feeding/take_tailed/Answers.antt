use Rattle.std.specs.Option.{option_map}
use Rattle.granit_error.specs.OptionsView.{options_of}
use Rattle.granit_refused.specs.Answered.{answered}
use Rattle.granit_items.specs.ItemViews.{boxed_view}
use Rattle.granit_sorts.specs.SortViews.{machine_token}
use Rattle.granit_feed.proofs.HandleLemmas.{tail_keeps}
use Rattle.granit_feed.proofs.feeding.take_tailed.Goals as goal

pub returns-clause-refused : goal.returns-clause-refused
returns-clause-refused c = λ free.
    tail_keeps (options_of c.args.options.now) (machine_token c.args.token.now) c.args.next_line c.args.state.now
    c.close.new.self c.take_token.new.state c.take_tail.new.state c.in_ok-take_token.ensures.leaves
    c.in_ok-close.ensures.kept c.take_tail.ensures.kept c.in_ok-take_token.ensures.kept
    c.in_ok-take_token.ensures.inside (c.in_ok-close.ensures.outside free)
    (option_map boxed_view c.in_ok-tail.tail) (answered c.take_tail.new.fault c.take_tail.result)
    c.take_tail.ensures.leaves
