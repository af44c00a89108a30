use Rattle.std.proofs.Common.{sym, subst}
use Rattle.granit_items.specs.ItemViews.{item_view}
use Rattle.granit_queue.specs.QueueViews.{queue_view}
use Rattle.granit_queue.specs.Rising.{NumbersRise}
use Rattle.granit_queue.specs.declared.rising.Numbers.{Numbers}
use Rattle.granit_queue.proofs.RisingLemmas.{flagged, pushed_or_not}
use Rattle.granit_queue.proofs.queue.push.Goals as goal

pub returns-clause-rising : goal.returns-clause-rising
returns-clause-rising c =
    let marked = subst (NumbersRise c.args.numbers.now) (sym c.mark_by.ensures)
    (flagged c.args.numbers.now (item_view c.args.queued.item) (queue_view c.args.items.now) c.requires.rising) in
    subst (λ (o : Numbers). NumbersRise o (queue_view c.push-2.new.self)) (sym c.push.ensures)
    (pushed_or_not c.push-2.result c.args.numbers.now c.mark_by.new.items c.push-2.new.self c.args.queued
    c.push-2.ensures.pushed c.push-2.ensures.kept marked)
