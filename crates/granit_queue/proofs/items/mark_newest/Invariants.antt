use Rattle.std.proofs.Common.{◌≤◌, length}
use Rattle.granit_queue.specs.QueueViews.{queue_view}
use Rattle.granit_queue.proofs.RisingLemmas.{Passed}
use Rattle.granit_queue.proofs.items.mark_newest.Given as goal

abbrev pub invariant-items : goal.invariant-items
invariant-items l = record {
  passed : Passed l.number l.newer (queue_view l.fn.items.items) (queue_view l.items.items);
  fits : l.newer ≤ length l.items.items;
}

abbrev pub decreases-items : goal.decreases-items
decreases-items l = l.newer
