use Rattle.std.proofs.Common.{◌≡◌, ◌++◌, length, map, take, drop}
use Rattle.granit_queue.specs.QueueViews.{flags_of, queue_view}
use Rattle.granit_queue.proofs.items.mark_all.Given as goal

abbrev pub invariant-items : goal.invariant-items
invariant-items l = record {
  told : queue_view l.items.items
      ≡ map (flags_of l.number) (take l.i (queue_view l.fn.items.items)) ++ drop l.i (queue_view l.fn.items.items);
  fits : length l.items.items ≡ l.i-end;
  same : length l.fn.items.items ≡ l.i-end;
}
