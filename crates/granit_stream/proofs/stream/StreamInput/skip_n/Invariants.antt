use Rattle.std.proofs.Common.{◌-◌, ◌≡◌, ◌+◌, ◌≤◌, length, min, None, false}
use Rattle.granit_base.specs.Place.{Unread}
use Rattle.granit_input.specs.Origin.{Goes}
use Rattle.granit_stream.specs.Stream.{StreamHolds, of_stream}
use Rattle.granit_runs.specs.Unread.{past_count}
use Rattle.granit_stream.proofs.stream.StreamInput.skip_n.Given as goal
use Rattle.granit_buffered.specs.Feeds.{still_left}

abbrev pub invariant-taken : goal.invariant-taken
invariant-taken g l = record {
  told : (u : Unread) → (l.fn.self.lends ≡ None) × (u.offset ≡ None) × (u.lends ≡ false)
      × StreamHolds g.T.Iterator.next_gives g.T.Iterator.remaining l.fn.self.tail.done l.fn.self.tail.iterator
      l.fn.self.held.items u.text
      → (l.self.lends ≡ None) × ((past_count l.taken u).offset ≡ None) × ((past_count l.taken u).lends ≡ false)
      × StreamHolds g.T.Iterator.next_gives g.T.Iterator.remaining l.self.tail.done
      l.self.tail.iterator l.self.held.items
      (past_count l.taken u).text;
  count : l.taken ≤ l.count;
  left : length l.self.held.items + still_left l.self.tail.done (g.T.Iterator.remaining l.self.tail.iterator)
      ≤ length l.fn.self.held.items + still_left l.fn.self.tail.done (g.T.Iterator.remaining l.fn.self.tail.iterator) -
      l.taken;
  window : l.fn.self.window ≤ l.self.window
      + min l.taken (length l.fn.self.held.items + still_left l.fn.self.tail.done
      (g.T.Iterator.remaining l.fn.self.tail.iterator));
  origin : Goes (of_stream l.fn.self.tail.done l.fn.self.breaks_off l.fn.self.handed_out
      g.L.Input.origin l.fn.self.lends)
      (of_stream l.self.tail.done l.self.breaks_off l.self.handed_out g.L.Input.origin l.self.lends);
}

abbrev pub decreases-taken : goal.decreases-taken
decreases-taken g l = l.count - l.taken
