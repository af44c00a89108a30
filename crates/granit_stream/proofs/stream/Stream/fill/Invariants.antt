use Rattle.std.proofs.Common.{◌≡◌, ◌-◌, ◌+◌, ◌≤◌, ℕ, List, length, true}
use Rattle.granit_stream.specs.Stream.{StreamHolds}
use Rattle.granit_stream.proofs.stream.Stream.fill.Given as goal
use Rattle.granit_buffered.specs.Feeds.{still_left}

abbrev pub invariant-fill : goal.invariant-fill
invariant-fill g l = record {
  told : (xs : List ℕ) → StreamHolds g.T.Iterator.next_gives g.T.Iterator.remaining l.fn.self.tail.done
      l.fn.self.tail.iterator l.fn.self.held.items xs
      → StreamHolds g.T.Iterator.next_gives g.T.Iterator.remaining l.self.tail.done
      l.self.tail.iterator l.self.held.items xs;
  left : length l.self.held.items + still_left l.self.tail.done (g.T.Iterator.remaining l.self.tail.iterator)
      ≤ length l.fn.self.held.items + still_left l.fn.self.tail.done (g.T.Iterator.remaining l.fn.self.tail.iterator);
  window : l.self.window ≡ l.fn.self.window;
  kept : (l.self.breaks_off ≡ l.fn.self.breaks_off) × (l.self.handed_out ≡ l.fn.self.handed_out)
      × (l.self.lends ≡ l.fn.self.lends);
  done : l.fn.self.tail.done ≡ true → l.self.tail.done ≡ true;
}

abbrev pub decreases-fill : goal.decreases-fill
decreases-fill g l = l.count - length l.self.held.items
