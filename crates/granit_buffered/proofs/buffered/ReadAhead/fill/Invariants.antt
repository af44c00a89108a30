use Rattle.std.proofs.Common.{◌≡◌, ◌+◌, ◌≤◌, ℕ, List, Option, length, max, true}
use Rattle.granit_error.specs.FaultKind.{FaultKind}
use Rattle.granit_input.specs.Origin.{Goes}
use Rattle.granit_buffered.specs.Feeds.{Holds, of_feed}
use Rattle.granit_buffered.proofs.buffered.ReadAhead.fill.Given as goal

abbrev pub invariant-fill : goal.invariant-fill
invariant-fill g l = record {
  told : (xs : List ℕ) (fault : Option FaultKind) → Holds g.F.Feed.told l.fn.self.feed l.fn.self.held xs fault
      → Holds g.F.Feed.told l.self.feed l.self.held xs fault;
  left : length l.self.held + g.F.Feed.bound l.self.feed
      ≤ length l.fn.self.held + g.F.Feed.bound l.fn.self.feed;
  window : l.self.window ≡ l.fn.self.window;
  few : length l.self.held + l.missing ≡ max l.count (length l.fn.self.held);
  stays : g.F.Feed.ended l.fn.self.feed ≡ true → g.F.Feed.ended l.self.feed ≡ true;
  goes : Goes (of_feed (g.F.Feed.ended l.fn.self.feed) (g.F.Feed.error l.fn.self.feed)
      (g.F.Feed.handed_out l.fn.self.feed))
      (of_feed (g.F.Feed.ended l.self.feed) (g.F.Feed.error l.self.feed) (g.F.Feed.handed_out l.self.feed));
}

abbrev pub decreases-fill : goal.decreases-fill
decreases-fill g l = l.missing
