use Rattle.std.proofs.Common.{◌-◌, ◌+◌, ◌≤◌, length, min}
use Rattle.granit_base.specs.Place.{Unread}
use Rattle.granit_input.specs.Origin.{Goes}
use Rattle.granit_runs.specs.Unread.{past_count}
use Rattle.granit_buffered.specs.Feeds.{LeftInFeed, origin_of}
use Rattle.granit_buffered.proofs.buffered.ReadAheadInput.skip_n.Given as goal

abbrev pub invariant-taken : goal.invariant-taken
invariant-taken g l = record {
  told : (u : Unread) → LeftInFeed g.F.Feed.told l.fn.self.feed l.fn.self.held u
      → LeftInFeed g.F.Feed.told l.self.feed l.self.held (past_count l.taken u);
  count : l.taken ≤ l.count;
  left : length l.self.held + g.F.Feed.bound l.self.feed
      ≤ length l.fn.self.held + g.F.Feed.bound l.fn.self.feed - l.taken;
  window : l.fn.self.window
      ≤ l.self.window + min l.taken (length l.fn.self.held + g.F.Feed.bound l.fn.self.feed);
  few : length l.self.held ≤ length l.fn.self.held - l.taken;
  origin : Goes (origin_of g.F.Feed.told g.F.Feed.ended g.F.Feed.error g.F.Feed.handed_out l.fn.self.feed)
      (origin_of g.F.Feed.told g.F.Feed.ended g.F.Feed.error g.F.Feed.handed_out l.self.feed);
}

abbrev pub decreases-taken : goal.decreases-taken
decreases-taken g l = l.count - l.taken
