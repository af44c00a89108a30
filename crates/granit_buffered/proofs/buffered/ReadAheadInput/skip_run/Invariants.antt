use Rattle.std.proofs.Common.{◌≤◌, ◌+◌, length, max}
use Rattle.granit_base.specs.Place.{Unread}
use Rattle.granit_input.specs.Origin.{Goes}
use Rattle.granit_runs.specs.Runs.{run_test}
use Rattle.granit_runs.specs.Unread.{past_count}
use Rattle.granit_runs.proofs.RunLemmas.{IsFront}
use Rattle.granit_buffered.specs.Feeds.{LeftInFeed, origin_of}
use Rattle.granit_buffered.proofs.buffered.ReadAheadInput.skip_run.Given as goal

abbrev pub invariant-run : goal.invariant-run
invariant-run g l = record {
  told : (u : Unread) → LeftInFeed g.F.Feed.told l.fn.self.feed l.fn.self.held u
      → LeftInFeed g.F.Feed.told l.self.feed l.self.held (past_count l.count u)
      × IsFront (run_test l.run) u.text l.count;
  limit : l.count ≤ l.limit;
  left : length l.self.held + g.F.Feed.bound l.self.feed + l.count
      ≤ length l.fn.self.held + g.F.Feed.bound l.fn.self.feed;
  window : l.fn.self.window ≤ l.self.window + l.count;
  few : length l.self.held ≤ max 2 (length l.fn.self.held);
  origin : Goes (origin_of g.F.Feed.told g.F.Feed.ended g.F.Feed.error g.F.Feed.handed_out l.fn.self.feed)
      (origin_of g.F.Feed.told g.F.Feed.ended g.F.Feed.error g.F.Feed.handed_out l.self.feed);
}

abbrev pub decreases-run : goal.decreases-run
decreases-run g l = length l.self.held + g.F.Feed.bound l.self.feed
