use Rattle.std.proofs.Common.{◌≡◌, ◌≤◌, ◌+◌, length, max, take}
use Rattle.granit_base.specs.Place.{Unread}
use Rattle.granit_input.specs.Origin.{Goes}
use Rattle.granit_runs.specs.Runs.{starts}
use Rattle.granit_runs.specs.Unread.{past_count}
use Rattle.granit_runs.specs.White.{is_skipped, whitespace_found}
use Rattle.granit_runs.proofs.RunLemmas.{IsFront}
use Rattle.granit_buffered.specs.Feeds.{LeftInFeed, origin_of}
use Rattle.granit_buffered.proofs.buffered.ReadAheadInput.skip_ws_to_eol_blanks.Given as goal

abbrev pub invariant-blanks : goal.invariant-blanks
invariant-blanks g l = record {
  told : (u : Unread) → LeftInFeed g.F.Feed.told l.fn.self.feed l.fn.self.held u
      → LeftInFeed g.F.Feed.told l.self.feed l.self.held (past_count l.count u)
      × IsFront (starts (is_skipped l.skip_tabs)) u.text l.count
      × (l.found ≡ whitespace_found (take l.count u.text));
  left : length l.self.held + g.F.Feed.bound l.self.feed + l.count
      ≤ length l.fn.self.held + g.F.Feed.bound l.fn.self.feed;
  window : l.fn.self.window ≤ l.self.window + l.count;
  few : length l.self.held ≤ max 1 (length l.fn.self.held);
  origin : Goes (origin_of g.F.Feed.told g.F.Feed.ended g.F.Feed.error g.F.Feed.handed_out l.fn.self.feed)
      (origin_of g.F.Feed.told g.F.Feed.ended g.F.Feed.error g.F.Feed.handed_out l.self.feed);
}

abbrev pub decreases-blanks : goal.decreases-blanks
decreases-blanks g l = length l.self.held + g.F.Feed.bound l.self.feed
