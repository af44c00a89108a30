use Rattle.std.proofs.Common.{◌≡◌, ◌≤◌, ◌+◌, take}
use Rattle.granit_base.specs.Place.{Unread}
use Rattle.granit_runs.specs.Unread.{past_count}
use Rattle.granit_input.specs.Origin.{Goes}
use Rattle.granit_runs.specs.Runs.{starts}
use Rattle.granit_runs.specs.White.{is_skipped, whitespace_found}
use Rattle.granit_runs.proofs.RunLemmas.{IsFront}
use Rattle.granit_input.proofs.input.Input.skip_ws_to_eol_blanks.Given as goal

abbrev pub invariant-blanks : goal.invariant-blanks
invariant-blanks g l = record {
  told : (u : Unread) → g.Self.Input.unread l.fn.self u
      → g.Self.Input.unread l.self (past_count l.count u) × IsFront (starts (is_skipped l.skip_tabs)) u.text l.count
      × (l.found ≡ whitespace_found (take l.count u.text));
  left : g.Self.Input.left l.self + l.count ≤ g.Self.Input.left l.fn.self;
  window : g.Self.Input.window l.fn.self ≤ g.Self.Input.window l.self + l.count;
  origin : Goes (g.Self.Input.origin l.fn.self) (g.Self.Input.origin l.self);
}

abbrev pub decreases-blanks : goal.decreases-blanks
decreases-blanks g l = g.Self.Input.left l.self
