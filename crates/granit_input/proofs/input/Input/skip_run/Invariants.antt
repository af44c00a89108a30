use Rattle.std.proofs.Common.{◌≤◌, ◌+◌}
use Rattle.granit_base.specs.Place.{Unread}
use Rattle.granit_runs.specs.Unread.{past_count}
use Rattle.granit_input.specs.Origin.{Goes}
use Rattle.granit_runs.specs.Runs.{run_test}
use Rattle.granit_runs.proofs.RunLemmas.{IsFront}
use Rattle.granit_input.proofs.input.Input.skip_run.Given as goal

abbrev pub invariant-run : goal.invariant-run
invariant-run g l = record {
  told : (u : Unread) → g.Self.Input.unread l.fn.self u
      → g.Self.Input.unread l.self (past_count l.count u) × IsFront (run_test l.run) u.text l.count;
  limit : l.count ≤ l.limit;
  left : g.Self.Input.left l.self + l.count ≤ g.Self.Input.left l.fn.self;
  window : g.Self.Input.window l.fn.self ≤ g.Self.Input.window l.self + l.count;
  origin : Goes (g.Self.Input.origin l.fn.self) (g.Self.Input.origin l.self);
}

abbrev pub decreases-run : goal.decreases-run
decreases-run g l = g.Self.Input.left l.self
