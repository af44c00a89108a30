use Rattle.std.proofs.Common.{◌≤◌, ◌+◌, length}
use Rattle.granit_base.specs.Place.{Unread}
use Rattle.granit_runs.specs.Unread.{past_count}
use Rattle.granit_input_tests.proofs.calls.count_rest.Given as goal

abbrev pub invariant-rest : goal.invariant-rest
invariant-rest g l = record {
  told : (u : Unread) → g.T.Input.unread l.fn.input u
      → g.T.Input.unread l.input (past_count l.count u) × (l.count ≤ length u.text);
  left : g.T.Input.left l.input + l.count ≤ g.T.Input.left l.fn.input;
}

abbrev pub decreases-rest : goal.decreases-rest
decreases-rest g l = g.T.Input.left l.input
