use Rattle.std.proofs.Common.{◌≡◌, ◌-◌, Bool, drop}
use Rattle.granit_reader.specs.Meets.{behind_met}
use Rattle.granit_restart.specs.Header.{ends_in_directive}
use Rattle.granit_scanner.proofs.last.last_behind.Given as goal

abbrev pub invariant-items : goal.invariant-items
invariant-items l =
    (before : Bool) → ends_in_directive (behind_met l.met before) (drop l.behind l.fn.queue)
    ≡ ends_in_directive before (drop l.fn.older l.fn.queue)

abbrev pub decreases-items : goal.decreases-items
decreases-items l = l.count - l.behind
