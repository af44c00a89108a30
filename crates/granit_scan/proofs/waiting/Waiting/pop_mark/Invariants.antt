use Rattle.std.proofs.Common.{◌≡◌, length}
use Rattle.granit_scan.specs.Marks.{mark_in}
use Rattle.granit_scan.proofs.waiting.Waiting.pop_mark.Given as goal

abbrev pub invariant-tokens : goal.invariant-tokens
invariant-tokens l = mark_in l.self ≡ mark_in l.fn.self

abbrev pub decreases-tokens : goal.decreases-tokens
decreases-tokens l = length l.self
