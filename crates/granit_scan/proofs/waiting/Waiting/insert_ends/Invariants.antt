use Rattle.std.proofs.Common.{◌≡◌, ◌++◌, replicate}
use Rattle.granit_scan.specs.TokenViews.{CollectionEnd, marked}
use Rattle.granit_scan.proofs.waiting.Waiting.insert_ends.Given as goal

abbrev pub invariant-ends : goal.invariant-ends
invariant-ends l = l.self ≡ l.fn.self ++ replicate l._done (marked CollectionEnd l.mark)
