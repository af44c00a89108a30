use Rattle.std.proofs.Common.{◌≡◌, take}
use Rattle.granit_base.proofs.text.TextList.try_clone.Given as goal

abbrev pub invariant-loop-text : goal.invariant-loop-text
invariant-loop-text l = l.list ≡ take l.text-index l.text-items
