use Rattle.std.proofs.Common.{take}
use Rattle.granit_model.specs.FlowText.{Appends, tag_bytes}
use Rattle.granit_model.proofs.writing.push_tag_bytes.Given as goal

abbrev pub invariant-loop-b : goal.invariant-loop-b
invariant-loop-b l = Appends l.initial.out l.out (tag_bytes (take l.b-index l.b-items))
