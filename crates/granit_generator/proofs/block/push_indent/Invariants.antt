use Rattle.granit_model.specs.FlowText.{Appends}
use Rattle.granit_generator.specs.BlockText.{indent}
use Rattle.granit_generator.proofs.block.push_indent.Given as goal

abbrev pub invariant-loop : goal.invariant-loop
invariant-loop l = Appends l.initial.out l.out (indent l.counter)
