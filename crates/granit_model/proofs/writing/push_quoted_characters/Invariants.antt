use Rattle.granit_model.specs.FlowText.{Appends, quoted_characters}
use Rattle.granit_model.proofs.writing.push_quoted_characters.Given as goal

abbrev pub invariant-loop-c : goal.invariant-loop-c
invariant-loop-c l = Appends l.initial.out l.out (quoted_characters l.yielded)
