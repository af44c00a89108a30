use Rattle.granit_stack_laws.proofs.ExampleLemmas.{small_before, small_lives}
use Rattle.granit_stack_laws.proofs.examples.a_stack_includes_a_small_text.Goals as goal

pub returns-clause-before : goal.returns-clause-before
returns-clause-before g c = small_before _ _ _ _ _ _ _ _ _ _ _ _ _ _ _ _ _

pub returns-clause-life : goal.returns-clause-life
returns-clause-life g c = small_lives _ _ _ _ _ _ _ _ _ _ _ _ _ _ _ _ _
