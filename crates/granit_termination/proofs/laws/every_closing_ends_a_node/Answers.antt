use Rattle.granit_machine.proofs.ClosingLemmas.{close_turn-Shortens}
use Rattle.granit_termination.proofs.laws.every_closing_ends_a_node.Goals as goal

pub returns : goal.returns
returns c = close_turn-Shortens
