use Rattle.granit_layers.proofs.PassingLemmas.{calls_turn, looks_turn}
use Rattle.granit_layers.proofs.laws.calls_are_turns.Goals as goal

pub returns-clause-calls : goal.returns-clause-calls
returns-clause-calls g c = calls_turn _ _ _

pub returns-clause-looks : goal.returns-clause-looks
returns-clause-looks g c = looks_turn _ _ _
