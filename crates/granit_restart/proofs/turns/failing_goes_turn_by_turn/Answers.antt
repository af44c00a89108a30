use Rattle.granit_restart.proofs.TurnwiseLaws.{failing_on, failing_here}
use Rattle.granit_restart.proofs.turns.failing_goes_turn_by_turn.Goals as goal

pub returns-clause-on : goal.returns-clause-on
returns-clause-on c = failing_on

pub returns-clause-fault : goal.returns-clause-fault
returns-clause-fault c = failing_here
