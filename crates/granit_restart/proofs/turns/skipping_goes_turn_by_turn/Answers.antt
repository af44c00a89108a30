use Rattle.granit_restart.proofs.TurnwiseLaws.{skip_on, skip_done, skip_fails}
use Rattle.granit_restart.proofs.turns.skipping_goes_turn_by_turn.Goals as goal

pub returns-clause-on : goal.returns-clause-on
returns-clause-on c = skip_on

pub returns-clause-done : goal.returns-clause-done
returns-clause-done c = skip_done

pub returns-clause-fault : goal.returns-clause-fault
returns-clause-fault c = skip_fails
