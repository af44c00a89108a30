use Rattle.granit_restart.proofs.LookTurns.{look_ends, look_on, look_told}
use Rattle.granit_looking.proofs.looking.looking_goes_turn_by_turn.Goals as goal

pub returns-clause-told : goal.returns-clause-told
returns-clause-told c = look_told

pub returns-clause-ends : goal.returns-clause-ends
returns-clause-ends c = look_ends

pub returns-clause-on : goal.returns-clause-on
returns-clause-on c = look_on
