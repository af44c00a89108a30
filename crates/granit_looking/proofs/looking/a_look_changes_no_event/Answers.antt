use Rattle.granit_restart.proofs.AheadLaws.{gives_alike, gives_back, look_is_ahead, next_alike}
use Rattle.granit_looking.proofs.looking.a_look_changes_no_event.Goals as goal

pub returns-clause-ahead : goal.returns-clause-ahead
returns-clause-ahead c = look_is_ahead

pub returns-clause-next : goal.returns-clause-next
returns-clause-next c = next_alike

pub returns-clause-all : goal.returns-clause-all
returns-clause-all c = gives_alike

pub returns-clause-none : goal.returns-clause-none
returns-clause-none c = gives_back
