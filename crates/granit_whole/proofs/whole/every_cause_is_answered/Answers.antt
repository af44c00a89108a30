use Rattle.granit_whole.proofs.OneWhole.{whole_faults_told, one_whole_fault, viable_blocked, viable_or_fault}
use Rattle.granit_whole.proofs.whole.every_cause_is_answered.Goals as goal

pub returns-clause-answered : goal.returns-clause-answered
returns-clause-answered c = whole_faults_told

pub returns-clause-one : goal.returns-clause-one
returns-clause-one c = one_whole_fault

pub returns-clause-blocks : goal.returns-clause-blocks
returns-clause-blocks c = viable_blocked

pub returns-clause-either : goal.returns-clause-either
returns-clause-either c = viable_or_fault
