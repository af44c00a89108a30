use Rattle.granit_whole.proofs.Prefixes.{faults_are, never_unfinished}
use Rattle.granit_whole.proofs.OneFault.{one_fault, faults_are_told}
use Rattle.granit_whole.proofs.events.every_refusal_has_its_cause.Goals as goal

pub returns-clause-cause : goal.returns-clause-cause
returns-clause-cause c = faults_are

pub returns-clause-one : goal.returns-clause-one
returns-clause-one c = one_fault

pub returns-clause-answered : goal.returns-clause-answered
returns-clause-answered c = faults_are_told

pub returns-clause-ends : goal.returns-clause-ends
returns-clause-ends c = never_unfinished
