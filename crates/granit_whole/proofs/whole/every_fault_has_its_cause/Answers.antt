use Rattle.granit_whole.proofs.Wholes.{whole_faults, whole_never_unfinished}
use Rattle.granit_whole.proofs.whole.every_fault_has_its_cause.Goals as goal

pub returns-clause-cause : goal.returns-clause-cause
returns-clause-cause c = whole_faults

pub returns-clause-ends : goal.returns-clause-ends
returns-clause-ends c = whole_never_unfinished
