use Rattle.granit_alone.proofs.LineLaws.{call_counts, early_counts, recovery_counts}
use Rattle.granit_alone.proofs.lines.lines_count_from_one.Goals as goal

pub returns-clause-call : goal.returns-clause-call
returns-clause-call c = call_counts

pub returns-clause-early : goal.returns-clause-early
returns-clause-early c = λ o c t early q. early_counts o c.steps t early q

pub returns-clause-recovery : goal.returns-clause-recovery
returns-clause-recovery c = recovery_counts
