use Rattle.granit_alone.proofs.LineLaws.{behind_counts, fault_counts}
use Rattle.granit_alone.proofs.lines.refused_reads_stop_where_lines_count.Goals as goal

pub returns-clause-stops : goal.returns-clause-stops
returns-clause-stops c = behind_counts

pub returns-clause-fault : goal.returns-clause-fault
returns-clause-fault c = fault_counts
