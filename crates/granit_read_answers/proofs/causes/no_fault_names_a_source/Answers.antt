use Rattle.granit_read_answers.proofs.ParserSources.{run_none}
use Rattle.granit_read_answers.proofs.causes.no_fault_names_a_source.Goals as goal

pub returns : goal.returns
returns c = run_none
