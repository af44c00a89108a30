use Rattle.granit_agreement.proofs.WholeRuns.{run_agrees}
use Rattle.granit_agreement.proofs.runs.every_run_agrees.Goals as goal

pub returns : goal.returns
returns c = run_agrees
