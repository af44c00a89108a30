use Rattle.granit_offsets.proofs.BareRun.{run_bare, runs_alike}
use Rattle.granit_offsets.proofs.offsets.offsets_change_nothing_else.Goals as goal

pub returns-clause-bare : goal.returns-clause-bare
returns-clause-bare c = run_bare

pub returns-clause-alike : goal.returns-clause-alike
returns-clause-alike c = runs_alike
