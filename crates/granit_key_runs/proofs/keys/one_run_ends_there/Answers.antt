use Rattle.granit_key_runs.proofs.RunsOnce.{run_once, none_ends}
use Rattle.granit_key_runs.proofs.keys.one_run_ends_there.Goals as goal

pub returns-clause-run : goal.returns-clause-run
returns-clause-run c = λ xs ys zs a b p q. run_once p q

pub returns-clause-none : goal.returns-clause-none
returns-clause-none c = λ xs ys a n r. none_ends n r
