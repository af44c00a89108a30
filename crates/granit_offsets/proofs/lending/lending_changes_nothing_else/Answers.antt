use Rattle.granit_offsets.proofs.LendingLaw.{run_owned, lent_alike}
use Rattle.granit_offsets.proofs.lending.lending_changes_nothing_else.Goals as goal

pub returns-clause-owned : goal.returns-clause-owned
returns-clause-owned c = run_owned

pub returns-clause-alike : goal.returns-clause-alike
returns-clause-alike c = lent_alike
