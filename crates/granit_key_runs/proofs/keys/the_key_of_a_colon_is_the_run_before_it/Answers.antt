use Rattle.granit_key_runs.proofs.RunsWhole.{colons_said}
use Rattle.granit_key_runs.proofs.keys.the_key_of_a_colon_is_the_run_before_it.Goals as goal

pub returns : goal.returns
returns c = colons_said
