use Rattle.granit_moved.proofs.MovedRun.{run_moved}
use Rattle.granit_moved.proofs.moving.a_text_is_read_alike_wherever_it_stands.Goals as goal

pub returns : goal.returns
returns c = run_moved
