use Rattle.granit_restart.proofs.BoundaryLaws.{same_behind}
use Rattle.granit_restart.proofs.boundaries.the_same_boundary_is_next_further_on.Goals as goal

pub returns : goal.returns
returns c = same_behind
