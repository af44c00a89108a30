use Rattle.granit_restart.proofs.BoundaryLaws.{finds_next}
use Rattle.granit_restart.proofs.boundaries.the_next_boundary_is_found.Goals as goal

pub returns : goal.returns
returns c = finds_next
