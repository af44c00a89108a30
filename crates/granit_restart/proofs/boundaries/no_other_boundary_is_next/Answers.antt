use Rattle.granit_restart.proofs.BoundaryLaws.{only_next}
use Rattle.granit_restart.proofs.boundaries.no_other_boundary_is_next.Goals as goal

pub returns : goal.returns
returns c = only_next
