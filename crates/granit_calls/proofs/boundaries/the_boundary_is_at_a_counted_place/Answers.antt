use Rattle.granit_calls.proofs.PlaceLaws.{boundary_counted}
use Rattle.granit_calls.proofs.boundaries.the_boundary_is_at_a_counted_place.Goals as goal

pub returns : goal.returns
returns c = boundary_counted
