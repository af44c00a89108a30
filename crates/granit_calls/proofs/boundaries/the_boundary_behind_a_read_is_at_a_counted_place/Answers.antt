use Rattle.granit_calls.proofs.PlaceLaws.{boundary_onward, onward_counted}
use Rattle.granit_calls.proofs.boundaries.the_boundary_behind_a_read_is_at_a_counted_place.Goals as goal

pub returns-clause-read : goal.returns-clause-read
returns-clause-read c = onward_counted

pub returns-clause-boundary : goal.returns-clause-boundary
returns-clause-boundary c = boundary_onward
