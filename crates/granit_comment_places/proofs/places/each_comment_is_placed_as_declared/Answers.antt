use Rattle.granit_comment_places.proofs.PlacementLaw.{placed_is, one_placement}
use Rattle.granit_comment_places.proofs.places.each_comment_is_placed_as_declared.Goals as goal

pub returns-clause-placed : goal.returns-clause-placed
returns-clause-placed c = placed_is

pub returns-clause-one : goal.returns-clause-one
returns-clause-one c = one_placement
