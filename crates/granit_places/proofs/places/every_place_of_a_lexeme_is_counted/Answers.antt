use Rattle.granit_places.proofs.PlacesLaw.{places_counted}
use Rattle.granit_places.proofs.places.every_place_of_a_lexeme_is_counted.Goals as goal

pub returns : goal.returns
returns c = places_counted
