use Rattle.granit_ids.proofs.IdLaws.{given_below}
use Rattle.granit_ids.proofs.ids.ids_are_below_the_offset.Goals as goal

pub returns : goal.returns
returns c = given_below
