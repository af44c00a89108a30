use Rattle.granit_feeding.proofs.BareStream.{feed_all_bare}
use Rattle.granit_feeding.proofs.feeding.items_are_fed_alike_without_offsets.Goals as goal

pub returns : goal.returns
returns c = feed_all_bare
