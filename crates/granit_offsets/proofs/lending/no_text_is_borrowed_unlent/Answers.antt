use Rattle.granit_offsets.proofs.LendingLaw.{texts_owned}
use Rattle.granit_offsets.proofs.lending.no_text_is_borrowed_unlent.Goals as goal

pub returns : goal.returns
returns c = texts_owned
