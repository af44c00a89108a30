use Rattle.granit_event.proofs.NameLemmas.{core_is}
use Rattle.granit_event.proofs.laws.core_suffixes_are_named.Goals as goal

pub returns : goal.returns
returns c = core_is
