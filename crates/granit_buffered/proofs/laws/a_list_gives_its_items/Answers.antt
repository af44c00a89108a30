use Rattle.granit_buffered.proofs.KnownLemmas.{list_gives}
use Rattle.std.proofs.Common.{refl}
use Rattle.std.specs.Vec.Iter.{into_iter_items}
use Rattle.granit_buffered.proofs.laws.a_list_gives_its_items.Goals as goal

pub returns : goal.returns
returns g c = λ s len. list_gives s (into_iter_items s) refl len
