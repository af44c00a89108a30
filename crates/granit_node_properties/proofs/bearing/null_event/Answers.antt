use Rattle.std.proofs.Common.{refl}
use Rattle.std.specs.Str.{chars}
use Rattle.granit_node_properties.proofs.bearing.null_event.Goals as goal

pub returns : goal.returns
unfolding chars
returns c = rw c.borrowed.ensures refl
