use Rattle.std.proofs.Common.{refl}
use Rattle.std.specs.Str.{chars}
use Rattle.granit_node_properties.proofs.bearing.null_of.Goals as goal

pub returns-in-Some : goal.returns-in-Some
unfolding chars
returns-in-Some c = rw (c.borrowed.ensures, c.in-Some.is) refl
