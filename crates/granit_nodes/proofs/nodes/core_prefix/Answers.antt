use Rattle.std.proofs.Common.{refl}
use Rattle.std.specs.Str.{chars}
use Rattle.granit_nodes.proofs.nodes.core_prefix.Goals as goal

pub returns : goal.returns
unfolding chars
returns c = refl
