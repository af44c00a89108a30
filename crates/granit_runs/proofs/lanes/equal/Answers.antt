use Rattle.std.proofs.Common.{eqb}
use Rattle.granit_runs.proofs.LaneLemmas.{compared}
use Rattle.granit_runs.proofs.lanes.equal.Goals as goal

pub returns : goal.returns
returns c = compared eqb c.args.bytes 16 c.args.byte c.fits-bytes.0
