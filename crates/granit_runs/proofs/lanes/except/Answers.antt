use Rattle.std.proofs.Common.{eqb, not}
use Rattle.granit_runs.proofs.LaneLemmas.{compared}
use Rattle.granit_runs.proofs.lanes.except.Goals as goal

pub returns : goal.returns
returns c = compared (λ a b. not (eqb a b)) c.args.bytes 16 c.args.byte c.fits-bytes.0
