use Rattle.std.proofs.Common.{leb}
use Rattle.granit_runs.proofs.LaneLemmas.{both_are, compared, compared_left}
use Rattle.granit_runs.proofs.lanes.within.Goals as goal

pub returns : goal.returns
returns c = both_are (leb c.args.low) (λ x. leb x c.args.high) c.args.bytes
    (compared_left leb c.args.bytes 16 c.args.low c.fits-bytes.0)
    (compared leb c.args.bytes 16 c.args.high c.fits-bytes.0)
