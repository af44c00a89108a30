use Rattle.std.proofs.Common.{arith}
use Rattle.granit_lines.proofs.QuotingLemmas.{plain_at}
use Rattle.granit_lines.proofs.quoting.is_plain_byte.Goals as goal

pub returns : goal.returns
returns c = plain_at c.args.byte (omega (arith, c.ranges.byte.fits))
