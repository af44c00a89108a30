use Rattle.std.proofs.Common.{arith}
use Rattle.granit_lines.proofs.NumberLemmas.{tens_at, ones_at}
use Rattle.granit_lines.proofs.RoomLemmas.{pair_put}
use Rattle.granit_lines.proofs.numbers.put_pair.Goals as goal

pub returns-clause-put : goal.returns-clause-put
returns-clause-put c =
    rw (tens_at c.args.pair c.requires.pair, ones_at c.args.pair c.requires.pair)
    (pair_put c.args.room.now c.args.at _ _ (omega (arith, c.requires.room)))
