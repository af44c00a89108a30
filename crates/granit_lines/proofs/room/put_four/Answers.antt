use Rattle.std.proofs.Common.{arith}
use Rattle.granit_lines.proofs.RoomLemmas.{four_more}
use Rattle.granit_lines.proofs.room.put_four.Goals as goal

pub returns-clause-put : goal.returns-clause-put
returns-clause-put c = λ old put.
    four_more c.args.room.now old c.args.bytes.now c.args.at c.args.count (omega (arith, c.requires.within))
    (omega (arith, c.requires.room)) put
