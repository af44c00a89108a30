use Rattle.std.proofs.Common.{arith}
use Rattle.granit_lines.proofs.RoomLemmas.{eight_put}
use Rattle.granit_lines.proofs.numbers.put_eight.Goals as goal

pub returns : goal.returns
returns c = record {
  put = eight_put c.args.room.now c.args.digits c.args.at (omega arith) (omega (arith, c.requires.room));
}
