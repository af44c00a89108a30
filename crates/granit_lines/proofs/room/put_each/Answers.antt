use Rattle.std.proofs.Common.{sym, ◌∙◌, arith, length-set}
use Rattle.granit_lines.proofs.QuotingLemmas.{plain_more}
use Rattle.granit_lines.proofs.RoomLemmas.{byte_more}
use Rattle.granit_lines.proofs.room.put_each.Goals as goal

pub bytes-preserved : goal.bytes-preserved
bytes-preserved c = record {
  within = omega (arith, c.bytes-test.true);
  size = length-set c.bytes.room _ _ ∙ c.bytes.invariant.size;
  plain = plain_more c.args.bytes.now c.bytes.count (omega (arith, c.bytes-test.true)) c.bytes.invariant.plain
      (sym c.is_plain_byte.ensures ∙ c.if-is_plain_byte.true);
  put = byte_more c.bytes.room c.args.room.now c.args.bytes.now c.args.at c.bytes.count
      (omega (arith, c.bytes-test.true))
      (omega (arith, c.requires.room, c.bytes-test.true, c.bytes.invariant.size)) c.bytes.invariant.put;
}
