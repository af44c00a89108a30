use Rattle.std.proofs.Common.{sym, ◌∙◌, arith}
use Rattle.granit_lines.proofs.QuotingLemmas.{plain_more}
use Rattle.granit_lines.proofs.quoting.plain_len.Goals as goal

pub bytes-preserved : goal.bytes-preserved
bytes-preserved c = record {
  within = omega (arith, c.bytes-test.true);
  plain = plain_more c.args.bytes.now c.bytes.count (omega (arith, c.bytes-test.true)) c.bytes.invariant.plain
      (sym c.is_plain_byte.ensures ∙ c.if-is_plain_byte.true);
}
