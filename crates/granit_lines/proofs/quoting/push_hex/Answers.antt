use Rattle.std.proofs.Common.{arith}
use Rattle.granit_lines.proofs.HexLemmas.{few_digits}
use Rattle.granit_lines.proofs.quoting.push_hex.Goals as goal

pub put_hex-end-requires : goal.put_hex-end-requires
put_hex-end-requires c =
    let few = few_digits 8 c.args.n (omega arith) (omega arith) (omega arith) in
    record { room = omega (arith, few) }
