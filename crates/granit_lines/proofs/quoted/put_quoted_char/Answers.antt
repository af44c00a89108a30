use Rattle.std.proofs.Common.{arith}
use Rattle.granit_lines.proofs.HexLemmas.{escape_fits}
use Rattle.granit_lines.proofs.quoted.put_quoted_char.Goals as goal

pub put_escape-requires : goal.put_escape-requires
put_escape-requires c =
    let fits = escape_fits c.args.c (omega arith) in
    record { room = omega (arith, fits, c.requires.room) }

pub returns-in_default-clause-end : goal.returns-in_default-clause-end
returns-in_default-clause-end c =
    let fits = escape_fits c.args.c (omega arith) in
    omega (arith, fits, c.put_escape.ensures.end)
