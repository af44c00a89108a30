use Rattle.std.proofs.Common.{arith}
use Rattle.std.proofs.lemmas.Fmt.{decimal_digit}
use Rattle.itoa.proofs.Decimal.{decimal_two}
use Rattle.granit_lines.proofs.numbers.put_short.Goals as goal

pub returns-then-n-lt10-clause-put : goal.returns-then-n-lt10-clause-put
returns-then-n-lt10-clause-put c =
    rw (decimal_digit c.args.n (omega (arith, c.if-n-lt10.true))) c.put_byte.ensures.put

pub returns-clause-put : goal.returns-clause-put
returns-clause-put c =
    rw (decimal_two c.args.n (omega (arith, c.if-n-lt10.false)) (omega (arith, c.requires.short)))
    c.put_pair.ensures.put
