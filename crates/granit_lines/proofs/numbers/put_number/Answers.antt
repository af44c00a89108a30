use Rattle.std.proofs.Common.{◌≡◌, ◌+◌, ◌-◌, ◌%◌, ℕ, ◌++◌, take, ap, ◌∙◌, arith, decimal}
use Rattle.granit_lines.proofs.numbers.put_number.Goals as goal

pub returns-clause-put : goal.returns-clause-put
returns-clause-put c =
    let leading = c.args.leading.now in
    let pair = (c.args.n + (18446744073709551616 - leading.base)) % 18446744073709551616 in
    let parts : leading.base + pair ≡ c.args.n = omega (arith, leading.near, leading.large, c.if-pair-ge100.false) in
    c.put_near.ensures.put
    ∙ ap (λ (n : ℕ). take c.args.at c.args.room.now ++ decimal n) parts
