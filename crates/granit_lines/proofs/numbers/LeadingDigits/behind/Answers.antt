use Rattle.std.proofs.Common.{◌≡◌, ◌+◌, ◌-◌, ◌/◌, ◌%◌, ◌<◌, ap, ◌∙◌, arith, decimal}
use Rattle.granit_lines.proofs.NumberLemmas.{some_digit, last_digit, last_raised}
use Rattle.granit_lines.proofs.numbers.LeadingDigits.behind.Goals as goal

pub overflow_sub-last : goal.overflow_sub-last
overflow_sub-last c =
    let s = c.args.self.now in
    some_digit (s.base / 100) s.count s.digits (omega (arith, s.near)) s.told

pub overflow_add-digits : goal.overflow_add-digits
overflow_add-digits c =
    let s = c.args.self.now in
    let last = last_digit (s.base / 100) s.count s.digits (omega (arith, s.near)) (omega (arith, s.few)) s.told in
    omega (arith, last)

pub invariant_of-result-clause-even : goal.invariant_of-result-clause-even
invariant_of-result-clause-even c = omega arith

pub invariant_of-result-clause-told : goal.invariant_of-result-clause-told
invariant_of-result-clause-told c =
    let s = c.args.self.now in
    let near : s.base / 100 < 100000000 = omega (arith, s.near) in
    let last = last_digit (s.base / 100) s.count s.digits near (omega (arith, s.few)) s.told in
    let less : s.base / 100 % 10 < 9 = omega (arith, last, c.if-self-last-eq57.false) in
    let next : s.base / 100 + 1 ≡ (s.base + 100) / 100 = omega arith in
    last_raised (s.base / 100) s.count s.digits near (omega (arith, s.few)) s.told less ∙ ap decimal next
