use Rattle.std.proofs.Common.{◌≡◌, ◌-◌, ◌/◌, ◌%◌, replicate, decimal, refl, ap, ◌∙◌, arith}
use Rattle.granit_lines.proofs.NumberLemmas.{at_most_eight, written_digits}
use Rattle.granit_lines.proofs.numbers.LeadingDigits.of.Goals as goal

pub write_digits-start-requires : goal.write_digits-start-requires
write_digits-start-requires c = (at_most_eight c.args.n c.requires.near, omega arith)

pub invariant_of-result-clause-told : goal.invariant_of-result-clause-told
invariant_of-result-clause-told c =
    let same : c.args.n / 100 ≡ (c.args.n - c.args.n % 100) / 100 = omega arith in
    c.put_bytes-count.ensures.put
    ∙ written_digits _ (decimal (c.args.n / 100)) (replicate 8 0) 8 c.write_digits-start.result
    c.write_digits-start.ensures.written refl c.write_digits-start.ensures.start
    ∙ ap decimal same
