use Rattle.std.proofs.Common.{refl, sym, arith}
use Rattle.std.proofs.lemmas.Fmt.{decimal_digit}
use Rattle.granit_lines.proofs.numbers.LeadingDigits.new.Goals as goal

pub invariant_of-result-clause-even : goal.invariant_of-result-clause-even
invariant_of-result-clause-even c = refl

pub invariant_of-result-clause-large : goal.invariant_of-result-clause-large
invariant_of-result-clause-large c = omega arith

pub invariant_of-result-clause-near : goal.invariant_of-result-clause-near
invariant_of-result-clause-near c = omega arith

pub invariant_of-result-clause-few : goal.invariant_of-result-clause-few
invariant_of-result-clause-few c = omega arith

pub invariant_of-result-clause-told : goal.invariant_of-result-clause-told
invariant_of-result-clause-told c = sym (decimal_digit 1 (omega arith))
