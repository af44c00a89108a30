use Rattle.std.proofs.Common.{arith}
use Rattle.granit_words.proofs.NumberLemmas.{not_empty, not_parsed, not_plus, not_zero, parsed, too_large, zero_alone}
use Rattle.granit_words.proofs.words.number_of.Goals as goal

pub returns-then-is_empty-clause-none : goal.returns-then-is_empty-clause-none
returns-then-is_empty-clause-none c = λ n h e. not_empty c.args.digits.now c.as_bytes-bytes.result.now c.is_empty.result
    n
    c.as_bytes-bytes.ensures.value c.is_empty.ensures c.if-is_empty.true h e

pub returns-then-bytes-eq1-clause-some : goal.returns-then-bytes-eq1-clause-some
returns-then-bytes-eq1-clause-some c = (
  omega arith,
  zero_alone c.args.digits.now c.as_bytes-bytes.result.now
      c.as_bytes-bytes.ensures.value c.if-first-eq48.true c.if-bytes-eq1.true,
)

pub returns-else-bytes-eq1-clause-none : goal.returns-else-bytes-eq1-clause-none
returns-else-bytes-eq1-clause-none c = λ n h e. not_zero c.args.digits.now c.as_bytes-bytes.result.now n
    c.as_bytes-bytes.ensures.value c.if-first-eq48.true c.if-bytes-eq1.false h e

pub returns-then-first-eq43-clause-none : goal.returns-then-first-eq43-clause-none
returns-then-first-eq43-clause-none c = λ n h e. not_plus c.args.digits.now c.as_bytes-bytes.result.now n
    c.as_bytes-bytes.ensures.value c.if-first-eq43.true h e

pub returns-then-number-lt1000000000-clause-some :
    goal.returns-then-number-lt1000000000-clause-some
returns-then-number-lt1000000000-clause-some c = (
  c.if-number-lt1000000000.true,
  parsed _ c.args.digits.now
      c.as_bytes-bytes.result.now c.parse.result c.in-Ok.number c.parse.ensures.value.0 c.in-Ok.is
      c.as_bytes-bytes.ensures.value c.if-first-eq43.false c.if-first-eq48.false,
)

pub returns-else-number-lt1000000000-clause-none :
    goal.returns-else-number-lt1000000000-clause-none
returns-else-number-lt1000000000-clause-none c = λ n h e. too_large _ c.args.digits.now c.parse.result c.in-Ok.number
    c.parse.ensures.value.0 c.in-Ok.is c.if-number-lt1000000000.false n h e

pub returns-in-Err-clause-none : goal.returns-in-Err-clause-none
returns-in-Err-clause-none c = λ n h e. not_parsed _ c.args.digits.now c.parse.result c.in-Err.field-0
    c.parse.ensures.value.0 c.in-Err.is n h e
