use Rattle.std.proofs.Common.{arith}
use Rattle.granit_words.proofs.AskLemmas.{a_word_too_many, asked}
use Rattle.granit_words.proofs.asking.read_asked.Goals as goal

pub returns-then-len-gt3-clause-wrong : goal.returns-then-len-gt3-clause-wrong
returns-then-len-gt3-clause-wrong c =
    a_word_too_many c.args.words.now (c.begin_selftest.ensures.yes c.if-not-begin_selftest.false)
    c.in-Some.seed c.in-Some.ensures.some.0 c.in-Some.ensures.some.1
    c.in-Some-number.size c.if-size-gt-MOST_DOCUMENTS.false c.in-Some-number.ensures.some.1
    (omega (arith, c.if-len-gt3.true, c.len.ensures))

pub returns-clause-right : goal.returns-clause-right
returns-clause-right c =
    asked c.args.words.now (c.begin_selftest.ensures.yes c.if-not-begin_selftest.false)
    c.in-Some.seed c.in-Some.ensures.some.0 c.in-Some.ensures.some.1
    c.in-Some-number.size c.if-size-gt-MOST_DOCUMENTS.false c.in-Some-number.ensures.some.1
    (omega (arith, c.if-len-gt3.false, c.len.ensures))
