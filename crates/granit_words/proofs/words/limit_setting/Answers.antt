use Rattle.std.specs.Prelude.{codes}
use Rattle.granit_words.proofs.WordLemmas.{no_limit, none_of, NoNumber}
use Rattle.granit_words.proofs.words.limit_setting.Goals as goal

pub returns-clause-none : goal.returns-clause-none
returns-clause-none c =
    let w = c.args.word.now in
    no_limit w
    (none_of (NoNumber w (codes "max-comments=")) c.number.result c.number.ensures.none c.in_default.not-Some)
    (none_of (NoNumber w (codes "key-lookahead=")) c.number-2.result c.number-2.ensures.none
    c.in_default-number.not-Some)
    (none_of (NoNumber w (codes "flow-limit=")) c.number-3.result c.number-3.ensures.none
    c.in_default-number-2.not-Some)
    (none_of (NoNumber w (codes "block-limit=")) c.number-4.result c.number-4.ensures.none
    c.in_default-number-3.not-Some)
    (none_of (NoNumber w (codes "directive-bytes=")) c.number-5.result c.number-5.ensures.none
    c.in_default-number-4.not-Some)
    (none_of (NoNumber w (codes "directive-params=")) c.number-6.result c.number-6.ensures.none
    c.in_default-number-5.not-Some)
