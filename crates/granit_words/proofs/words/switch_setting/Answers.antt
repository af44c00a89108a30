use Rattle.std.specs.Prelude.{codes}
use Rattle.granit_words.proofs.WordLemmas.{no_switch, none_of, NoSwitch}
use Rattle.granit_words.proofs.words.switch_setting.Goals as goal

pub returns-clause-none : goal.returns-clause-none
returns-clause-none c =
    let w = c.args.word.now in
    no_switch w
    (none_of (NoSwitch w (codes "strict=")) c.switch.result c.switch.ensures.none c.in_default.not-Some)
    (none_of (NoSwitch w (codes "no-directives=")) c.switch-2.result c.switch-2.ensures.none
    c.in_default-switch.not-Some)
    (none_of (NoSwitch w (codes "unresolved=")) c.switch-3.result c.switch-3.ensures.none
    c.in_default-switch-2.not-Some)
    (none_of (NoSwitch w (codes "anchors=")) c.switch-4.result c.switch-4.ensures.none
    c.in_default-switch-3.not-Some)
    (none_of (NoSwitch w (codes "comments=")) c.switch-5.result c.switch-5.ensures.none
    c.in_default-switch-4.not-Some)
