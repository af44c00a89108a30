use Rattle.granit_words.proofs.WordLemmas.{no_switch_text}
use Rattle.granit_words.proofs.words.switch.Goals as goal

pub returns-else-eq-2-clause-none : goal.returns-else-eq-2-clause-none
returns-else-eq-2-clause-none c = no_switch_text c.args.word.now c.args.name.now c.in_ok-value.value.now c.eq.result
    c.eq-else-eq.result c.in_ok-value.ensures.some c.eq.ensures c.if-eq.false c.eq-else-eq.ensures c.if-eq-2.false
