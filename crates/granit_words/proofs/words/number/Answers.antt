use Rattle.granit_words.proofs.WordLemmas.{no_number}
use Rattle.granit_words.proofs.words.number.Goals as goal

pub returns-clause-none : goal.returns-clause-none
returns-clause-none c = no_number c.args.word.now c.args.name.now c.in_ok-behind.field-0.now c.number_of.result
    c.in_ok-behind.ensures.some c.number_of.ensures.none
