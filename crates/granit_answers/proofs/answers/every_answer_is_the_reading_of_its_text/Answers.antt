use Rattle.granit_answers.proofs.Answered.{bare_run, bare_answered}
use Rattle.granit_answers.proofs.OneCause.{answer_reads, reading_answered, unasked_silent}
use Rattle.granit_answers.proofs.answers.every_answer_is_the_reading_of_its_text.Goals as goal
use Rattle.std.proofs.Common.{◌∙◌}

pub returns-clause-answers : goal.returns-clause-answers
returns-clause-answers c = answer_reads

pub returns-clause-readings : goal.returns-clause-readings
returns-clause-readings c = reading_answered

pub returns-clause-unasked : goal.returns-clause-unasked
returns-clause-unasked c = unasked_silent

pub returns-clause-exact : goal.returns-clause-exact
returns-clause-exact c = λ o x items t es off e f r. bare_run o x off ∙ bare_answered o x items t es e f r
