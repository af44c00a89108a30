use Rattle.granit_read_answers.proofs.Misspelt.{one_refusal, nothing_read}
use Rattle.granit_read_answers.proofs.causes.one_cause_of_the_reader.Goals as goal

pub returns-clause-one : goal.returns-clause-one
returns-clause-one c = λ o s kind other m n p q. one_refusal o s p q

pub returns-clause-none : goal.returns-clause-none
returns-clause-none c = λ o s t kind m items p q. nothing_read o s t p q
