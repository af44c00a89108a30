use Rattle.granit_reading.proofs.ReadAnswers.{one_read, one_list}
use Rattle.granit_read_answers.proofs.once.one_reading_of_lexemes.Goals as goal

pub returns-clause-reads : goal.returns-clause-reads
returns-clause-reads c = λ o s t u xs ys p q. one_read o p q

pub returns-clause-lists : goal.returns-clause-lists
returns-clause-lists c = λ o s t u xs ys p q. one_list o p q
