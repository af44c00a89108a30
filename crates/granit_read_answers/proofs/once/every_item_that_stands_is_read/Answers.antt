use Rattle.granit_reading.proofs.ReadAnswers.{read_answers, all_read}
use Rattle.granit_read_answers.proofs.once.every_item_that_stands_is_read.Goals as goal

pub returns-clause-one : goal.returns-clause-one
returns-clause-one c = λ o s t items r. read_answers o r

pub returns-clause-all : goal.returns-clause-all
returns-clause-all c = all_read
