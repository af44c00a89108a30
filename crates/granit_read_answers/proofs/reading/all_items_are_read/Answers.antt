use Rattle.granit_reading.proofs.WholeLaw.{all_read_whole, lexed_whole, one_whole}
use Rattle.granit_read_answers.proofs.reading.all_items_are_read.Goals as goal

pub returns-clause-come : goal.returns-clause-come
returns-clause-come c = λ o h items t e. (lexed_whole o h items t e).whole

pub returns-clause-are : goal.returns-clause-are
returns-clause-are c = all_read_whole

pub returns-clause-one : goal.returns-clause-one
returns-clause-one c = one_whole
