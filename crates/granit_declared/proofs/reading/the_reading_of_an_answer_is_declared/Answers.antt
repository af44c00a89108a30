use Rattle.granit_declared.proofs.ReadingSaid.{answer_declared, declared_answer}
use Rattle.granit_declared.proofs.reading.the_reading_of_an_answer_is_declared.Goals as goal

pub returns-clause-declared : goal.returns-clause-declared
returns-clause-declared c = answer_declared

pub returns-clause-answered : goal.returns-clause-answered
returns-clause-answered c = declared_answer
