use Rattle.granit_reading.proofs.Deciding.{layout_is, layout_same}
use Rattle.granit_read_answers.proofs.tests.the_layout_of_a_scalar_is_declared.Goals as goal

pub returns-clause-is : goal.returns-clause-is
returns-clause-is c = layout_is

pub returns-clause-one : goal.returns-clause-one
returns-clause-one c = λ o column l d p. layout_same o column l p
