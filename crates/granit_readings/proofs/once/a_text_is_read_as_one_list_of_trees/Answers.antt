use Rattle.granit_readings.proofs.ReadOnce.{trees_once, trees_items, answer_trees, declared_trees, trees_answered}
use Rattle.granit_readings.proofs.once.a_text_is_read_as_one_list_of_trees.Goals as goal

pub returns-clause-one : goal.returns-clause-one
returns-clause-one c = trees_once

pub returns-clause-items : goal.returns-clause-items
returns-clause-items c = trees_items

pub returns-clause-of_answer : goal.returns-clause-of_answer
returns-clause-of_answer c = answer_trees

pub returns-clause-of_events : goal.returns-clause-of_events
returns-clause-of_events c = declared_trees

pub returns-clause-answered : goal.returns-clause-answered
returns-clause-answered c = trees_answered
