use Rattle.granit_readings.proofs.ReadOnce.{declared_once, answers_once}
use Rattle.granit_readings.proofs.once.a_text_tells_one_list_of_events.Goals as goal

pub returns-clause-declared : goal.returns-clause-declared
returns-clause-declared c = declared_once

pub returns-clause-answers : goal.returns-clause-answers
returns-clause-answers c = answers_once
