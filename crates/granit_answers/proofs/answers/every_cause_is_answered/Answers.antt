use Rattle.granit_answers.proofs.OneCause.{cause_answered, no_cause}
use Rattle.granit_answers.proofs.answers.every_cause_is_answered.Goals as goal

pub returns-clause-answered : goal.returns-clause-answered
returns-clause-answered c = cause_answered

pub returns-clause-none : goal.returns-clause-none
returns-clause-none c = no_cause
