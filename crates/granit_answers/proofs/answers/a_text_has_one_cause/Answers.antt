use Rattle.granit_answers.proofs.Caused.{causes_apart, one_stop}
use Rattle.granit_answers.proofs.OneCause.{one_cause, lexemes_or_comments, reading_or_comments}
use Rattle.granit_answers.proofs.answers.a_text_has_one_cause.Goals as goal

pub returns-clause-one : goal.returns-clause-one
returns-clause-one c = one_cause

pub returns-clause-apart : goal.returns-clause-apart
returns-clause-apart c = causes_apart

pub returns-clause-lexemes : goal.returns-clause-lexemes
returns-clause-lexemes c = lexemes_or_comments

pub returns-clause-readings : goal.returns-clause-readings
returns-clause-readings c = reading_or_comments

pub returns-clause-place : goal.returns-clause-place
returns-clause-place c = one_stop
