use Rattle.granit_answers.proofs.OneCause.{reading_or_cause}
use Rattle.granit_answers.proofs.answers.every_text_has_a_reading_or_a_cause.Goals as goal

pub returns : goal.returns
returns c = reading_or_cause
