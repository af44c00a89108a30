use Rattle.granit_read_answers.proofs.Misspelt.{cause_refused}
use Rattle.granit_read_answers.proofs.causes.every_cause_of_the_reader_is_refused.Goals as goal

pub returns : goal.returns
returns c = λ o s kind m p. cause_refused o s p
