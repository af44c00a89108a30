use Rattle.granit_reading.proofs.ReadingLaw.{refusal_caused}
use Rattle.granit_read_answers.proofs.causes.every_refusal_of_the_reader_has_its_cause.Goals as goal

pub returns : goal.returns
returns c = refusal_caused
