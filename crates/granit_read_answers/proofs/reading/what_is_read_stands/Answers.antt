use Rattle.granit_reading.proofs.ReadingLaw.{lexed}
use Rattle.granit_read_answers.proofs.reading.what_is_read_stands.Goals as goal

pub returns : goal.returns
returns c = λ o h items t e. (lexed o h items t e).reached
