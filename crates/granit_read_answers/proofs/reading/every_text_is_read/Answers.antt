use Rattle.granit_reading.proofs.ReadingLaw.{lex_answers}
use Rattle.granit_read_answers.proofs.reading.every_text_is_read.Goals as goal

pub returns : goal.returns
returns c = lex_answers
