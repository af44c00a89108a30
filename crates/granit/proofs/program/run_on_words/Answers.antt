use Rattle.granit.proofs.ProgramLemmas.{ran_out}
use Rattle.granit.proofs.program.run_on_words.Goals as goal

pub returns-in-Ok : goal.returns-in-Ok
returns-in-Ok g c = record {
  words = c.in-Ok.words;
  are_the_words = c.in-Ok.ensures;
  ran = c.run.ensures.ran;
  tested = c.run.ensures.tested;
}

pub returns-in-Err : goal.returns-in-Err
returns-in-Err g c = ran_out _ _ _
