use Rattle.granit_quiet.proofs.EndTelling.{run_told}
use Rattle.granit_quiet.proofs.comments.the_comments_of_a_text_are_told.Goals as goal

pub returns : goal.returns
returns c = run_told
