use Rattle.granit_comments.proofs.Told.{comments_told}
use Rattle.granit_comments.proofs.comments.answers_tell_the_comments.Goals as goal

pub returns : goal.returns
returns c = comments_told
