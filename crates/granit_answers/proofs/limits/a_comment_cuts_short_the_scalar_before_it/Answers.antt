use Rattle.granit_answers.proofs.CutSaid.{cut_said}
use Rattle.granit_answers.proofs.limits.a_comment_cuts_short_the_scalar_before_it.Goals as goal

pub returns : goal.returns
returns c = cut_said
