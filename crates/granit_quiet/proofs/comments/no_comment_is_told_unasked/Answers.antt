use Rattle.granit_quiet.proofs.CommentLaws.{none_told}
use Rattle.granit_quiet.proofs.comments.no_comment_is_told_unasked.Goals as goal

pub returns : goal.returns
returns c = none_told
