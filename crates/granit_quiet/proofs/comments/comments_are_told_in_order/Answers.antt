use Rattle.granit_quiet.proofs.TellStream.{items_told}
use Rattle.granit_quiet.proofs.comments.comments_are_told_in_order.Goals as goal

pub returns : goal.returns
returns c = items_told
