use Rattle.granit_answers.proofs.PrefixSaid.{prefix_said}
use Rattle.granit_answers.proofs.limits.byte_order_marks_may_stand_before_documents.Goals as goal

pub returns : goal.returns
returns c = prefix_said
