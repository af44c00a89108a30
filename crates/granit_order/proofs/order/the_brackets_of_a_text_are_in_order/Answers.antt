use Rattle.granit_order.proofs.BracketsKept.{brackets_kept}
use Rattle.granit_order.proofs.order.the_brackets_of_a_text_are_in_order.Goals as goal

pub returns : goal.returns
returns c = brackets_kept
