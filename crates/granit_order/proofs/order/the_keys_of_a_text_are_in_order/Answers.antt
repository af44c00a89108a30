use Rattle.granit_order.proofs.KeysKept.{keys_kept}
use Rattle.granit_order.proofs.order.the_keys_of_a_text_are_in_order.Goals as goal

pub returns : goal.returns
returns c = keys_kept
