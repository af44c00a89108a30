use Rattle.granit_order.proofs.OrderSteps.{make_order}
use Rattle.granit_order.proofs.order.brackets_and_keys_make_an_order.Goals as goal

pub returns : goal.returns
returns c = make_order
