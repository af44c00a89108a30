use Rattle.granit_order.proofs.OrderSteps.{ordered_fair}
use Rattle.granit_order.proofs.order.lists_in_order_are_fair.Goals as goal

pub returns : goal.returns
returns c = ordered_fair
