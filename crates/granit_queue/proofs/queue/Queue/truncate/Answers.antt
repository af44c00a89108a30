use Rattle.std.proofs.Common.{List, sym, subst}
use Rattle.granit_queue.specs.QueueViews.{queue_view}
use Rattle.granit_queue.specs.Rising.{NumbersRise}
use Rattle.granit_queue.specs.declared.queue.Queued.{Queued}
use Rattle.granit_queue.proofs.RisingLemmas.{cut}
use Rattle.granit_queue.proofs.queue.Queue.truncate.Goals as goal

pub invariant_of-self : goal.invariant_of-self
invariant_of-self c =
    subst (λ (qs : List Queued). NumbersRise c.self.inside.numbers (queue_view qs)) (sym c.truncate.ensures)
    (cut c.self.inside.numbers c.args.count c.self.inside.items c.self.invariant)
