use Rattle.std.proofs.Common.{List, sym, subst}
use Rattle.granit_queue.specs.QueueViews.{queue_view}
use Rattle.granit_queue.specs.Rising.{Rises}
use Rattle.granit_queue.specs.declared.queue.Queued.{Queued}
use Rattle.granit_queue.proofs.RisingLemmas.{behind}
use Rattle.granit_queue.proofs.items.Items.mark.Goals as goal
use Rattle.granit_queue.proofs.items.Items.mark.Goals.{in-Some, in_default}

pub mark_newest-requires : goal.mark_newest-requires
mark_newest-requires c =
    let rises = behind c.self.inside.oldest c.self.inside.behind.items
    (subst (λ (qs : List Queued). Rises (queue_view qs)) (sym c.self.view_is) (c.requires.rising c.if-rises.true)) in
    elim c.match-self.branch [
      | in-Some w ↦ rw w.self-inside-is record { rising = rises }
      | in_default w ↦ rw w.self-inside-is record { rising = rises }
    ]
