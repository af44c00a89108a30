use Rattle.std.proofs.Common.{◌∙◌, ap}
use Rattle.granit_items.specs.ItemViews.{boxed_lexeme}
use Rattle.granit_queue.specs.QueueViews.{queued_view}
use Rattle.granit_restart.specs.Restart.{read_boundary}
use Rattle.granit_scanner.proofs.RestartLemmas.{read_here, read_none, read_past}
use Rattle.granit_scanner.proofs.restart.queued_boundary.Goals as goal

pub returns-in-None : goal.returns-in-None
returns-in-None g c = λ h k. read_none h c.items.queue c.in-None.ensures.front ∙ c.items.invariant h k

pub returns-in-Some-boundary_in : goal.returns-in-Some-boundary_in
returns-in-Some-boundary_in g c = λ h k.
    read_here h c.items.queue (queued_view c.in-Some.queued) (boxed_lexeme c.in-Some-boundary_in.boundary)
    c.in-Some.ensures.front (c.in-Some-boundary_in.ensures h k)
    ∙ c.items.invariant h k

pub items-preserved : goal.items-preserved
items-preserved g c = λ h k.
    ap (read_boundary h) c.pop.ensures.rest
    ∙ read_past h c.items.queue (queued_view c.in-Some.queued) c.in-Some.ensures.front (c.in_default.ensures h k)
    ∙ c.items.invariant h k
