use Rattle.granit_layers.proofs.StackLemmas.{comes_none, comes_read, comes_seen}
use Rattle.granit_layers.proofs.layers.Layers.take_next.Goals as goal

pub returns-in-Some-clause-gives : goal.returns-in-Some-clause-gives
returns-in-Some-clause-gives g c =
    let s = g.S.StackedParser in
    rw (← c.self.view_is)
    (comes_seen s.steps s.offset_of s.sets_offset c.self.inside.emits_comments c.self.inside.peeked c.self.inside.end _
    c.in-Some.next (cc))

pub returns-then-is_some-clause-gives : goal.returns-then-is_some-clause-gives
returns-then-is_some-clause-gives g c =
    let s = g.S.StackedParser in
    rw (← c.self.view_is)
    (comes_none s.steps s.offset_of s.sets_offset c.self.inside.emits_comments c.self.inside.peeked c.self.inside.end _
    (cc (c.take.ensures.value, c.in_default.is)) (cc (c.is_some.ensures, c.if-is_some.true)))

pub returns-clause-gives : goal.returns-clause-gives
returns-clause-gives g c =
    let s = g.S.StackedParser in
    rw (← c.self.view_is)
    (comes_read s.steps s.offset_of s.sets_offset c.self.inside.emits_comments c.self.inside.peeked c.self.inside.end _
    c.read_event.new.self.layers c.read_event.result (cc (c.take.ensures.value, c.in_default.is))
    (cc (c.is_some.ensures, c.if-is_some.false)) c.read_event.ensures.reads)
