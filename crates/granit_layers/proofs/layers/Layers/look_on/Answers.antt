use Rattle.std.proofs.Common.{refl}
use Rattle.granit_layers.proofs.StackLemmas.{none_there, peeks_read}
use Rattle.granit_layers.proofs.layers.Layers.look_on.Goals as goal

pub returns-then-is_none-2 : goal.returns-then-is_none-2
returns-then-is_none-2 g c =
    let s = g.S.StackedParser in
    peeks_read s.steps s.offset_of s.sets_offset c.args.self.now.emits_comments c.args.self.now
    c.read_event-next.new.self c.put_ahead.new.self c.read_event-next.result refl
    (rw (← c.self.view_is) (none_there c.self.inside.peeked (c.if-is_none.ensures)))
    (rw (← c.self.view_is) (c.if-is_none-2.ensures))
    c.read_event-next.ensures.reads c.read_event-next.ensures.same c.put_ahead.ensures
