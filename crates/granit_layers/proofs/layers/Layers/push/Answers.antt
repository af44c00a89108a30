use Rattle.granit_layers.proofs.StackLemmas.{pushes_first}
use Rattle.granit_layers.proofs.layers.Layers.push.Goals as goal

pub returns-in-None-clause-pushed : goal.returns-in-None-clause-pushed
returns-in-None-clause-pushed g c =
    let r = g.S.StackedParser in
    rw (← c.self.view_is)
    (pushes_first r.offset_of r.sets_offset r.offset_over c.self.inside.top c.self.inside.below.items c.args.parser
    c.args.name c.first.result (cc) c.self.invariant.0 c.first.ensures)
