use Rattle.std.proofs.Common.{◌≡◌}
use Rattle.granit_layers.proofs.StackLemmas.{WithheldTimes}
use Rattle.granit_layers.proofs.layers.Layers.read_event.Given as goal

abbrev pub invariant-turns : goal.invariant-turns
invariant-turns g l = record {
  withheld : WithheldTimes g.S.StackedParser.steps g.S.StackedParser.offset_of g.S.StackedParser.sets_offset
      l.fn.self.emits_comments l._count l.fn.self.layers l.self.layers;
  same : l.self ≡ record (l.fn.self) { layers = l.self.layers };
}
