use Rattle.std.proofs.Common.{◌≡◌}
use Rattle.granit_layers.proofs.SendLemmas.{SentFirst}
use Rattle.granit_layers.proofs.layers.Layers.try_load.Given as goal

abbrev pub invariant-events : goal.invariant-events
invariant-events g l = record {
  sent : SentFirst g.S.StackedParser.steps g.S.StackedParser.offset_of g.S.StackedParser.sets_offset l.multi l._count
      l.fn.self l.self (record {
        events = g.R.TrySpannedEventReceiver.taken l.fn.recv;
        places =
            g.R.TrySpannedEventReceiver.spans l.fn.recv;
      })
      (record { events = g.R.TrySpannedEventReceiver.taken l.recv; places = g.R.TrySpannedEventReceiver.spans l.recv });
  errors : g.R.TrySpannedEventReceiver.errors l.recv ≡ g.R.TrySpannedEventReceiver.errors l.fn.recv;
}
