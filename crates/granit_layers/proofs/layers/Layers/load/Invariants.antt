use Rattle.granit_layers.proofs.SendLemmas.{SentFirst}
use Rattle.granit_layers.proofs.layers.Layers.load.Given as goal

abbrev pub invariant-events : goal.invariant-events
invariant-events g l =
    SentFirst g.S.StackedParser.steps g.S.StackedParser.offset_of g.S.StackedParser.sets_offset l.multi l._count
    l.fn.self l.self (record {
      events = g.R.SpannedEventReceiver.taken l.fn.recv;
      places = g.R.SpannedEventReceiver.spans
          l.fn.recv;
    })
    (record { events = g.R.SpannedEventReceiver.taken l.recv; places = g.R.SpannedEventReceiver.spans l.recv })
