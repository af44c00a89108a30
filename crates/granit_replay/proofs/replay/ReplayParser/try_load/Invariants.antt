use Rattle.std.proofs.Common.{◌≡◌, length}
use Rattle.granit_replay.proofs.SendLemmas.{SentFirst}
use Rattle.granit_replay.proofs.replay.ReplayParser.try_load.Given as goal

abbrev pub invariant-events : goal.invariant-events
invariant-events g l = record {
  sent : SentFirst l.multi l.fn.self l.self
      (record {
        events = g.R.TrySpannedEventReceiver.taken l.fn.recv;
        places = g.R.TrySpannedEventReceiver.spans l.fn.recv;
      })
      (record { events = g.R.TrySpannedEventReceiver.taken l.recv; places = g.R.TrySpannedEventReceiver.spans l.recv });
  errors : g.R.TrySpannedEventReceiver.errors l.recv ≡ g.R.TrySpannedEventReceiver.errors l.fn.recv;
}

abbrev pub decreases-events : goal.decreases-events
decreases-events g l = length l.self.events
