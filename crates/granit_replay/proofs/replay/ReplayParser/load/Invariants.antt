use Rattle.std.proofs.Common.{length}
use Rattle.granit_replay.proofs.SendLemmas.{SentFirst}
use Rattle.granit_replay.proofs.replay.ReplayParser.load.Given as goal

abbrev pub invariant-events : goal.invariant-events
invariant-events g l =
    SentFirst l.multi l.fn.self l.self
    (record { events = g.R.SpannedEventReceiver.taken l.fn.recv; places = g.R.SpannedEventReceiver.spans l.fn.recv })
    (record { events = g.R.SpannedEventReceiver.taken l.recv; places = g.R.SpannedEventReceiver.spans l.recv })

abbrev pub decreases-events : goal.decreases-events
decreases-events g l = length l.self.events
