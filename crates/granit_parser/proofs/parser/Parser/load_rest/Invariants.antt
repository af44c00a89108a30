use Rattle.std.proofs.Common.{◌≡◌, None, false}
use Rattle.granit_cursor.specs.Reading.{Moves}
use Rattle.granit_parser.proofs.LedLemmas.{LedFirst}
use Rattle.granit_parser.proofs.MetLemmas.{Quiet}
use Rattle.granit_parser.proofs.SendLemmas.{SentFirst}
use Rattle.granit_parser.proofs.WantLemmas.{CountsTo}
use Rattle.granit_parser.specs.Recovering.{IsOpen, ParserIn}
use Rattle.granit_recovery.specs.Streams.{ReachedByCalls}
use Rattle.granit_restart.specs.Calls.{Calls}
use Rattle.granit_parser.proofs.parser.Parser.load_rest.Given as goal

abbrev pub invariant-events : goal.invariant-events
invariant-events g l = record {
  sent : SentFirst g.T.Input.unread l.fn.self l.self l.multi
      (record { events = g.R.SpannedEventReceiver.taken l.fn.recv; places = g.R.SpannedEventReceiver.spans l.fn.recv })
      (record { events = g.R.SpannedEventReceiver.taken l.recv; places = g.R.SpannedEventReceiver.spans l.recv });
  led : (c : Calls) → ReachedByCalls l.fn.self.stepper.scanner.options c → IsOpen c
      → ParserIn g.T.Input.unread l.fn.self c
      → LedFirst g.T.Input.unread l.fn.self.stepper.scanner.options l.multi c l.self
      (record {
        events = g.R.SpannedEventReceiver.taken l.fn.recv;
        places = g.R.SpannedEventReceiver.spans l.fn.recv;
      })
      (record { events = g.R.SpannedEventReceiver.taken l.recv; places = g.R.SpannedEventReceiver.spans l.recv });
  counted : CountsTo l._sent
      (record {
        events = g.R.SpannedEventReceiver.taken l.fn.recv;
        places = g.R.SpannedEventReceiver.spans l.fn.recv;
      })
      (record { events = g.R.SpannedEventReceiver.taken l.recv; places = g.R.SpannedEventReceiver.spans l.recv });
  same : l.self.stepper.scanner.options ≡ l.fn.self.stepper.scanner.options;
  renumbered : l.self.stepper.renumbered ≡ l.fn.self.stepper.renumbered;
  given : l.self.given ≡ l.fn.self.given;
  moves : Moves g.T.Input.unread g.T.Input.left g.T.Input.origin l.fn.self.stepper.scanner.cursor
      l.self.stepper.scanner.cursor;
  answered : l.fn.self.answered ≡ false → l.self.answered ≡ false;
  quiet : l.fn.self.peeked ≡ None → Quiet g.T.Input.origin l.fn.self l.self;
}
