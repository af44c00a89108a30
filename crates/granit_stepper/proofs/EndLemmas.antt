-- A stepper that is known to stand where all was read and given is at its end.
use Rattle.std.proofs.Common.{◌≡◌, true, List, [], ◌++◌, Option, Some, None, refl, sym, ◌∙◌}
use Rattle.granit_base.specs.Place.{Mark, Unread}
use Rattle.granit_error.specs.Refused.{Refused}
use Rattle.granit_lexemes.specs.PlainEvent.{PlainEvent}
use Rattle.granit_machine.specs.Lexing.{FlaggedItem}
use Rattle.granit_machine.specs.Reader.{LexState}
use Rattle.granit_scanner.specs.Scans.{KnownBy, Scanning}
use Rattle.granit_stepper.specs.Stepping.{StandsIn, Stepping, first_events}
use Rattle.granit_stepper.specs.Waiting.{IsAtEnd}
use Rattle.granit_steps.specs.Steps.{StepState}

none_waits : (first : Option Mark) (given : List PlainEvent) → first_events first ++ given ≡ []
    → (first ≡ None) × (given ≡ [])
none_waits None given none = (refl, none)
none_waits (Some start) given none = absurd (let clash = none in cc)

module _ {I : Type 0} (unread : I → Unread → Type 0) where
  all_read : (fault : Option Refused) (s : Scanning I) (l : LexState) (q : List FlaggedItem) → s.fault ≡ fault
      → KnownBy unread fault s l q → q ≡ [] → l.ended ≡ true
      → (s.queue ≡ []) × (s.ended ≡ true) × (s.fault ≡ None)
  all_read None s l q fine known none ended = (sym known.3 ∙ none, sym known.1 ∙ ended, fine)
  all_read (Some f) s l q fault known none ended = absurd (let clash = sym known.0 ∙ ended in cc)

  pub stands_at_end : (s : Stepping I) (m : StepState) → StandsIn unread s m → m.pending ≡ [] → m.queue ≡ []
      → m.reading.ended ≡ true → IsAtEnd s
  stands_at_end s m at pending queue ended =
      let waits = none_waits s.first s.parser.given (sym at.pending ∙ pending) in
      let read = all_read s.scanner.fault s.scanner m.reading m.queue refl at.reading queue ended in
      record {
        told = waits.0;
        given = waits.1;
        over = record { none_ahead = at.none_ahead; taken = read.0; ended = read.1; fine = read.2 };
      }
