-- What a parser gives without memory: an event that waits in its stepper, behind the end of the stream none, and a
-- fault behind turns that take no memory.
use Rattle.std.specs.Prelude.{◌≡◌, ◌⊎◌, false, List, [], ◌∷◌, None, Some, Result, Ok, Err}
use Rattle.granit_error.specs.Refused.{Refused}
use Rattle.granit_event.specs.Events.{plain_event}
use Rattle.granit_input.specs.Origin.{Origin}
use Rattle.granit_layers.specs.Turning.{Next}
use Rattle.granit_lexemes.specs.PlainEvent.{PlainEvent}
use Rattle.granit_sourced.specs.Sources.{IsSourceError, TellsSource}
use Rattle.granit_stepper.specs.Stepping.{Stepping}
use Rattle.granit_stepper.specs.TurnMemory.{FailsFree}
use Rattle.granit_stepper.specs.Waiting.{IsAtEnd, SameButCursor, waiting_events, with_waiting}

abbrev pub TakesFirstOf : {I : Type 0} → List PlainEvent → Next → (old new : Stepping I) → Type 0
TakesFirstOf [] r old new = Unit {0}
TakesFirstOf (e ∷ es) None old new = ⊥
TakesFirstOf (e ∷ es) (Some (Ok x)) old new = (plain_event x ≡ e) × SameButCursor (with_waiting es old) new
TakesFirstOf (e ∷ es) (Some (Err f)) old new = ⊥

-- the first event that waits is given, where one does: it goes, and nothing else changes but the cursor
abbrev pub TakesFirst : {I : Type 0} → Next → (old new : Stepping I) → Type 0
TakesFirst r old new = TakesFirstOf (waiting_events old) r old new

-- where the turns that come take no memory and end in a fault, that is given
abbrev pub FailsAtOnce : {I : Type 0} → Next → Stepping I → Type 0
FailsAtOnce r s = (e : Refused) → FailsFree s e → r ≡ Some (Err e)

-- Where no call failed, an event that waits is given, none behind the end of the stream, and where none waits the fault
-- of turns that take no memory, unless the error of the source comes in its place: memory isn't wanted there.
pub record GivesAtOnce {I : Type 0} (origin : I → Origin) (old : Stepping I) (r : Next) (new : Stepping I) : Type 0
  where
    pub waiting : old.failed ≡ false → TakesFirst r old new ⊎ TellsSource origin r new.scanner.cursor
    pub ended : old.failed ≡ false → IsAtEnd old
        → ((r ≡ None) × SameButCursor old new) ⊎ TellsSource origin r new.scanner.cursor
    pub free : old.failed ≡ false → waiting_events old ≡ []
        → FailsAtOnce r old ⊎ TellsSource origin r new.scanner.cursor

-- the same of all events at once: behind the end of the stream there are none
abbrev pub GathersNone : {I V : Type 0} → (I → Origin) → Result V Refused → (V → List PlainEvent) → Stepping I → Type 0
GathersNone origin (Ok v) view new = view v ≡ []
GathersNone origin (Err e) view new = IsSourceError (origin new.scanner.cursor.input) new.scanner.cursor.place e
