-- What a stepper gives without memory: the events that wait, and behind the end of the stream none.
use Rattle.std.specs.Prelude.{◌≡◌, true, List, [], ◌∷◌, ◌++◌, Option, None, Some, Result, Ok, Err}
use Rattle.granit_error.specs.Refused.{Refused}
use Rattle.granit_lexemes.specs.PlainEvent.{PlainEvent}
use Rattle.granit_stepper.specs.Stepping.{Stepping, first_events}

-- the start of the stream, if that isn't told yet, and what the parser gave
abbrev pub waiting_events : {I : Type 0} → Stepping I → List PlainEvent
waiting_events s = first_events s.first ++ s.parser.given

-- only these wait, and the start of the stream was told
abbrev pub with_waiting : {I : Type 0} → List PlainEvent → Stepping I → Stepping I
with_waiting es s = record s { parser = record (s.parser) { given = es }; first = None }

-- all is as it was but for the cursor
abbrev pub SameButCursor : {I : Type 0} → (old new : Stepping I) → Type 0
SameButCursor old new = new ≡ record old { scanner = record (old.scanner) { cursor = new.scanner.cursor } }

-- ---- where an event waits

abbrev pub StaysBy : {I X : Type 0} → X → List PlainEvent → Result X Refused → (old new : Stepping I) → Type 0
StaysBy x [] result old new = Unit {0}
StaysBy x (e ∷ es) result old new = (result ≡ Ok x) × (new ≡ old)

-- this is answered where an event of the parser waits, and nothing changes
abbrev pub StaysWaiting : {I X : Type 0} → X → Result X Refused → (old new : Stepping I) → Type 0
StaysWaiting x result old new = StaysBy x old.parser.given result old new

abbrev pub GivesOldestOf : {I X : Type 0} → (X → Option PlainEvent) → List PlainEvent → Result X Refused
    → (old new : Stepping I) → Type 0
GivesOldestOf view [] result old new = Unit {0}
GivesOldestOf view (e ∷ es) (Ok x) old new = (view x ≡ Some e) × (new ≡ with_waiting es old)
GivesOldestOf view (e ∷ es) (Err f) old new = ⊥

-- the first event that waits is given, where one does: it goes, and nothing else changes
abbrev pub GivesFirstWaiting : {I X : Type 0} → (X → Option PlainEvent) → Result X Refused → (old new : Stepping I)
    → Type 0
GivesFirstWaiting view result old new = GivesOldestOf view (waiting_events old) result old new

-- ---- where nothing is left

-- nothing is left to read, to take or to refuse
pub record AllTaken {I : Type 0} (s : Stepping I) : Type 0 where
  pub none_ahead : s.ahead ≡ None
  pub taken : s.scanner.queue ≡ []
  pub ended : s.scanner.ended ≡ true
  pub fine : s.scanner.fault ≡ None

-- this is answered where nothing is left to take, whatever waits, and nothing changes
abbrev pub StaysTaken : {I X : Type 0} → X → Result X Refused → (old new : Stepping I) → Type 0
StaysTaken x result old new = AllTaken old → (result ≡ Ok x) × (new ≡ old)

-- behind the end of the stream: nothing waits either
pub record IsAtEnd {I : Type 0} (s : Stepping I) : Type 0 where
  pub told : s.first ≡ None
  pub given : s.parser.given ≡ []
  pub over : AllTaken s

-- this is answered behind the end, and nothing changes
abbrev pub StaysAtEnd : {I X : Type 0} → X → Result X Refused → (old new : Stepping I) → Type 0
StaysAtEnd x result old new = IsAtEnd old → (result ≡ Ok x) × (new ≡ old)
