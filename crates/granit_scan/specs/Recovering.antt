-- What recovery needs to know of a scanner, and where it then stands.
use Rattle.std.specs.Prelude.{◌≡◌, ◌<◌, ◌^◌, ◌++◌, false, List, Option, Some, None, Result, Ok, Err, IfOk}
use Rattle.granit_base.specs.Place.{Unread}
use Rattle.granit_cursor.specs.Reading.{CameOn, Reading, Stands}
use Rattle.granit_error.specs.FaultKind.{NoMemory}
use Rattle.granit_error.specs.OptionsData.{OptionsData}
use Rattle.granit_error.specs.Refused.{Refused}
use Rattle.granit_input.specs.Origin.{Origin}
use Rattle.granit_lexemes.specs.Here.{Here}
use Rattle.granit_lexemes.specs.Onward.{Onward}
use Rattle.granit_lexemes.specs.Outcome.{Fault}
use Rattle.granit_scan.specs.Marks.{handed, mark_in, proceeded}
use Rattle.granit_scan.specs.Scanning.{ScannerIn, TokenScanning, UnlessFailed, first_tokens}
use Rattle.granit_scan.specs.TokenSteps.{TokenState, token_turn}
use Rattle.granit_scan.specs.TokenViews.{PlainToken}
use Rattle.granit_scanner.specs.Restarts.{finds_start}
use Rattle.granit_steps.specs.Told.{parsers_items}

-- a cursor is where reading stands, or came on from there where a read was refused
abbrev pub CameBy : {I : Type 0} → (I → Unread → Type 0) → Option Fault → Here → Reading I → Type 0
CameBy unread None h r = Stands unread r h
CameBy unread (Some f) h r = CameOn unread h r

-- Whether a call failed or not: where the cursor is, how many lexemes were read, and what was read and not given.
pub record Rests {I : Type 0} (unread : I → Unread → Type 0) (s : TokenScanning I) (m : TokenState) : Type 0 where
  pub came : CameBy unread m.reading.fault m.reading.reader.here s.items.cursor
  pub number : s.items.laid.number ≡ m.reading.reader.laid.number
  pub queue : parsers_items m.reading.reader.laid m.reading.fault m.queue ≡ s.items.queue
  pub pending : m.pending ≡ first_tokens s.first ++ s.writer.waiting

-- turns lead from a state to another
pub data TokenTurnsTo (o : OptionsData) : TokenState → TokenState → Type 0 where
  no_turn : {m : TokenState} → TokenTurnsTo o m m
  turned_on : {m n after : TokenState} {given : Option (List PlainToken)} → TokenTurnsTo o m n
      → token_turn o n ≡ Ok (given, after) → TokenTurnsTo o m after

-- a turn fails in a state to which others lead, and a scanner rests there
pub record ScannerRefusedIn {I : Type 0} (unread : I → Unread → Type 0) (o : OptionsData)
    (s : TokenScanning I) (m : TokenState)
    (e : Refused) : Type 0 where
  pub at : TokenState
  pub turns : TokenTurnsTo o m at
  pub fails : token_turn o at ≡ Err e
  pub rests : Rests unread s at

-- unless memory ran out
abbrev pub ScannerRefusesIn : {I X : Type 0} → (I → Unread → Type 0) → OptionsData → Result X Refused → TokenScanning I
    → TokenState → Type 0
ScannerRefusesIn unread o (Ok x) s m = Unit {0}
ScannerRefusesIn unread o (Err e) s m = (e.kind ≡ NoMemory → ⊥) → ScannerRefusedIn unread o s m e

-- the same for the one turn that is made
abbrev pub RestsIn : {I X : Type 0} → (I → Unread → Type 0) → Result X Refused → TokenScanning I → TokenState → Type 0
RestsIn unread (Ok x) s m = Unit {0}
RestsIn unread (Err e) s m = (e.kind ≡ NoMemory → ⊥) → Rests unread s m

-- a scanner is in the state at the next boundary behind where the cursor stands, onward of where reading does
abbrev pub ScannerProceeds : {I : Type 0} → (I → Unread → Type 0) → (cursor : Reading I)
    → Option PlainToken → TokenState
    → TokenScanning I → Type 0
ScannerProceeds unread cursor t m s =
    (stop : Here) × Onward m.reading.reader.here stop × Stands unread cursor stop
    × ScannerIn unread s (proceeded stop t m)

-- a call of recovery leads there, unless memory runs out or the source fails
abbrev pub ProceedsUnless : {I : Type 0} → (I → Unread → Type 0) → (I → Origin) → Result (Unit {0}) Refused
    → Option PlainToken → TokenState → (old new : TokenScanning I) → Type 0
ProceedsUnless unread origin r t m old new =
    UnlessFailed origin old new (λ e. r ≡ Err e) (IfOk r (λ x. ScannerProceeds unread old.items.cursor t m new))

-- Recovery makes no lexeme: memory never ran out, no token that was handed back or waits is a mark, and reading goes on
-- at an item that waits, at a `...` or at the end; fewer lexemes were read than any text has.
pub record MakesNoLexeme {I : Type 0} (unread : I → Unread → Type 0) (t : Option PlainToken) (s : TokenScanning I)
    : Type 0 where
  pub going : s.wants_memory ≡ false
  pub found : s.items.cursor.lost ≡ false
  pub number : s.items.laid.number < 2 ^ 63
  pub unmarked : mark_in (handed t ++ s.writer.waiting) ≡ None
  pub at : Here
  pub stands : Stands unread s.items.cursor at
  pub no_start : finds_start at s.items.queue ≡ false
