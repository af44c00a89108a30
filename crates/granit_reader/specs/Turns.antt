-- What a turn of the code gives, by the machine's turn.
use Rattle.std.specs.Prelude.{◌≡◌, Bool, false, List, Option, None, Some, Result, Ok, Err}
use Rattle.granit_error.specs.FaultKind.{NoMemory}
use Rattle.granit_error.specs.Refused.{Refused}
use Rattle.granit_lexemes.specs.Lexeme.{Item}
use Rattle.granit_machine.specs.Reader.{LexState, LexTurn}
use Rattle.granit_machine.specs.ReaderState.{ReaderState}
use Rattle.granit_steps.specs.Steps.{incoming, items_or_none}
use Rattle.granit_cursor.specs.Reading.{coded}

abbrev pub before_turn : Bool → ReaderState → LexState
before_turn ended s = record { reader = s; ended = ended; fault = None }

-- what a turn brings, without the comments that aren't asked for; behind the end nothing
abbrev pub turn_items : (asked : Bool) → Option (List Item) → List Item
turn_items asked x = incoming asked (items_or_none x)

-- the items that a read found are those that a turn brings; where the code refuses, the machine stops before this
-- read, with that fault, unless memory ran out
abbrev pub TurnTo : (asked : Bool) → Result (Unit {0}) Refused → (found : List Item) → (ReaderState → Type 0)
    → (ended : Bool) → (before : ReaderState) → LexTurn → Type 0
TurnTo asked (Ok u) found Lands ended before given =
    (after : ReaderState) × Lands after × (coded (turn_items asked) given ≡ Ok (found, before_turn ended after))
TurnTo asked (Err e) found Lands ended before given =
    (e.kind ≡ NoMemory → ⊥) → given ≡ Ok (None, record { reader = before; ended = false; fault = Some e })
