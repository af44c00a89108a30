-- Where no memory is wanted.
use Rattle.std.specs.Prelude.{◌≡◌, ◌==◌, Bool, true, false, not, List, [], ◌∷◌, length, Option, Some, None}
use Rattle.std.specs.Prelude.{Result, Ok, Err, IfSome}
use Rattle.granit_error.specs.FaultKind.{holds_text}
use Rattle.granit_error.specs.Refused.{Refused}
use Rattle.granit_lexemes.specs.Lexeme.{Colon, Comma, Dash, LexemeKind, Open, Question}
use Rattle.granit_machine.specs.Laid.{is_in_flow}
use Rattle.granit_machine.specs.Lexing.{FlaggedItem}
use Rattle.granit_scan.specs.Following.{Following}
use Rattle.granit_scan.specs.TokenSteps.{TokenState}
use Rattle.granit_scan.specs.TokenViews.{PlainToken}
use Rattle.granit_scanner.specs.Scans as scans
use Rattle.granit_scanner.specs.Scans.{is_done}
use Rattle.granit_steps.specs.Steps.{is_over}
use Rattle.granit_steps.specs.Told.{parsers_items}

-- ---- no turn is due

-- where a token waits, a call gives; where none does, no item waits and reading is over, it gives, or fails with the
-- fault that is kept; and else nothing is said, since a turn is made
abbrev pub WithoutTurnBy : List PlainToken → List FlaggedItem → (over : Bool) → (kept : Option Refused)
    → (Fails : Refused → Type 0) → (Gives : Type 0) → Type 0
WithoutTurnBy (t ∷ ts) q over kept Fails Gives = Gives
WithoutTurnBy [] (i ∷ is) over kept Fails Gives = Unit {0}
WithoutTurnBy [] [] false kept Fails Gives = Unit {0}
WithoutTurnBy [] [] true None Fails Gives = Gives
WithoutTurnBy [] [] true (Some f) Fails Gives = Fails f

-- of a scanner, where these tokens wait
abbrev pub WithoutTurn : {I : Type 0} → List PlainToken → scans.Scanning I → (Fails : Refused → Type 0)
    → (Gives : Type 0) → Type 0
WithoutTurn ts s Fails Gives = WithoutTurnBy ts s.queue (is_done s) s.fault Fails Gives

-- of the machine
abbrev pub StateWithoutTurn : TokenState → (Fails : Refused → Type 0) → (Gives : Type 0) → Type 0
StateWithoutTurn m Fails Gives =
    WithoutTurnBy m.pending (parsers_items m.reading.reader.laid m.reading.fault m.queue) (is_over m.reading)
    m.reading.fault Fails Gives

-- reading is over: its fault is given, or it is told that nothing is left
abbrev pub AnswersKept : Option Refused → Result Bool Refused → Type 0
AnswersKept None r = r ≡ Ok false
AnswersKept (Some f) r = r ≡ Err f

-- ---- a lexeme is written

-- whether of one more bracket it is told whether a single pair is open in it
abbrev pub tells_one_more : LexemeKind → List Bool → Bool
tells_one_more (Open bracket) pairs = true
tells_one_more Comma pairs = length pairs == 0
tells_one_more kind pairs = false

-- whether one more bracket may be open behind it, or the column of an entry
abbrev pub may_leave_more : LexemeKind → Following → Bool
may_leave_more Dash f = not (is_in_flow f.laid)
may_leave_more Question f = not (is_in_flow f.laid)
may_leave_more Colon f = not (is_in_flow f.laid)
may_leave_more kind f = tells_one_more kind f.pairs

-- ---- an error that holds no text

-- its copy is kept
abbrev pub KeepsWhole : Refused → Option Refused → Type 0
KeepsWhole e kept = e.sources ≡ [] → holds_text e.kind ≡ false → kept ≡ Some e

-- it is told
abbrev pub TellsWhole : Option Refused → Result (Unit {0}) Refused → Type 0
TellsWhole kept r = IfSome kept (λ e. e.sources ≡ [] → holds_text e.kind ≡ false → r ≡ Err e)
