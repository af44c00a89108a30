-- Anchors for which no number is left.
use Rattle.std.specs.Prelude.{◌≡◌, ◌<◌, ◌⊎◌, ℕ, ◌-◌, ◌^◌, Bool, true, false, List, [], ◌∷◌, Option, Some, None, Result}
use Rattle.std.specs.Prelude.{Ok, Err, nat_le, if◌then◌else◌}
use Rattle.granit_base.specs.Place.{Mark}
use Rattle.granit_base.specs.Written.{Written}
use Rattle.granit_error.specs.FaultKind.{AnchorCountOverflow, NoMemory}
use Rattle.granit_error.specs.OptionsData.{OptionsData}
use Rattle.granit_error.specs.Refused.{Refused}
use Rattle.granit_lexemes.specs.Lexeme.{Anchor, Item, Lexeme, LexemeKind, OfComment, OfLexeme}
use Rattle.granit_lexemes.specs.Outcome.{Fault, Fails, fault_at}
use Rattle.granit_lexemes.specs.PlainEvent.{PlainEvent}
use Rattle.granit_machine.specs.Frames.{ParserState}
use Rattle.granit_machine.specs.Lexing.{FlaggedItem}
use Rattle.granit_machine.specs.Parser.{feed}
use Rattle.granit_stepper.specs.Stepping.{Stepping}
use Rattle.granit_steps.specs.Steps.{StepState, step_turn}

-- ---- in the machine

-- one by one turns lead from a state to another one
pub data TurnsTo (o : OptionsData) : StepState → StepState → Type 0 where
  no_turn : {m : StepState} → TurnsTo o m m
  one_turn : {m next last : StepState} → step_turn o m ≡ Ok (Some [], next) → TurnsTo o next last
      → TurnsTo o m last

-- Turns lead from a state to one where the machine takes an anchor and gives it the greatest number of 64 bits, which
-- no anchor may have: the refusal stands at that anchor's start.
pub record NoNumberLeft (o : OptionsData) (m : StepState) (e : Refused) : Type 0 where
  pub before : StepState
  pub turns : TurnsTo o m before
  pub anchor : Lexeme
  pub name : Written
  pub named : anchor.kind ≡ Anchor name
  pub begins_key : Bool
  pub behind : List FlaggedItem
  pub front : before.queue ≡ record { item = OfLexeme anchor; begins_key = begins_key } ∷ behind
  pub after : StepState
  pub taken : step_turn o before ≡ Ok (Some [], after)
  pub gone : after.queue ≡ behind
  pub last : after.parser.count ≡ 2 ^ 64 - 1
  pub refusal : e ≡ fault_at AnchorCountOverflow anchor.shown.start

-- such a refusal comes only where a number was ever set
abbrev pub RefusesNumber : (renumbered : Bool) → OptionsData → StepState → Refused → Type 0
RefusesNumber renumbered o m e = (renumbered ≡ true) × NoNumberLeft o m e

-- ---- in the code

-- what was returned, seen by a view, is what the machine gives, and it is known where that ends; a refusal is its
-- fault, unless memory ran out, or is one of these
abbrev pub GivesOr : {X Y S : Type 0} → (X → Y) → Result X Refused → (S → Type 0) → Result (Y × S) Fault
    → (Refused → Type 0) → Type 0
GivesOr {S = S} view (Ok x) Lands given Refuses = (after : S) × Lands after × (given ≡ Ok (view x, after))
GivesOr view (Err e) Lands given Refuses = Fails e given ⊎ Refuses e

-- the parser takes an item, an anchor, and gives it the greatest number of 64 bits
pub record GetsLast (o : OptionsData) (x : FlaggedItem × Option ℕ) (p : ParserState) (e : Refused) : Type 0 where
  pub anchor : Lexeme
  pub name : Written
  pub named : anchor.kind ≡ Anchor name
  pub item : x.0.item ≡ OfLexeme anchor
  pub given : List PlainEvent × ParserState
  pub fed : feed o x.0 x.1 p ≡ Ok given
  pub last : given.1.count ≡ 2 ^ 64 - 1
  pub refusal : e ≡ fault_at AnchorCountOverflow anchor.shown.start

abbrev pub is_anchor : LexemeKind → Bool
is_anchor (Anchor name) = true
is_anchor kind = false

abbrev pub start_if : Bool → Mark → Option Mark
start_if true mark = Some mark
start_if false mark = None

-- where an anchor begins, and none of another item
abbrev pub anchor_start : Item → Option Mark
anchor_start (OfLexeme l) = start_if (is_anchor l.kind) l.shown.start
anchor_start (OfComment c) = None

-- the same where so many anchors were read that it may get the greatest number
abbrev pub last_anchor : ℕ → Item → Option Mark
last_anchor count i = if nat_le (2 ^ 64 - 2) count then anchor_start i else None

-- what is told as an anchor's start is one
abbrev pub IsAnchorStart : Option Mark → Item → Type 0
IsAnchorStart None i = Unit {0}
IsAnchorStart (Some start) i = anchor_start i ≡ Some start

-- what is answered where the greatest number was given, by whether a number was ever set and by the anchor that got it
abbrev pub IsNumberless : (renumbered : Bool) → Option Mark → Refused → Type 0
IsNumberless true (Some start) e = e ≡ fault_at AnchorCountOverflow start
IsNumberless true None e = e.kind ≡ NoMemory
IsNumberless false start e = e.kind ≡ NoMemory

-- what was answered, unless the greatest number was given
abbrev pub UnlessNumberless : {I : Type 0} → Stepping I → (fed : Result (Unit {0}) Refused) → Option Mark
    → Result (Unit {0}) Refused → Type 0
UnlessNumberless s fed start (Ok u) = (fed ≡ Ok u) × (s.parser.count < 2 ^ 64 - 1)
UnlessNumberless s fed start (Err e) =
    (fed ≡ Err e) ⊎ ((fed ≡ Ok tt) × (s.parser.count ≡ 2 ^ 64 - 1) × IsNumberless s.renumbered start e)
