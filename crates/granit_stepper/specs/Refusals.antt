-- In which state of the machine a turn was refused, as far as recovery asks.
use Rattle.std.specs.Prelude.{◌≡◌, ◌<◌, ◌⊎◌, ◌-◌, ◌^◌, ℕ, Bool, true, false, List, [], ◌∷◌, Option, Some, None}
use Rattle.std.specs.Prelude.{Result, Ok, Err}
use Rattle.std.specs.Option.{option_map}
use Rattle.granit_base.specs.Place.{Unread}
use Rattle.granit_error.specs.FaultKind.{NoMemory}
use Rattle.granit_error.specs.OptionsData.{OptionsData}
use Rattle.granit_error.specs.Refused.{Refused}
use Rattle.granit_items.specs.ItemViews.{boxed_lexeme}
use Rattle.granit_lexemes.specs.PlainEvent.{PlainEvent}
use Rattle.granit_machine.specs.Lexing.{FlaggedItem}
use Rattle.granit_refusals.specs.BeforeTurn.{IsBefore, IsBeforeItem, directive_in, mark_of_item}
use Rattle.granit_refusals.specs.declared.refusal.Refusal.{Refusal}
use Rattle.granit_restart.specs.Header.{is_start_expected}
use Rattle.granit_restart.specs.Skipping.{with_pending}
use Rattle.granit_scanner.specs.Scans.{Known, KnownBy, may_front_go}
use Rattle.granit_stepper.specs.Numbers.{GetsLast, RefusesNumber, TurnsTo}
use Rattle.granit_stepper.specs.Stepping.{StandsIn, Stepping, feed_item}
use Rattle.granit_steps.specs.Steps.{StepState, may_go, step_turn}

-- ---- in which state of the machine

-- the parser refused the oldest item
pub record TookFront {I : Type 0} (unread : I → Unread → Type 0) (s : Stepping I) (m : StepState) (r : Refusal)
    (e : Refused) : Type 0 where
  pub item : FlaggedItem
  pub behind : List FlaggedItem
  pub queue : m.queue ≡ item ∷ behind
  pub goes : may_go m.reading item behind ≡ true
  pub takes : r.takes_front ≡ true
  pub front : option_map boxed_lexeme r.front ≡ mark_of_item item.item
  pub directive : r.directive ≡ directive_in item.item
  pub expects : r.expects_start ≡ is_start_expected e
  pub known : Known unread s.scanner m.reading behind

-- a read was refused, and none of the items that are left may go
pub record FailedToRead {I : Type 0} (unread : I → Unread → Type 0) (s : Stepping I) (m : StepState) (r : Refusal)
    (e : Refused) : Type 0 where
  pub waits : may_front_go m.reading m.queue ≡ false
  pub takes : r.takes_front ≡ false
  pub front : r.front ≡ None
  pub known : KnownBy unread (Some e) s.scanner m.reading m.queue

-- the machine's turn fails there, or its anchor gets the greatest number
abbrev pub FailsIn : (renumbered : Bool) → OptionsData → StepState → Refused → Type 0
FailsIn renumbered o m e = (step_turn o m ≡ Err e) ⊎ RefusesNumber renumbered o m e

-- What stands where a turn was refused in a state of the machine, whatever options and number were set since: what
-- waits there waits in the parser still, and the handles that stay over documents are those before the turn. Recovery
-- goes by this alone.
pub record StandsRefused {I : Type 0} (unread : I → Unread → Type 0) (s : Stepping I) (m : StepState) (e : Refused)
    : Type 0 where
  pub refusal : Refusal
  pub is_kept : s.refusal ≡ Some refusal
  pub told : s.first ≡ None
  pub how : TookFront unread s m refusal e ⊎ FailedToRead unread s m refusal e
  pub pending : m.pending ≡ s.parser.given
  pub tags : s.parser.kept ≡ m.parser.kept
  pub before : IsBefore m.parser refusal
  pub numbers : m.parser.count < 2 ^ 64 - 1

-- a turn was refused there, under the options and the number that stand
pub record RefusedIn {I : Type 0} (unread : I → Unread → Type 0) (s : Stepping I) (m : StepState) (e : Refused) : Type 0
  where
    pub stands : StandsRefused unread s m e
    pub fails : FailsIn s.renumbered s.scanner.options (with_pending [] m) e

-- unless memory ran out
abbrev pub RefusesIn : {I X : Type 0} → (I → Unread → Type 0) → Result X Refused → Stepping I → StepState → Type 0
RefusesIn unread (Ok x) s m = Unit {0}
RefusesIn unread (Err e) s m = (e.kind ≡ NoMemory → ⊥) → RefusedIn unread s m e

-- the parser refused an item that was taken: the state is the one behind it
pub record RefusedItem {I : Type 0} (unread : I → Unread → Type 0) (x : FlaggedItem × Option ℕ) (s : Stepping I)
    (m : StepState) (e : Refused) : Type 0 where
  pub refusal : Refusal
  pub is_kept : s.refusal ≡ Some refusal
  pub told : s.first ≡ None
  pub is_before : IsBeforeItem m.parser x.0.item refusal
  pub expects : refusal.expects_start ≡ is_start_expected e
  pub known : Known unread s.scanner m.reading m.queue
  pub fails : (feed_item s.scanner.options x m ≡ Err e)
      ⊎ ((s.renumbered ≡ true) × GetsLast s.scanner.options x m.parser e)
  pub none_given : s.parser.given ≡ []
  pub tags : s.parser.kept ≡ m.parser.kept
  pub numbers : m.parser.count < 2 ^ 64 - 1

abbrev pub RefusesItem : {I X : Type 0} → (I → Unread → Type 0) → FlaggedItem × Option ℕ → Result X Refused
    → Stepping I → StepState → Type 0
RefusesItem unread x (Ok y) s m = Unit {0}
RefusesItem unread x (Err e) s m = (e.kind ≡ NoMemory → ⊥) → RefusedItem unread x s m e

-- the same some turns later
abbrev pub RefusesLater : {I X : Type 0} → (I → Unread → Type 0) → OptionsData → Result X Refused → Stepping I
    → StepState → Type 0
RefusesLater unread o (Ok x) s m = Unit {0}
RefusesLater unread o (Err e) s m =
    (e.kind ≡ NoMemory → ⊥) → (n : StepState) × TurnsTo o m n × RefusedIn unread s n e

-- ---- a turn that was made ahead and refused

-- a turn was made ahead in a state of the machine and refused; what waits is given before
pub record HoldsRefusal {I : Type 0} (unread : I → Unread → Type 0) (s : Stepping I) (m : StepState) : Type 0 where
  pub error : Refused
  pub ahead : s.ahead ≡ Some error
  pub going : s.failed ≡ false
  pub other : error.kind ≡ NoMemory → ⊥
  pub refused : RefusedIn unread s m error

-- a stepper is in a state of the machine, or a turn made ahead was refused there
abbrev pub StandsAhead : {I : Type 0} → (I → Unread → Type 0) → Stepping I → StepState → Type 0
StandsAhead unread s m = StandsIn unread s m ⊎ HoldsRefusal unread s m

abbrev pub TurnsBy : {I : Type 0} → Option Refused → List PlainEvent → Result Bool Refused → (old new : Stepping I)
    → Type 0
TurnsBy None es result old new = Unit {0}
TurnsBy (Some f) [] result old new = (result ≡ Err f) × (new ≡ record old { ahead = None })
TurnsBy (Some f) (e ∷ es) result old new = (result ≡ Ok false) × (new ≡ old)

-- where an event waits no turn is made, and else the refusal is given
abbrev pub TurnsAhead : {I : Type 0} → Result Bool Refused → (old new : Stepping I) → Type 0
TurnsAhead result old new = TurnsBy old.ahead old.parser.given result old new

abbrev pub SettlesBy : {I : Type 0} → Option Refused → List PlainEvent → Result (Unit {0}) Refused
    → (old new : Stepping I) → Type 0
SettlesBy None es result old new = Unit {0}
SettlesBy (Some f) [] result old new = (result ≡ Err f) × (new ≡ record old { ahead = None })
SettlesBy (Some f) (e ∷ es) result old new = (result ≡ Ok tt) × (new ≡ old)

abbrev pub SettlesAhead : {I : Type 0} → Result (Unit {0}) Refused → (old new : Stepping I) → Type 0
SettlesAhead result old new = SettlesBy old.ahead old.parser.given result old new

-- what waits is given, one by one, and then the refusal
abbrev pub GivesAhead : {I X : Type 0} → (I → Unread → Type 0) → (X → Option PlainEvent) → Result X Refused
    → Stepping I → StepState → Type 0
GivesAhead unread view (Ok r) s m = (e : PlainEvent) × (es : List PlainEvent) × (view r ≡ Some e) × (m.pending ≡ e ∷ es)
    × HoldsRefusal unread s (with_pending es m)
GivesAhead unread view (Err e) s m = (m.pending ≡ []) × RefusedIn unread s m e
