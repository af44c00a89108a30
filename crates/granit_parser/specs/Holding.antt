-- A parser between its calls where a refusal waits, and the option or the number was set since it was met.
use Rattle.std.specs.Prelude.{◌≡◌, ◌⊎◌, ◌+◌, ℕ, Bool, true, false, if◌then◌else◌, List, [], ◌∷◌, Some, None, Ok, Err}
use Rattle.granit_base.specs.Place.{Unread}
pub use Rattle.granit_chains.specs.Chains.{keeping_tags}
use Rattle.granit_error.specs.OptionsData.{OptionsData}
use Rattle.granit_event.specs.Events.{plain_event}
use Rattle.granit_lexemes.specs.Outcome.{Fault}
use Rattle.granit_lexemes.specs.PlainEvent.{PlainEvent}
use Rattle.granit_parser.specs.Parsing.{Next, Parsing}
use Rattle.granit_recovery.specs.Streams.{EarlyOf, ReachedByCalls}
use Rattle.granit_restart.specs.Calls.{Calls}
use Rattle.granit_restart.specs.Recovery.{comment_count}
use Rattle.granit_restart.specs.Skipping.{Ended, SkipEnd, with_pending}
use Rattle.granit_restart.specs.Turned.{with_count}
use Rattle.granit_stepper.specs.Holding.{HoldsFault, held_skip}
use Rattle.granit_stepper.specs.Numbers.{RefusesNumber}
use Rattle.granit_stepper.specs.Refusals.{FailsIn}
use Rattle.granit_stepper.specs.Stepping.{Stepping}
use Rattle.granit_steps.specs.Steps.{StepState}

-- ---- what waits

-- what was looked at, and then what waits in the stepper, is what waits in that state; a refusal of its turn comes next
abbrev pub WaitsBehind : {I : Type 0} → (I → Unread → Type 0) → Next → Stepping I → StepState → Fault → Type 0
WaitsBehind unread None s m f = HoldsFault unread s m f
WaitsBehind unread (Some (Ok x)) s m f =
    (es : List PlainEvent) × (m.pending ≡ plain_event x ∷ es) × HoldsFault unread s (with_pending es m) f
WaitsBehind unread (Some (Err e)) s m f = ⊥

-- ---- why it waits

-- Calls led there with handles that stayed or not, and behind a number, that need not stand any more; there the turn
-- fails, or its anchor would get the greatest number. Behind the end of the stream calls lead nowhere.
pub record FailsThere (renumbered : Bool) (o : OptionsData) (c : Calls) (f : Fault) : Type 0 where
  pub keep : Bool
  pub count : ℕ
  pub reached : c.over ≡ false
      → ReachedByCalls (keeping_tags keep o) (record c { steps = with_count count c.steps })
  pub fails : FailsIn renumbered (keeping_tags keep o) (with_pending [] (with_count count c.steps)) f

-- ---- where a parser is

-- A parser holds a refusal behind what waits. Nothing is told of what a turn does under the option and the number that
-- stand.
pub record ParserHolds {I : Type 0} (unread : I → Unread → Type 0) (p : Parsing I) (c : Calls) (f : Fault) : Type 0
  where
    pub over : p.over ≡ c.over
    pub between : p.between ≡ c.between
    pub fault : c.fault ≡ None
    pub refusal : c.refusal ≡ None
    pub waits : WaitsBehind unread p.peeked p.stepper c.steps f
    pub fails : FailsThere p.stepper.renumbered p.stepper.scanner.options c f

-- Another option or number is set where a refusal waits: turns made early under what stood lead to the state that is
-- changed.
pub record HoldsChanged {I : Type 0} (unread : I → Unread → Type 0) (o : OptionsData) (change : StepState → StepState)
    (p : Parsing I) (c : Calls) (f : Fault) : Type 0 where
  pub steps : StepState
  pub early : EarlyOf o c.steps steps
  pub holds : ParserHolds unread p (record c { steps = change steps }) f

-- calls lead to where that refusal was given, unless it says that no number was left
abbrev pub LeadsToFault : (renumbered : Bool) → OptionsData → Calls → (given : Calls) → Fault → Type 0
LeadsToFault renumbered o c given f = c.over ≡ false → ReachedByCalls o given
    ⊎ ((keep : Bool) × (count : ℕ) × RefusesNumber renumbered (keeping_tags keep o) (with_count count c.steps) f)

-- ---- recovery

-- what was looked at stays directly behind a document, unless it is the start of another
abbrev pub held_behind : (stays : Bool) → Fault → StepState → SkipEnd
held_behind true f m = Ended m
held_behind false f m = held_skip f m

-- a comment that was looked at is not counted where it stays
abbrev pub looked_comment : Next → ℕ
looked_comment None = 0
looked_comment (Some (Ok x)) = comment_count (plain_event x).kind
looked_comment (Some (Err e)) = 0

-- what is looked at then
abbrev pub stays_seen : (stays : Bool) → Next → Next
stays_seen true r = r
stays_seen false r = None

abbrev pub held_room : OptionsData → (stays : Bool) → Next → ℕ
held_room o stays r = o.max_buffered_comment_events + (if stays then looked_comment r else 0)

-- calls lead to where the fault that waited counts as given, behind what was dropped
pub record MetFault (o : OptionsData) (n : StepState) (f : Fault) : Type 0 where
  pub calls : Calls
  pub reached : ReachedByCalls o calls
  pub steps : calls.steps ≡ n
  pub fault : calls.fault ≡ Some f
  pub over : calls.over ≡ false
  pub refusal : calls.refusal ≡ None

-- the refusal says that no number was left
abbrev pub FaultLacksNumber : (renumbered : Bool) → OptionsData → Calls → Fault → Type 0
FaultLacksNumber renumbered o c f = (keep : Bool) × (count : ℕ)
    × RefusesNumber renumbered (keeping_tags keep o) (with_pending [] (with_count count c.steps)) f
