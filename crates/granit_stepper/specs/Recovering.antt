-- Where a stepper goes on behind a refusal, and what is dropped and looked at.
use Rattle.std.specs.Prelude.{◌≡◌, ◌⊎◌, ℕ, Bool, true, false, List, [], Option, Some, None, Result, Ok}
use Rattle.granit_base.specs.Place.{Unread}
use Rattle.granit_cursor.specs.Reading.{Reading, Stands}
use Rattle.granit_error.specs.FaultKind.{NoMemory}
use Rattle.granit_error.specs.OptionsData.{OptionsData}
use Rattle.granit_error.specs.Refused.{Refused}
use Rattle.granit_lexemes.specs.Here.{Here}
use Rattle.granit_lexemes.specs.Onward.{Onward}
use Rattle.granit_lexemes.specs.PlainEvent.{Comment, DocumentEnd, EventKind, PlainEvent, StreamEnd}
use Rattle.granit_restart.specs.Ahead.{AheadOf}
use Rattle.granit_restart.specs.Header.{is_directives}
use Rattle.granit_restart.specs.Looking.{Look, look_ahead, look_by, turn_ahead}
use Rattle.granit_restart.specs.Restart.{behind_fault}
use Rattle.granit_restart.specs.Skipping.{Ahead, AtStreamEnd, BehindDocument, Ended, Failed, NoEnd, SkipEnd, Stops}
use Rattle.granit_restart.specs.Skipping.{ahead, ends_before, restarted, skip_by_turns, skipped_fault, with_pending}
use Rattle.granit_stepper.specs.Numbers.{RefusesNumber}
use Rattle.granit_stepper.specs.Refusals.{HoldsRefusal, RefusedIn, StandsAhead}
use Rattle.granit_stepper.specs.Stepping.{StandsIn, Stepping}
use Rattle.granit_stepper.specs.declared.recovery.Front.{Front}
use Rattle.granit_stepper.specs.declared.recovery.Front.TheVariants as fronts
use Rattle.granit_steps.specs.Steps.{StepState, step_turn}

-- ---- what waits

-- what stands first among events, as far as recovery asks
abbrev pub front_kind : EventKind → Front
front_kind (Comment text placement) = fronts.Comment
front_kind DocumentEnd = fronts.DocumentEnd
front_kind StreamEnd = fronts.StreamEnd
front_kind kind = fronts.Another

abbrev pub front_in : Option PlainEvent → Front
front_in None = fronts.None
front_in (Some e) = front_kind e.kind

-- events were dropped up to behind the end of a document, or to that of the stream; whether one is there
abbrev pub DropsTo : Ahead → Bool → List PlainEvent → Type 0
DropsTo NoEnd found es = (found ≡ false) × (es ≡ [])
DropsTo (BehindDocument left) found es = (found ≡ true) × (es ≡ left)
DropsTo (AtStreamEnd left) found es = (found ≡ true) × (es ≡ left)

-- ---- where reading goes on

-- the place where a cursor stands, onward of where the machine reads
abbrev pub StopsAt : {I : Type 0} → (I → Unread → Type 0) → Reading I → StepState → Here → Type 0
StopsAt unread cursor m stop = Onward m.reading.reader.here stop × Stands unread cursor stop

-- It goes on at the next boundary behind where the cursor stood; whether a `---` comes next is told.
abbrev pub RestartsIn : {I : Type 0} → (I → Unread → Type 0) → (cursor : Reading I) → Bool → Stepping I → StepState
    → Type 0
RestartsIn unread cursor starts s m =
    (stop : Here) × StopsAt unread cursor m stop × (starts ≡ (behind_fault stop m).0)
    × StandsIn unread s (behind_fault stop m).1

-- ---- what is dropped

-- turns lead from a state to another, in front of each of which, and behind the last, what waits is dropped and holds
-- no end
pub data DropsOn (o : OptionsData) : StepState → StepState → Type 0 where
  drops_here : {m : StepState} → ahead m.pending ≡ NoEnd → DropsOn o m (with_pending [] m)
  drops_turn : {m next last : StepState} {es : List PlainEvent} → ahead m.pending ≡ NoEnd
      → step_turn o (with_pending [] m) ≡ Ok (Some es, next) → DropsOn o next last → DropsOn o m last

-- where what is dropped ends: the machine's end, or an anchor on the way got the greatest number
abbrev pub Skips : {I : Type 0} → (I → Unread → Type 0) → OptionsData → (passed : Bool) → Stepping I → StepState
    → Type 0
Skips unread o true s m = (n : StepState) × (skip_by_turns o m ≡ Ended n) × StandsAhead unread s n
Skips unread o false s m =
    (n : StepState) × (e : Refused) × DropsOn o m n
    × ((skip_by_turns o m ≡ Failed e n) ⊎ RefusesNumber s.renumbered o n e)
    × RefusedIn unread s n e

-- a refusal on the way: it is the next document's, and kept, or the open document's
abbrev pub MetIn : {I : Type 0} → (I → Unread → Type 0) → Refused → Stepping I → StepState → (ends : Bool) → Type 0
MetIn unread e s m true = (ends_before m e ≡ true) × (s.ahead ≡ Some e) × (s.failed ≡ false)
    × (e.kind ≡ NoMemory → ⊥) × RefusedIn unread s m e
MetIn unread e s m false = (ends_before m e ≡ false) × RefusedIn unread s m e

-- a place to which the cursor came where the machine's skipping failed, if it did
abbrev pub StopsBehind : SkipEnd → Here → Type 0
StopsBehind (Ended n) stop = Unit {0}
StopsBehind (Failed e n) stop = Onward n.reading.reader.here stop

-- the document behind directives that were refused is dropped as the machine does, by where a refused read stopped,
-- unless an anchor of it got the greatest number, wherever the cursor then stood
abbrev pub SkipsHeader : {I : Type 0} → (I → Unread → Type 0) → OptionsData → Stepping I → StepState → Type 0
SkipsHeader {I = I} unread o s m =
    ((stop : Here) × StopsBehind (skip_by_turns o m) stop × StandsAhead unread s (restarted stop (skip_by_turns o m)))
    ⊎ ((n : StepState) × (e : Refused) × DropsOn o m n × RefusesNumber s.renumbered o n e
    × ((cursor : Reading I) × (starts : Bool) × RestartsIn unread cursor starts s n))

-- Where it goes on behind a refusal: as the machine does, by where refused reads stopped, unless an anchor of the
-- document that is dropped got the greatest number. The first of them stopped where the cursor stood.
abbrev pub SkipsFault : {I : Type 0} → (I → Unread → Type 0) → OptionsData → (cursor : Reading I) → Refused
    → Stepping I → StepState → Type 0
SkipsFault {I = I} unread o cursor e s m =
    ((stops : Stops) × StopsAt unread cursor m stops.first
    × StopsBehind (skip_by_turns o (behind_fault stops.first m).1) stops.second
    × StandsAhead unread s (skipped_fault o stops e m))
    ⊎ ((stop : Here) × StopsAt unread cursor m stop × (n : StepState) × (f : Refused)
    × DropsOn o (behind_fault stop m).1 n × RefusesNumber s.renumbered o n f
    × ((later : Reading I) × (starts : Bool) × RestartsIn unread later starts s n))

-- the same of a document, or of what is left of the open one, wherever the cursor stood when that was refused
abbrev pub SkipsDocument : {I : Type 0} → (I → Unread → Type 0) → OptionsData → Stepping I → StepState → Type 0
SkipsDocument {I = I} unread o s m =
    ((n : StepState) × (skip_by_turns o m ≡ Ended n) × StandsAhead unread s n)
    ⊎ ((n : StepState) × (e : Refused) × DropsOn o m n
    × ((skip_by_turns o m ≡ Failed e n) ⊎ RefusesNumber s.renumbered o n e)
    × ((cursor : Reading I) × SkipsFault unread o cursor e s n))

-- ---- what is looked at

-- a turn made ahead took an anchor and gave it the greatest number, where what waits is all comments
abbrev pub AheadLacksNumber : {I : Type 0} → (I → Unread → Type 0) → OptionsData → Stepping I → StepState → Type 0
AheadLacksNumber unread o s m =
    (e : Refused) × RefusesNumber s.renumbered o (with_pending [] m) e × HoldsRefusal unread s m

-- Behind what waits, all of it comments: the look goes on behind a turn, or it ends.
abbrev pub LooksOn : {I : Type 0} → (I → Unread → Type 0) → OptionsData → Option Bool → Stepping I → StepState → Type 0
LooksOn unread o None s m = (n : StepState) × (given : List PlainEvent) × StandsIn unread s n
    × (is_directives m.parser.stage ≡ false) × (turn_ahead o m ≡ Ok (Some given, n))
    × (is_directives n.parser.stage ≡ false)
LooksOn unread o (Some follows) s m =
    ((n : StepState) × StandsAhead unread s n × ((later : StepState → Look) → look_by o later m None ≡ (Ok follows, n)))
    ⊎ ((follows ≡ true) × AheadLacksNumber unread o s m)

-- the machine's answer and the state behind its turns; a refusal is its refusal, unless memory ran out
abbrev pub Looks : {I : Type 0} → (I → Unread → Type 0) → OptionsData → (room : ℕ) → Result Bool Refused → Stepping I
    → StepState → Type 0
Looks unread o room result s m =
    (((look_ahead o room m).0 ≡ result) × StandsAhead unread s (look_ahead o room m).1)
    ⊎ ((result ≡ Ok true) × ((n : StepState) × AheadOf o m n × AheadLacksNumber unread o s n))
