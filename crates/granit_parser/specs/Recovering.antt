-- A parser between its calls, where the machine's calls lead: what contracts on recovery say.
pub use Rattle.granit_chains.specs.Chains.{CallsBetween, ComesOnward, IsOpen, TellsOnce, event_given, fault_given}
pub use Rattle.granit_chains.specs.Chains.{nothing_given, state_left}
use Rattle.std.specs.Prelude.{◌≡◌, ◌⊎◌, ◌||◌, ◌&&◌, not, ℕ, suc, is_some, Bool, true, false, List, [], ◌∷◌, Option}
use Rattle.std.specs.Prelude.{Some, None, Result, Ok, Err, IfOk}
use Rattle.granit_base.specs.Place.{Unread}
use Rattle.granit_cursor.specs.Reading.{GoesOnward, Reading}
use Rattle.granit_error.specs.FaultKind.{NoMemory}
use Rattle.granit_error.specs.OptionsData.{OptionsData}
use Rattle.granit_error.specs.Refused.{Refused}
use Rattle.granit_event.specs.Events.{plain_event}
use Rattle.granit_input.specs.Origin.{Origin}
use Rattle.granit_lexemes.specs.Here.{Here}
use Rattle.granit_lexemes.specs.Onward.{Onward}
use Rattle.granit_lexemes.specs.Outcome.{Fault}
use Rattle.granit_lexemes.specs.PlainEvent.{DocumentEnd, DocumentStart, EventKind, PlainEvent, StreamEnd}
use Rattle.granit_parser.specs.Holding.{FaultLacksNumber, LeadsToFault, MetFault, ParserHolds, WaitsBehind, held_behind}
use Rattle.granit_parser.specs.Holding.{held_room}
use Rattle.granit_parser.specs.Parsing.{Next, Parsing}
use Rattle.granit_receivers.specs.Kept.{IsKept}
use Rattle.granit_seen.specs.Seeing.{seen_kind, seen_starts_document}
use Rattle.granit_seen.specs.declared.seen.Seen.{Seen}
use Rattle.granit_seen.specs.declared.seen.Seen.TheVariants as seens
use Rattle.granit_calls.specs.Asking.{LookTells}
use Rattle.granit_recovery.specs.Streams.{EarlyOf, ReachedByCalls}
use Rattle.granit_restart.specs.Ahead.{AheadOf, is_note}
use Rattle.granit_restart.specs.Calls.{Calls, next_call, noted}
use Rattle.granit_restart.specs.Following.{document_follows}
use Rattle.granit_restart.specs.Recovery.{comment_count, recover, recovered, recovery_answer, resumed}
use Rattle.granit_restart.specs.Restart.{behind_fault}
use Rattle.granit_restart.specs.Skipping as skipping
use Rattle.granit_restart.specs.Skipping.{Ended, SkipEnd, Stops, skip_by_turns, skipped_fault, with_pending}
use Rattle.granit_restart.specs.Turned.{Turned}
use Rattle.granit_sourced.specs.Going.{Failed, GoesWithCalls, SeenNext}
pub use Rattle.granit_sourced.specs.Going.{FailsAt}
use Rattle.granit_sourced.specs.Sources.{IfUnseen, TellsSource}
pub use Rattle.granit_sourced.specs.Sources.{NeverRecovers}
use Rattle.granit_stepper.specs.Holding.{held_follows}
use Rattle.granit_stepper.specs.Numbers.{RefusesNumber}
use Rattle.granit_stepper.specs.Recovering.{DropsOn, StopsAt}
pub use Rattle.granit_stepper.specs.Recovering.{StopsBehind}
use Rattle.granit_stepper.specs.Stepping.{Stepping}
use Rattle.granit_steps.specs.Steps.{StepState, next_event}

-- ---- where a parser is

-- no event was looked at
abbrev pub SeenNone : Next → Type 0
SeenNone None = Unit {0}
SeenNone (Some (Ok x)) = ⊥
SeenNone (Some (Err e)) = Unit {0}

-- nothing, or an event, was looked at; a fault that was looked at counts as given
abbrev pub SeenBy : {I : Type 0} → (I → Unread → Type 0) → Next → Stepping I → Calls → Type 0
SeenBy unread None s c = GoesWithCalls unread s c
SeenBy unread (Some (Ok x)) s c = SeenNext unread s (plain_event x) c
SeenBy unread (Some (Err e)) s c = ⊥

abbrev pub SeenOrFails : {I : Type 0} → (I → Unread → Type 0) → Option Fault → Next → Stepping I → Calls → Type 0
SeenOrFails unread None seen s c = SeenBy unread seen s c
SeenOrFails unread (Some f) seen s c = SeenNone seen × Failed unread s c.steps f

-- a refusal that was looked at and not taken is what recovery answers, where it is refused
abbrev pub GivesSeen : Next → Result Bool Refused → Type 0
GivesSeen None r = Unit {0}
GivesSeen (Some (Ok x)) r = Unit {0}
GivesSeen (Some (Err e)) r = r ≡ Err e

-- recovery itself was refused, which it answers from then on
pub record GaveUp {I : Type 0} (p : Parsing I) (f : Fault) : Type 0 where
  pub seen : p.peeked ≡ None
  pub failed : p.stepper.failed ≡ true
  pub refusal : p.stepper.refusal ≡ None
  pub kept : Refused
  pub given : p.given ≡ Some kept
  pub is_kept : IsKept f kept

abbrev pub AnswersBy : {I : Type 0} → (I → Unread → Type 0) → (refusal : Option Fault) → Parsing I → Calls → Type 0
AnswersBy unread None p c = SeenOrFails unread c.fault p.peeked p.stepper c
AnswersBy unread (Some f) p c = GaveUp p f

-- no call gives an event any more
abbrev pub IsClosed : Calls → Type 0
IsClosed c = ((c.over || is_some c.fault) || is_some c.refusal) ≡ true

-- A parser is where the machine's calls led. Behind the end of the stream no more is asked.
pub record ParserIn {I : Type 0} (unread : I → Unread → Type 0) (p : Parsing I) (c : Calls) : Type 0 where
  pub over : p.over ≡ c.over
  pub between : IsOpen c → p.between ≡ c.between
  pub ended : c.over ≡ true → c.refusal ≡ None
  pub stays : c.over ≡ false → AnswersBy unread c.refusal p c

-- this holds of each state to which calls led, if a parser is there
abbrev pub ForCalls : {I : Type 0} → (I → Unread → Type 0) → Parsing I → (Calls → Type 0) → Type 0
ForCalls unread p Holds = (c : Calls) → ReachedByCalls p.stepper.scanner.options c → ParserIn unread p c → Holds c

-- the same where the next call gives something
abbrev pub ForOpen : {I : Type 0} → (I → Unread → Type 0) → Parsing I → (Calls → Type 0) → Type 0
ForOpen unread p Holds =
    (c : Calls) → ReachedByCalls p.stepper.scanner.options c → IsOpen c → ParserIn unread p c → Holds c

-- ---- what a call gives

-- a call failed in that state
abbrev pub failed_in : StepState → Fault → Calls → Calls
failed_in m f c = record c { steps = m; fault = Some f }

-- a call gives what the machine's call gives, which is never nothing, and leads where that leads
abbrev pub GivesCall : {I : Type 0} → (I → Unread → Type 0) → Next → Parsing I → Calls → Type 0
GivesCall unread None p c = ⊥
GivesCall unread (Some (Ok x)) p c = (d : Calls)
    × (next_call p.stepper.scanner.options c ≡ (Some (Ok (plain_event x)), d)) × ParserIn unread p d
GivesCall unread (Some (Err e)) p c = (e.kind ≡ NoMemory → ⊥) → (m : StepState)
    × FailsAt p.stepper.renumbered p.stepper.scanner.options m c e × ParserIn unread p (failed_in m e c)

-- where a refusal waits: what waits before it comes one by one, and then it, which counts as given
abbrev pub CallGivesHeld : {I : Type 0} → (I → Unread → Type 0) → Next → Parsing I → Calls → Fault → Type 0
CallGivesHeld unread None p c f = ⊥
CallGivesHeld unread (Some (Ok x)) p c f = (es : List PlainEvent) × (c.steps.pending ≡ plain_event x ∷ es)
    × ParserHolds unread p (noted (plain_event x).kind (record c { steps = with_pending es c.steps })) f
CallGivesHeld unread (Some (Err e)) p c f = (c.steps.pending ≡ []) × (e ≡ f)
    × ParserIn unread p (failed_in c.steps f c)
    × LeadsToFault p.stepper.renumbered p.stepper.scanner.options c (failed_in c.steps f c) f

-- what a step of the iterator gives and leaves where the machine's calls led
pub record CallsTo {I : Type 0} (unread : I → Unread → Type 0) (origin : I → Origin) (old : Parsing I) (r : Next)
    (new : Parsing I) : Type 0 where
  pub calls : (c : Calls) → ReachedByCalls old.stepper.scanner.options c → IsOpen c → ParserIn unread old c
      → GivesCall unread r new c ⊎ TellsSource origin r new.stepper.scanner.cursor
  pub closed : (c : Calls) → IsClosed c → ParserIn unread old c → ParserIn unread new c
  pub held : (c : Calls) (f : Fault) → ParserHolds unread old c f
      → CallGivesHeld unread r new c f ⊎ TellsSource origin r new.stepper.scanner.cursor
  pub lost : IfUnseen old.peeked (NeverRecovers origin old.stepper r new.stepper)

-- a look leads nowhere but where it shows a fault, which then counts as given
abbrev pub ShowsCall : {I : Type 0} → (I → Unread → Type 0) → Next → Parsing I → Calls → Type 0
ShowsCall unread None p c = ⊥
ShowsCall unread (Some (Ok x)) p c = ParserIn unread p c
ShowsCall unread (Some (Err e)) p c = (e.kind ≡ NoMemory → ⊥) → (m : StepState)
    × FailsAt p.stepper.renumbered p.stepper.scanner.options m c e × ParserIn unread p (failed_in m e c)

-- where a refusal waits a look shows the first of what waits, or it, which then counts as given
abbrev pub LookShowsHeld : {I : Type 0} → (I → Unread → Type 0) → Next → Parsing I → Calls → Fault → Type 0
LookShowsHeld unread None p c f = ⊥
LookShowsHeld unread (Some (Ok x)) p c f = ParserHolds unread p c f
LookShowsHeld unread (Some (Err e)) p c f = (c.steps.pending ≡ []) × (e ≡ f)
    × ParserIn unread p (failed_in c.steps f c)
    × LeadsToFault p.stepper.renumbered p.stepper.scanner.options c (failed_in c.steps f c) f

-- what a look leaves where the machine's calls led
pub record PeeksIn {I : Type 0} (unread : I → Unread → Type 0) (origin : I → Origin) (old : Parsing I) (r : Next)
    (new : Parsing I) : Type 0 where
  pub calls : (c : Calls) → ReachedByCalls old.stepper.scanner.options c → IsOpen c → ParserIn unread old c
      → (origin new.stepper.scanner.cursor.input).error ≡ None → ShowsCall unread r new c
  pub closed : (c : Calls) → IsClosed c → ParserIn unread old c → ParserIn unread new c
  pub held : (c : Calls) (f : Fault) → ParserHolds unread old c f
      → (origin new.stepper.scanner.cursor.input).error ≡ None → LookShowsHeld unread r new c f
  pub lost : IfUnseen old.peeked (NeverRecovers origin old.stepper r new.stepper)

-- ---- another option, or another number

-- Between calls the state of the machine is changed. What was looked at, or what recovery's look read, was read before:
-- turns made early lead there.
pub record ChangesIn {I : Type 0} (unread : I → Unread → Type 0) (o : OptionsData) (change : StepState → StepState)
    (p : Parsing I) (c : Calls) : Type 0 where
  pub steps : StepState
  pub early : EarlyOf o c.steps steps
  pub stands : ParserIn unread p (record c { steps = change steps })

abbrev pub unchanged : StepState → StepState
unchanged m = m

-- ---- recovery

-- what recovery comes by: events that were looked at, turns by which documents are dropped, restarts behind faults, and
-- turns made ahead
pub data ComesBy (o : OptionsData) (m : StepState) : StepState → Type 0 where
  comes_here : ComesBy o m m
  comes_seen : {n k : StepState} {e : PlainEvent} → ComesBy o m n → next_event o n ≡ Ok (Some e, k) → ComesBy o m k
  comes_dropping : {n k : StepState} → ComesBy o m n → DropsOn o n k → ComesBy o m k
  comes_ended : {n k : StepState} → ComesBy o m n → skip_by_turns o n ≡ Ended k → ComesBy o m k
  -- reads that were refused stopped onward of where reading stood
  comes_behind : {n : StepState} (stops : Stops) (e : Fault) → ComesBy o m n
      → Onward n.reading.reader.here stops.first
      → StopsBehind (skip_by_turns o (behind_fault stops.first n).1) stops.second
      → ComesBy o m (skipped_fault o stops e n)
  comes_anew : {n : StepState} (stop : Here) → ComesBy o m n → Onward n.reading.reader.here stop
      → ComesBy o m (behind_fault stop n).1
  comes_ahead : {n k : StepState} → ComesBy o m n → AheadOf o n k → ComesBy o m k
  comes_bare : {n : StepState} → ComesBy o m n → ComesBy o m (with_pending [] n)

-- an anchor on the way would get the greatest number
abbrev pub MeetsNumber : (renumbered : Bool) → OptionsData → StepState → Type 0
MeetsNumber renumbered o m = (n : StepState) × (e : Refused) × ComesBy o m n × RefusesNumber renumbered o n e

abbrev pub seen_in : Next → Seen
seen_in None = seens.Nothing
seen_in (Some (Ok x)) = seen_kind (plain_event x).kind
seen_in (Some (Err e)) = seens.Nothing

-- what is noted where an event is given: whether the end of a document is the last, comments aside, and whether that of
-- the stream was given
abbrev pub between_behind : EventKind → Bool → Bool
between_behind (DocumentStart explicit version) between = false
between_behind DocumentEnd between = true
between_behind kind between = between

abbrev pub over_behind : EventKind → Bool → Bool
over_behind StreamEnd over = true
over_behind kind over = over

abbrev pub notes_between : Next → Bool → Bool
notes_between None between = between
notes_between (Some (Ok x)) between = between_behind (plain_event x).kind between
notes_between (Some (Err e)) between = between

abbrev pub notes_over : Next → Bool → Bool
notes_over None over = over
notes_over (Some (Ok x)) over = over_behind (plain_event x).kind over
notes_over (Some (Err e)) over = over

-- places to which the cursor came where a turn failed by which a document is dropped, if one did
abbrev pub StopsDropping : OptionsData → Stops → SkipEnd → Type 0
StopsDropping o stops (Ended n) = Unit {0}
StopsDropping o stops (skipping.Failed e n) =
    Onward n.reading.reader.here stops.first × StopsBehind (skip_by_turns o (behind_fault stops.first n).1) stops.second

-- behind a fault that was given the first is where the cursor stands
abbrev pub StopsBy : {I : Type 0} → (I → Unread → Type 0) → (cursor : Reading I) → OptionsData → Stops → Option Fault
    → StepState → Type 0
StopsBy unread cursor o stops None m = StopsDropping o stops (skip_by_turns o m)
StopsBy unread cursor o stops (Some f) m =
    StopsAt unread cursor m stops.first × StopsBehind (skip_by_turns o (behind_fault stops.first m).1) stops.second

-- where refused reads stopped, as far as recovery goes by it
abbrev pub StopsIn : {I : Type 0} → (I → Unread → Type 0) → (cursor : Reading I) → OptionsData → Stops → Calls → Type 0
StopsIn unread cursor o stops c =
    c.over ≡ false → c.refusal ≡ None → StopsBy unread cursor o stops c.fault c.steps

-- what recovery answers and where it leads, by where reads that were refused stopped
abbrev pub Recovers : {I : Type 0} → (I → Unread → Type 0) → (cursor : Reading I) → (looked : Bool)
    → Result Bool Refused → Parsing I → Calls → Type 0
Recovers unread cursor looked r p c = (stops : Stops) × StopsIn unread cursor p.stepper.scanner.options stops c
    × (d : Calls) × (recover p.stepper.scanner.options stops looked c ≡ (r, d)) × ParserIn unread p d

-- the end of the stream that was looked at stays, and nothing changes
abbrev pub SeesEnd : {I : Type 0} → Result Bool Refused → (old new : Parsing I) → Type 0
SeesEnd r old new = (seen_in old.peeked ≡ seens.StreamEnd) × (r ≡ Ok false) × (new ≡ old)

-- recovery is that of the machine's calls, unless an anchor on the way would get the greatest number
abbrev pub Proceeds : {I : Type 0} → (I → Unread → Type 0) → Result Bool Refused → (old new : Parsing I) → Calls
    → Type 0
Proceeds unread r old new c =
    (Recovers unread old.stepper.scanner.cursor (is_some old.peeked) r new c ⊎ SeesEnd r old new)
    ⊎ MeetsNumber new.stepper.renumbered new.stepper.scanner.options c.steps

-- ---- where recovery told of a document and nothing was given since

-- no look comes first
abbrev pub LooksNoMore : {I : Type 0} → Parsing I → Calls → Type 0
LooksNoMore p c = (p.answered ≡ false) ⊎ IsClosed c

-- memory ran out in that look
pub record StarvedLook {I : Type 0} (p : Parsing I) (e : Refused) : Type 0 where
  pub starved : (e.kind ≡ NoMemory → ⊥) → ⊥
  pub failed : p.stepper.failed ≡ true
  pub refusal : p.stepper.refusal ≡ None
  pub given : p.given ≡ None

-- the next event was looked at, or a refusal, which counts as given
abbrev pub ShowsFirst : {I : Type 0} → (I → Unread → Type 0) → Next → Parsing I → Calls → Type 0
ShowsFirst unread None p c = ⊥
ShowsFirst unread (Some (Ok x)) p c = ParserIn unread p c
    × ((after : StepState) × (next_event p.stepper.scanner.options c.steps ≡ Ok (Some (plain_event x), after)))
ShowsFirst unread (Some (Err e)) p c = StarvedLook p e ⊎ ((m : StepState)
    × FailsAt p.stepper.renumbered p.stepper.scanner.options m c e × ParserIn unread p (failed_in m e c))

abbrev pub ProceedsShown : {I : Type 0} → (I → Unread → Type 0) → Next → Result Bool Refused → (looked new : Parsing I)
    → Calls → Type 0
ProceedsShown unread None r p new c = ⊥
ProceedsShown unread (Some (Ok x)) r p new c =
    ((after : StepState) × (next_event p.stepper.scanner.options c.steps ≡ Ok (Some (plain_event x), after)))
    × Proceeds unread r p new c
ProceedsShown unread (Some (Err e)) r p new c = (m : StepState)
    × FailsAt p.stepper.renumbered p.stepper.scanner.options m c e × Proceeds unread r p new (failed_in m e c)

-- Recovery goes on from where a look at the next event led, under the same options: that stays looked at, and a refusal
-- counts as given, unless an anchor on the way would get the greatest number.
abbrev pub ProceedsNext : {I : Type 0} → (I → Unread → Type 0) → Result Bool Refused → (old new : Parsing I) → Calls
    → Type 0
ProceedsNext {I = I} unread r old new c =
    ((p : Parsing I) × GoesOnward unread old.stepper.scanner.cursor p.stepper.scanner.cursor
    × (p.stepper.scanner.options ≡ old.stepper.scanner.options) × (p.stepper.renumbered ≡ old.stepper.renumbered)
    × ProceedsShown unread p.peeked r p new c)
    ⊎ MeetsNumber new.stepper.renumbered new.stepper.scanner.options c.steps

-- an answer is noted; where no document is there, the end of the stream may have been given or looked at
abbrev pub IsNoted : {I : Type 0} → (follows : Bool) → Parsing I → Type 0
IsNoted true p = p.answered ≡ true
IsNoted false p = (p.answered ≡ false) ⊎ ((p.over ≡ true) ⊎ (seen_in p.peeked ≡ seens.StreamEnd))

-- ---- where a refusal waits

-- Where a refusal waits: what waits before it is dropped up to an end, and tells whether another document is there; the
-- refusal waits on, with what is left. Or it is the open document's: recovery is that from where it counts as given.
abbrev pub ProceedsHeldBy : {I : Type 0} → (I → Unread → Type 0) → (room : ℕ) → SkipEnd → Result Bool Refused
    → (old new : Parsing I) → Fault → Type 0
ProceedsHeldBy unread room (Ended n) r old new f =
    (r ≡ held_follows room n) × IfOk r (λ follows. ParserHolds unread new (recovery_answer r (resumed n)).1 f)
ProceedsHeldBy unread room (skipping.Failed e n) r old new f =
    (m : MetFault new.stepper.scanner.options n e) × Proceeds unread r old new m.calls

-- whether what was looked at, or nothing, stays where recovery asks
abbrev pub stays_by : (between : Bool) → Next → Bool
stays_by between r = between && not (seen_starts_document (seen_in r))

-- unless it says that no number was left
abbrev pub ProceedsHeld : {I : Type 0} → (I → Unread → Type 0) → Result Bool Refused → (old new : Parsing I) → Calls
    → Fault → Type 0
ProceedsHeld unread r old new c f =
    (SeesEnd r old new
    ⊎ ProceedsHeldBy unread (held_room old.stepper.scanner.options (stays_by old.between old.peeked) old.peeked)
    (held_behind (stays_by old.between old.peeked) f c.steps) r old new f)
    ⊎ FaultLacksNumber new.stepper.renumbered new.stepper.scanner.options c f

-- Recovery told of a document and nothing was given since: what waits first was looked at, and stays looked at, or the
-- refusal was, which counts as given.
abbrev pub ProceedsHeldShown : {I : Type 0} → (I → Unread → Type 0) → Next → Result Bool Refused
    → (looked new : Parsing I) → Calls → Fault → Type 0
ProceedsHeldShown unread None r p new c f = ⊥
ProceedsHeldShown unread (Some (Ok x)) r p new c f = ParserHolds unread p c f × ProceedsHeld unread r p new c f
ProceedsHeldShown unread (Some (Err e)) r p new c f =
    (c.steps.pending ≡ []) × (e ≡ f) × Proceeds unread r p new (failed_in c.steps f c)

abbrev pub ProceedsHeldNext : {I : Type 0} → (I → Unread → Type 0) → Result Bool Refused → (old new : Parsing I)
    → Calls → Fault → Type 0
ProceedsHeldNext {I = I} unread r old new c f =
    ((p : Parsing I) × GoesOnward unread old.stepper.scanner.cursor p.stepper.scanner.cursor
    × (p.stepper.scanner.options ≡ old.stepper.scanner.options) × (p.stepper.renumbered ≡ old.stepper.renumbered)
    × ProceedsHeldShown unread p.peeked r p new c f)
    ⊎ FaultLacksNumber new.stepper.renumbered new.stepper.scanner.options c f

-- ---- on the way

-- nothing was looked at, and another document is asked for where calls led to directly behind one
abbrev pub asking_document : StepState → Calls
asking_document m = record (resumed m) { between = true }

-- recovery asks there, where so many comments more may be kept
pub record AsksAt (o : OptionsData) (stops : Stops) (looked : Bool) (c : Calls) (extra : ℕ) (m : StepState) : Type 0
  where
    pub recovers : recover o stops looked c ≡ recovered o extra (resumed m)
    pub tells : LookTells o m
    pub comes : ComesBy o c.steps m

-- by the event that was looked at and stays: behind a comment there is room for one fewer, and any other tells
pub data SeenTells (o : OptionsData) (m after : StepState) : EventKind → Type 0 where
  seen_comment : {kind : EventKind} → is_note kind ≡ true
      → ((room : ℕ) → document_follows o (suc room) m ≡ document_follows o room after) → LookTells o after
      → SeenTells o m after kind
  seen_other : {kind : EventKind} → is_note kind ≡ false
      → ((room : ℕ) → document_follows o room m ≡ Ok true) → SeenTells o m after kind

-- the same where nothing, or an event, was looked at and stays
pub record AsksNow {I : Type 0} (unread : I → Unread → Type 0) (stops : Stops) (looked : Bool) (s : Stepping I)
    (c : Calls) : Type 0 where
  pub steps : StepState
  pub asks : AsksAt s.scanner.options stops looked c 0 steps
  pub goes : GoesWithCalls unread s (asking_document steps)
  pub turned : Turned s.scanner.options goes.steps

pub record AsksBefore {I : Type 0} (unread : I → Unread → Type 0) (stops : Stops) (looked : Bool) (s : Stepping I)
    (e : PlainEvent) (c : Calls) : Type 0 where
  pub steps : StepState
  pub asks : AsksAt s.scanner.options stops looked c (comment_count e.kind) steps
  pub seen : SeenNext unread s e (asking_document steps)
  pub turned : Turned s.scanner.options seen.goes.steps
  pub tells : SeenTells s.scanner.options steps seen.steps e.kind

abbrev pub AsksBy : {I : Type 0} → (I → Unread → Type 0) → Stops → (looked : Bool) → Next → Stepping I → Calls → Type 0
AsksBy unread stops looked None s c = AsksNow unread stops looked s c
AsksBy unread stops looked (Some (Ok x)) s c = AsksBefore unread stops looked s (plain_event x) c
AsksBy unread stops looked (Some (Err e)) s c = ⊥

abbrev pub SkipsToAsk : {I : Type 0} → (I → Unread → Type 0) → (cursor : Reading I)
    → (looked : Bool) → Parsing I → Calls
    → Type 0
SkipsToAsk unread cursor looked p c =
    ((stops : Stops) × StopsIn unread cursor p.stepper.scanner.options stops c
    × AsksBy unread stops looked p.peeked p.stepper c)
    ⊎ MeetsNumber p.stepper.renumbered p.stepper.scanner.options c.steps

-- where the answer leads
pub record AnswersIn {I : Type 0} (unread : I → Unread → Type 0) (stops : Stops) (looked : Bool)
    (r : Result Bool Refused) (p : Parsing I) (c : Calls) : Type 0 where
  pub steps : StepState
  pub recovers : recover p.stepper.scanner.options stops looked c ≡ recovery_answer r (resumed steps)
  pub seen : IfOk r (λ follows. SeenBy unread p.peeked p.stepper (recovery_answer r (resumed steps)).1)

abbrev pub Follows : {I : Type 0} → (I → Unread → Type 0) → Stops → (looked : Bool) → Result Bool Refused → Parsing I
    → Calls → Type 0
Follows unread stops looked r p c =
    AnswersIn unread stops looked r p c ⊎ MeetsNumber p.stepper.renumbered p.stepper.scanner.options c.steps

-- the same of the calls that aren't given up: a refusal leaves what it leaves
abbrev pub RecoveryLeaves : {I : Type 0} → (I → Unread → Type 0) → Result Bool Refused → Parsing I → Calls → Type 0
RecoveryLeaves unread (Ok follows) p d = ParserIn unread p d
RecoveryLeaves unread (Err e) p d = (d.over ≡ false) × (d.refusal ≡ Some e)

abbrev pub Ends : {I : Type 0} → (I → Unread → Type 0) → Result Bool Refused → (old new : Parsing I) → Calls → Type 0
Ends unread r old new c =
    (((stops : Stops) × StopsIn unread old.stepper.scanner.cursor new.stepper.scanner.options stops c × (d : Calls)
    × (recover new.stepper.scanner.options stops (is_some old.peeked) c ≡ (r, d)) × RecoveryLeaves unread r new d)
    ⊎ SeesEnd r old new)
    ⊎ MeetsNumber new.stepper.renumbered new.stepper.scanner.options c.steps

-- ---- where a refusal waits

-- what is dropped, and what waits then; or where the fault counts as given
abbrev pub SkipsWaiting : {I : Type 0} → (I → Unread → Type 0) → (cursor : Reading I) → (looked : Bool) → Fault
    → SkipEnd → Parsing I → Type 0
SkipsWaiting unread cursor looked f (Ended n) p = WaitsBehind unread p.peeked p.stepper n f
SkipsWaiting unread cursor looked f (skipping.Failed e n) p =
    (m : MetFault p.stepper.scanner.options n e) × SkipsToAsk unread cursor looked p m.calls

-- the same of the calls that aren't given up
abbrev pub EndsHeldBy : {I : Type 0} → (I → Unread → Type 0) → (room : ℕ) → SkipEnd → Result Bool Refused
    → (old new : Parsing I) → Fault → Type 0
EndsHeldBy unread room (Ended n) r old new f =
    (r ≡ held_follows room n) × IfOk r (λ follows. ParserHolds unread new (recovery_answer r (resumed n)).1 f)
EndsHeldBy unread room (skipping.Failed e n) r old new f =
    (m : MetFault new.stepper.scanner.options n e) × Ends unread r old new m.calls

abbrev pub EndsHeld : {I : Type 0} → (I → Unread → Type 0) → Result Bool Refused → (old new : Parsing I) → Calls
    → Fault → Type 0
EndsHeld unread r old new c f =
    (SeesEnd r old new
    ⊎ EndsHeldBy unread (held_room old.stepper.scanner.options (stays_by old.between old.peeked) old.peeked)
    (held_behind (stays_by old.between old.peeked) f c.steps) r old new f)
    ⊎ FaultLacksNumber new.stepper.renumbered new.stepper.scanner.options c f
