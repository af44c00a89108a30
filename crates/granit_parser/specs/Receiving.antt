-- What `load` and `try_load` send to a receiver.
use Rattle.std.specs.Prelude.{◌≡◌, ◌≤◌, ◌⊎◌, Bool, true, false, List, [], ◌∷◌, ◌++◌, length, Option, Some, None, Result}
use Rattle.std.specs.Prelude.{Ok, Err, IfErr, IfSome}
use Rattle.granit_base.specs.Counts.{last_count}
use Rattle.granit_base.specs.Place.{Mark, Unread}
use Rattle.granit_base.specs.declared.place.Span.{Span}
use Rattle.granit_cursor.specs.Reading.{Reading, Stands}
use Rattle.granit_error.specs.FaultKind.{NoMemory}
use Rattle.granit_error.specs.OptionsData.{OptionsData}
use Rattle.granit_error.specs.Refused.{Refused}
use Rattle.granit_event.specs.declared.event.Event.{Event}
use Rattle.granit_event.specs.Events.{plain_event, plain_events}
use Rattle.granit_input.specs.Origin.{Origin}
use Rattle.granit_lexemes.specs.Here.{Here, mark_of}
use Rattle.granit_lexemes.specs.PlainEvent.{PlainEvent, StreamEnd, event_on}
use Rattle.granit_parser.specs.Parsing.{Parsing, StandsAt}
use Rattle.granit_parser.specs.Recovering.{GivesCall, ParserIn, failed_in}
use Rattle.granit_receivers.specs.Kept.{IsKept}
use Rattle.granit_receivers.specs.Sending.{is_last}
use Rattle.granit_receivers.specs.Taking.{Took}
use Rattle.granit_receivers.specs.declared.error.TryLoadError.{TryLoadError}
use Rattle.granit_receivers.specs.declared.error.TryLoadError.TheVariants.{Scan, Receiver}
use Rattle.granit_recovery.specs.Streams.{CallsGive}
use Rattle.granit_restart.specs.Calls.{Calls}
use Rattle.granit_sourced.specs.Gathering.{RefusedThere}
use Rattle.granit_sourced.specs.Going.{FailsAt}
use Rattle.granit_sourced.specs.Sources.{IsSourceError}
use Rattle.granit_steps.specs.Steps.{StepState, next_event}

-- a receiver took these events at these places, by what it tells of both
abbrev pub TookBy : {A : Type 0} → (taken : A → Option (List Event)) → (spans : A → Option (List Span)) → (old new : A)
    → List (Event × Span) → Type 0
TookBy taken spans old new =
    Took (record { events = taken old; places = spans old }) (record { events = taken new; places = spans new })

-- one by one these events are given from a state up to another one, and none of them is the last that is sent
pub data SendsOn (o : OptionsData) (multi : Bool) : StepState → List PlainEvent → StepState → Type 0 where
  none_sent : {m : StepState} → SendsOn o multi m [] m
  sent_on : {m next after : StepState} {e : PlainEvent} {es : List PlainEvent} → next_event o m ≡ Ok (Some e, next)
      → is_last multi e.kind ≡ false → SendsOn o multi next es after → SendsOn o multi m (e ∷ es) after

-- all that is sent from a state on, and the state behind it: up to the last, or until nothing is left
pub data Sends (o : OptionsData) (multi : Bool) : StepState → List PlainEvent → StepState → Type 0 where
  none_left : {m after : StepState} → next_event o m ≡ Ok (None, after) → Sends o multi m [] after
  sends_last : {m after : StepState} {e : PlainEvent} → next_event o m ≡ Ok (Some e, after)
      → is_last multi e.kind ≡ true → Sends o multi m (e ∷ []) after
  sends_on : {m next after : StepState} {e : PlainEvent} {es : List PlainEvent} → next_event o m ≡ Ok (Some e, next)
      → is_last multi e.kind ≡ false → Sends o multi next es after → Sends o multi m (e ∷ es) after

-- the same where at least one event is sent: where nothing is left, the end of the stream comes once more
pub data SendsSome (o : OptionsData) (multi : Bool) (IsPlace : Mark → Type 0)
    : StepState → List PlainEvent → StepState → Type 0 where
  end_again : {m after : StepState} {mark : Mark} → next_event o m ≡ Ok (None, after) → IsPlace mark
      → SendsSome o multi IsPlace m (event_on StreamEnd mark ∷ []) after
  sends_some : {m next after : StepState} {e : PlainEvent} {es : List PlainEvent}
      → next_event o m ≡ Ok (Some e, next) → Sends o multi m es after → SendsSome o multi IsPlace m es after

-- what is sent up to an event that the receiver refuses, and the state behind that event
pub data SendsUpTo (o : OptionsData) (multi : Bool) (IsPlace : Mark → Type 0)
    : StepState → List PlainEvent → StepState → Type 0 where
  up_to_end_again : {m after : StepState} {mark : Mark} → next_event o m ≡ Ok (None, after) → IsPlace mark
      → SendsUpTo o multi IsPlace m (event_on StreamEnd mark ∷ []) after
  up_to_this : {m next after : StepState} {e : PlainEvent} {es : List PlainEvent} → SendsOn o multi m es next
      → next_event o next ≡ Ok (Some e, after) → SendsUpTo o multi IsPlace m (es ++ (e ∷ [])) after

-- the place up to which a cursor is known to have read
abbrev pub IsPlaceOf : {I : Type 0} → (I → Unread → Type 0) → Reading I → Mark → Type 0
IsPlaceOf unread r mark = (h : Here) → Stands unread r h → mark ≡ mark_of h

-- ---- what is answered, by what the receiver took and where the parser then stands

-- a refusal in a state: the machine's, unless memory ran out, or that no number is left for an anchor, or the error of
-- the source
abbrev pub RefusalIn : {I : Type 0} → (I → Origin) → OptionsData → StepState → Parsing I → Refused → Type 0
RefusalIn origin o m p e = RefusedThere origin o m p.stepper e

-- a refusal comes behind events that were sent
abbrev pub RefusesBehind : {I : Type 0} → (I → Origin) → OptionsData → Bool → StepState
    → (List (Event × Span) → Type 0) → Parsing I → Refused → Type 0
RefusesBehind origin o multi m Takes p e =
    (xs : List (Event × Span)) × Takes xs
    × ((n : StepState) × SendsOn o multi m (plain_events xs) n × RefusalIn origin o n p e)

-- these events were sent, and the parser stands behind them
abbrev pub StandsBehindSent : {I : Type 0} → (I → Unread → Type 0) → (List (Event × Span) → Type 0) → Parsing I
    → (List PlainEvent → StepState → Type 0) → Type 0
StandsBehindSent unread Takes p Sent =
    (xs : List (Event × Span)) × Takes xs
    × ((after : StepState) × StandsAt unread p after × Sent (plain_events xs) after)

-- what is sent behind the first event
abbrev pub LoadsRest : {I X : Type 0} → (I → Unread → Type 0) → (I → Origin) → OptionsData → Bool → StepState
    → (List (Event × Span) → Type 0) → Parsing I → Result X Refused → Type 0
LoadsRest unread origin o multi m Takes p (Ok x) = StandsBehindSent unread Takes p (Sends o multi m)
LoadsRest unread origin o multi m Takes p (Err e) = RefusesBehind origin o multi m Takes p e

-- what is sent in all
abbrev pub Loads : {I X : Type 0} → (I → Unread → Type 0) → (I → Origin) → OptionsData → Bool → StepState
    → (List (Event × Span) → Type 0) → Parsing I → Result X Refused → Type 0
Loads unread origin o multi m Takes p (Ok x) =
    StandsBehindSent unread Takes p (SendsSome o multi (IsPlaceOf unread p.stepper.scanner.cursor) m)
Loads unread origin o multi m Takes p (Err e) = RefusesBehind origin o multi m Takes p e

-- the same where the receiver may refuse an event, the last one that it took
abbrev pub TriesRest : {I X E : Type 0} → (I → Unread → Type 0) → (I → Origin) → OptionsData → Bool → StepState
    → (List (Event × Span) → Type 0) → Parsing I → Result X (TryLoadError E) → Type 0
TriesRest unread origin o multi m Takes p (Ok x) = StandsBehindSent unread Takes p (Sends o multi m)
TriesRest unread origin o multi m Takes p (Err (Scan e)) = RefusesBehind origin o multi m Takes p e
TriesRest unread origin o multi m Takes p (Err (Receiver e)) =
    StandsBehindSent unread Takes p (SendsUpTo o multi (λ mark. ⊥) m)

abbrev pub Tries : {I X E : Type 0} → (I → Unread → Type 0) → (I → Origin) → OptionsData → Bool → StepState
    → (List (Event × Span) → Type 0) → Parsing I → Result X (TryLoadError E) → Type 0
Tries unread origin o multi m Takes p (Ok x) =
    StandsBehindSent unread Takes p (SendsSome o multi (IsPlaceOf unread p.stepper.scanner.cursor) m)
Tries unread origin o multi m Takes p (Err (Scan e)) = RefusesBehind origin o multi m Takes p e
Tries unread origin o multi m Takes p (Err (Receiver e)) =
    StandsBehindSent unread Takes p (SendsUpTo o multi (IsPlaceOf unread p.stepper.scanner.cursor) m)

-- what the parser itself answered, where it didn't end by the receiver's refusal
abbrev pub scanned : {X E : Type 0} → Result X (TryLoadError E) → Option (Result X Refused)
scanned (Ok x) = Some (Ok x)
scanned (Err (Scan e)) = Some (Err e)
scanned (Err (Receiver e)) = None

-- ---- refusals

-- this holds unless the parser itself refused
abbrev pub UnlessRefused : {X : Type 0} → Option (Result X Refused) → Type 0 → Type 0
UnlessRefused None Holds = Holds
UnlessRefused (Some (Ok x)) Holds = Holds
UnlessRefused (Some (Err e)) Holds = Unit {0}

-- a refusal is kept, and behind anything else none is
abbrev pub KeepsRefusal : {X : Type 0} → Result X Refused → Option Refused → Type 0
KeepsRefusal (Ok x) given = given ≡ None
KeepsRefusal (Err e) given = (kept : Refused) × (given ≡ Some kept) × IsKept e kept

-- as many events were taken as are sent at most
abbrev pub TakesMost : (List (Event × Span) → Type 0) → Type 0
TakesMost Takes = (xs : List (Event × Span)) × Takes xs × (last_count ≤ length xs)

-- memory is wanted only where a call of the parser gave that, or behind as many events as are sent at most
abbrev pub WantsOnly : {X : Type 0} → (starved : Bool) → (List (Event × Span) → Type 0) → Option (Result X Refused)
    → Type 0
WantsOnly starved Takes r =
    IfSome r (λ x. IfErr x (λ e. e.kind ≡ NoMemory → (starved ≡ true) ⊎ TakesMost Takes))

-- the end of the stream, at the place up to which was read
abbrev pub IsEndAt : {I : Type 0} → (I → Unread → Type 0) → Reading I → Event × Span → Type 0
IsEndAt unread r x = (mark : Mark) × IsPlaceOf unread r mark × (plain_event x ≡ event_on StreamEnd mark)

-- the first event that is sent is the machine's next, or, where it has none, the end of the stream at the place up to
-- which was read
abbrev pub GivesFirst : {I : Type 0} → (I → Unread → Type 0) → (I → Origin) → Parsing I → OptionsData → StepState
    → Result (Event × Span) Refused → Type 0
GivesFirst unread origin p o m (Ok x) =
    (after : StepState) × StandsAt unread p after
    × ((next_event o m ≡ Ok (Some (plain_event x), after))
    ⊎ ((next_event o m ≡ Ok (None, after)) × IsEndAt unread p.stepper.scanner.cursor x))
GivesFirst unread origin p o m (Err e) = RefusalIn origin o m p e

-- the same of a sending that the receiver may end: what it refuses is not kept
abbrev pub KeepsScan : {X E : Type 0} → Result X (TryLoadError E) → Option Refused → Type 0
KeepsScan (Ok x) given = given ≡ None
KeepsScan (Err (Scan e)) given = (kept : Refused) × (given ≡ Some kept) × IsKept e kept
KeepsScan (Err (Receiver e)) given = given ≡ None

-- ---- where the machine's calls led

-- none of these is the last that is sent
abbrev pub NoneLast : (multi : Bool) → List PlainEvent → Type 0
NoneLast multi [] = Unit {0}
NoneLast multi (e ∷ es) = (is_last multi e.kind ≡ false) × NoneLast multi es

-- what was sent ends by an event in front of which none is the last that is sent; where all was sent, it is
pub record EndsSending (multi all : Bool) (es : List PlainEvent) : Type 0 where
  pub front : List PlainEvent
  pub event : PlainEvent
  pub is : es ≡ front ++ (event ∷ [])
  pub before : NoneLast multi front
  pub last : all ≡ true → is_last multi event.kind ≡ true

-- calls gave what was sent, one by one, up to the last that is sent, or up to one that the receiver refused, and the
-- parser is where they led
abbrev pub CallsLed : {I : Type 0} → (I → Unread → Type 0) → OptionsData → (multi all : Bool)
    → (List (Event × Span) → Type 0) → Parsing I → Calls → Type 0
CallsLed unread o multi all Takes p c =
    (xs : List (Event × Span)) × Takes xs × EndsSending multi all (plain_events xs)
    × ((d : Calls) × CallsGive o c (plain_events xs) d × ParserIn unread p d)

-- the call behind what was sent failed, unless memory ran out or the source failed
abbrev pub CallsFailed : {I : Type 0} → (I → Unread → Type 0) → (I → Origin) → OptionsData → (multi : Bool)
    → (List (Event × Span) → Type 0) → Parsing I → Calls → Refused → Type 0
CallsFailed unread origin o multi Takes p c e =
    ((e.kind ≡ NoMemory → ⊥) → (xs : List (Event × Span)) × Takes xs × NoneLast multi (plain_events xs)
    × ((d : Calls) × CallsGive o c (plain_events xs) d
    × ((m : StepState) × FailsAt p.stepper.renumbered o m d e × ParserIn unread p (failed_in m e d))))
    ⊎ IsSourceError (origin p.stepper.scanner.cursor.input) p.stepper.scanner.cursor.place e

-- by what the parser itself answered, if it did
abbrev pub CallsLeave : {I X : Type 0} → (I → Unread → Type 0) → (I → Origin) → OptionsData → (multi : Bool)
    → (List (Event × Span) → Type 0) → Option (Result X Refused) → Parsing I → Calls → Type 0
CallsLeave unread origin o multi Takes None p c = CallsLed unread o multi false Takes p c
CallsLeave unread origin o multi Takes (Some (Ok x)) p c = CallsLed unread o multi true Takes p c
CallsLeave unread origin o multi Takes (Some (Err e)) p c = CallsFailed unread origin o multi Takes p c e

-- the first event that is sent is that of the next call
abbrev pub FirstCall : {I : Type 0} → (I → Unread → Type 0) → (I → Origin) → Result (Event × Span) Refused → Parsing I
    → Calls → Type 0
FirstCall unread origin (Ok x) p c = GivesCall unread (Some (Ok x)) p c
FirstCall unread origin (Err e) p c =
    GivesCall unread (Some (Err e)) p c
    ⊎ IsSourceError (origin p.stepper.scanner.cursor.input) p.stepper.scanner.cursor.place e
