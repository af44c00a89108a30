-- The ids of anchors that events give.
use Rattle.std.specs.Prelude.{◌≡◌, ℕ, ◌≤◌, ◌⊎◌, List, [], ◌∷◌, Option, Some, None, Ok}
use Rattle.granit_error.specs.OptionsData.{OptionsData}
use Rattle.granit_lexemes.specs.Here.{Here, mark_of}
use Rattle.granit_lexemes.specs.PlainEvent.{PlainEvent, EventKind, Anchor, Scalar, SequenceStart, MappingStart}
use Rattle.granit_machine.specs.Frames.{parser_start}
use Rattle.granit_recovery.specs.Streams.{ReachedByCalls, reached_call, reached_counting, reached_early}
use Rattle.granit_recovery.specs.Streams.{reached_keeping, reached_recovery, reached_start}
use Rattle.granit_restart.specs.Turned.{with_count}
use Rattle.granit_restart.specs.Calls.{Calls}
use Rattle.granit_steps.specs.Steps.{StepState, next_event, start_from}

-- the id that an event gives an anchor; 0 means none
abbrev pub id_of : EventKind → ℕ
id_of (Anchor n name) = n
id_of (Scalar text style anchor tag) = anchor
id_of (SequenceStart style anchor tag) = anchor
id_of (MappingStart style anchor tag) = anchor
id_of kind = 0

-- each id that events give is no less than an offset
abbrev pub IdsFrom : ℕ → List PlainEvent → Type 0
IdsFrom offset [] = Unit {0}
IdsFrom offset (e ∷ es) = ((id_of e.kind ≡ 0) ⊎ (offset ≤ id_of e.kind)) × IdsFrom offset es

-- the machine before a text, where so many anchors count as read
abbrev pub counting_from : ℕ → Here → StepState
counting_from count h = record (start_from h) { parser = record (parser_start (mark_of h)) { count = count } }

-- A machine that began with some count, made steps, and whose count was perhaps raised between them.
pub data Counted (o : OptionsData) : StepState → Type 0 where
  counted_start : (count : ℕ) (h : Here) → Counted o (counting_from count h)
  counted_step : {m after : StepState} {r : Option PlainEvent} → Counted o m → next_event o m ≡ Ok (r, after)
      → Counted o after
  counted_more : {m : StepState} (count : ℕ) → Counted o m → m.parser.count ≤ count → Counted o (with_count count m)

-- the id that a step gives an anchor; 0 means none
abbrev pub id_told : Option PlainEvent → ℕ
id_told None = 0
id_told (Some e) = id_of e.kind

-- on the way there the number of a next anchor was never set back
abbrev pub NeverSetBack : {o : OptionsData} {c : Calls} → ReachedByCalls o c → Type 0
NeverSetBack (reached_start h) = Unit {0}
NeverSetBack (reached_call r) = NeverSetBack r
NeverSetBack (reached_recovery stops looked r) = NeverSetBack r
NeverSetBack (reached_early r early) = NeverSetBack r
NeverSetBack (reached_counting {c = c} count r) = (c.steps.parser.count ≤ count) × NeverSetBack r
NeverSetBack (reached_keeping keep r) = NeverSetBack r
