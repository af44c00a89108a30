-- What an include comes to.
use Rattle.std.specs.Prelude.{◌≡◌, ◌⊎◌, ℕ, false, List, [], ◌∷◌, Option, Some, None, Result, Ok, Err}
use Rattle.std.specs.Prelude.{IfOk, OnOk, OnErr}
use Rattle.std.specs.Str.{chars}
use Rattle.granit_base.specs.Counts.{Rose}
use Rattle.granit_base.specs.Written.{string_chars}
use Rattle.granit_error.specs.FaultKind.{NoMemory}
use Rattle.granit_error.specs.OptionsData.{OptionsData}
use Rattle.granit_error.specs.Refused.{Refused}
use Rattle.granit_event.specs.Events.{plain_events}
use Rattle.granit_layers.specs.Stacking.{IsWithin, Pushes}
use Rattle.granit_layers.specs.declared.layer.Layer.{Layer}
use Rattle.granit_lexemes.specs.PlainEvent.{PlainEvent}
use Rattle.granit_load.specs.Answering.{GivesAll, LacksNumber}
use Rattle.granit_parser.specs.Parsing.{LeavesNumbers}
use Rattle.granit_parser.specs.Streams.{bare_text_start}
use Rattle.granit_replay.specs.Replaying.{Replay, raised_by_all}
use Rattle.granit_replay.specs.Resolving.{missing_resolver}
use Rattle.granit_replay.specs.declared.resolver.Included.{Included}
use Rattle.granit_replay.specs.declared.resolver.Included.TheVariants.{Owned, Borrowed}
use Rattle.granit_stack.specs.Stacked.{Stacked}
use Rattle.granit_parser.specs.Numbers.{with_offset}
use Rattle.granit_steps.specs.Steps.{StepState, start_from, steps_start}
use Rattle.granit_steps.specs.Told.{GivesEvents}

-- What is answered for a name: there is nobody to ask, or it is the resolver's answer, whose errors are counted.
abbrev pub Resolves : {R : Type 0} → (answers : R → List ℕ → Result Included Refused → R → Type 0) → (errors : R → ℕ)
    → Option R → List ℕ → Result Included Refused → Option R → Type 0
Resolves answers errors None name answer new = (answer ≡ Err missing_resolver) × (new ≡ None)
Resolves answers errors (Some r) name answer new =
    (q : _) × (new ≡ Some q) × answers r name answer q × OnOk answer (errors q ≡ errors r)
    × OnErr answer (Rose (errors r) (errors q))

-- the machine before a text that is included: a text of its own is read by its characters, without byte offsets
abbrev pub start_of_text : Included → StepState
start_of_text (Borrowed text) = steps_start (chars text.now)
start_of_text (Owned text) = start_from (bare_text_start (string_chars text))

-- above another parser its anchors are numbered from there on
abbrev pub numbered : Option ℕ → StepState → StepState
numbered None m = m
numbered (Some offset) m = with_offset offset m

abbrev pub replayed : Replay → List PlainEvent
replayed p = plain_events p.events

-- the number of the first anchor
abbrev pub first_number : Option ℕ → ℕ
first_number None = 1
first_number (Some offset) = offset

-- What ends a text: its fault; or above another parser, whose number the text goes on with, that no number is left for
-- an anchor.
pub data FailsAbove (o : OptionsData) (above : Option ℕ) (m : StepState) (e : Refused) : Type 0 where
  with_fault : (es : List PlainEvent) → GivesEvents o m es (Some e) → FailsAbove o above m e
  numbered_out : (offset : ℕ) → above ≡ Some offset → LacksNumber o m e → FailsAbove o above m e

-- all events from a state on, or what ends them, unless memory ran out
abbrev pub GivesAllAbove : OptionsData → (above : Option ℕ) → StepState → Result Replay Refused → Type 0
GivesAllAbove o above m (Ok p) = GivesAll replayed o m (Ok p)
GivesAllAbove o above m (Err e) = (e.kind ≡ NoMemory → ⊥) → FailsAbove o above m e

-- All events of the text, with a number for a next anchor that is past all of theirs, and fewer anchors counted behind
-- them than the greatest number of 64 bits; or its fault, or that no number is left for one of its anchors, unless
-- memory ran out.
abbrev pub ReadsText : OptionsData → (above : Option ℕ) → Included → Result Replay Refused → Type 0
ReadsText o above text r =
    GivesAllAbove o above (numbered above (start_of_text text)) r
    × IfOk r (λ p. p.anchor_offset ≡ raised_by_all (first_number above) p.events)
    × IfOk r (λ p. LeavesNumbers o (numbered above (start_of_text text)) (replayed p))

-- the number of the top parser
abbrev pub number_above : {S : Type 0} → (S → ℕ) → List (Layer S) → Option ℕ
number_above offset [] = None
number_above offset (l ∷ ls) = Some (offset l.parser)

-- What is told of the parsers of a stack, and of who finds includes: the number of a next anchor, what setting it
-- leaves, and to what it is set above another parser; the parser that gives events once more; what may be answered for
-- a name; and how many errors were answered.
pub record Handling (S R : Type 0) : Type 1 where
  pub offset_of : S → ℕ
  pub sets_offset : ℕ → S → S → Type 0
  pub offset_over : S → ℕ → ℕ
  pub again : Replay → S
  pub answers : R → List ℕ → Result Included Refused → R → Type 0
  pub errors : R → ℕ

-- An include without names in its refusals: the text is found, read whole, and its events are put on the stack; or it
-- isn't found, can't be read, or memory ran out, and the parsers are as before.
abbrev pub Includes : {S R : Type 0} → Handling S R → Stacked S R → (name : List ℕ) → Result (Unit {0}) Refused
    → Stacked S R → Type 0
Includes h old name (Ok x) new =
    (text : Included) × Resolves h.answers h.errors old.resolver name (Ok text) new.resolver
    × ((p : Replay) × ReadsText old.options (number_above h.offset_of old.stack.layers) text (Ok p)
    × Pushes h.offset_of h.sets_offset h.offset_over old.stack.layers (h.again p)
    (record { characters = name; is_borrowed = false }) new.stack.layers)
Includes h old name (Err e) new =
    (new.stack.layers ≡ old.stack.layers)
    × (Resolves h.answers h.errors old.resolver name (Err e) new.resolver
    ⊎ ((text : Included) × Resolves h.answers h.errors old.resolver name (Ok text) new.resolver
    × ReadsText old.options (number_above h.offset_of old.stack.layers) text (Err e)))

-- the same, its refusals with the names of the stack and the include's
abbrev pub IncludesNamed : {S R : Type 0} → Handling S R → Stacked S R → (name : List ℕ) → Result (Unit {0}) Refused
    → Stacked S R → Type 0
IncludesNamed h old name (Ok x) new = Includes h old name (Ok x) new
IncludesNamed h old name (Err f) new =
    (e : Refused) × IsWithin old.stack.layers name e f × Includes h old name (Err e) new
