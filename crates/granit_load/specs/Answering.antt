-- What a call answers that gives all events, and how it is refused.
use Rattle.std.specs.Prelude.{◌≡◌, ◌⊎◌, ℕ, Bool, true, false, List, Option, None, Some}
use Rattle.std.specs.Prelude.{Result, Ok, Err, [], IfOk, IfErr, is_some}
use Rattle.granit_buffered.specs.Fallible.{characters_of, first_error}
use Rattle.granit_base.specs.Place.{Unread}
use Rattle.granit_cursor.specs.Reading.{Reading, CameOn}
use Rattle.granit_error.specs.FaultKind.{FaultKind, NoMemory}
use Rattle.granit_error.specs.OptionsData.{OptionsData}
use Rattle.granit_error.specs.Refused.{Refused}
use Rattle.granit_error.specs.declared.kind.ErrorKind.{ErrorKind}
use Rattle.granit_input.specs.Origin.{Origin}
use Rattle.granit_feeding.specs.Offsets.{bare_answer}
use Rattle.granit_lexemes.specs.Here.{Here}
use Rattle.granit_lexemes.specs.Onward.{Onward}
use Rattle.granit_lexemes.specs.Outcome.{Fault, Fails}
use Rattle.granit_lexemes.specs.PlainEvent.{PlainEvent}
use Rattle.granit_machine.specs.Machine.{run}
use Rattle.granit_parser.specs.Parsing.{LeadsTo, Stepping}
use Rattle.granit_parser.specs.Gathering.{GoesGiving, IsSourceError}
use Rattle.granit_parser.specs.Streams.{bare_text_start}
use Rattle.granit_parser.specs.Numbers.{NoNumberLeft}
use Rattle.granit_steps.specs.Steps.{StepState}
use Rattle.granit_steps.specs.Told.{GivesEvents}

-- All that is given from a state on are these events, or some events and then this refusal, unless memory ran out.
abbrev pub GivesAll : {V : Type 0} → (V → List PlainEvent) → OptionsData → StepState → Result V Refused → Type 0
GivesAll view o m (Ok v) = GivesEvents o m (view v) None
GivesAll view o m (Err e) = (e.kind ≡ NoMemory → ⊥) → (es : List PlainEvent) × GivesEvents o m es (Some e)

-- behind some events no number is left for an anchor
abbrev pub LacksNumber : OptionsData → StepState → Refused → Type 0
LacksNumber o m e = (es : List PlainEvent) × (n : StepState) × LeadsTo o m es n × NoNumberLeft o n e

-- the same, or the last refusal is the error of the source, or says that no number is left for an anchor, where one was
-- ever set
abbrev pub GivesAllOr : {I V : Type 0} → (I → Origin) → (V → List PlainEvent) → OptionsData → StepState
    → Result V Refused → Stepping I → Type 0
GivesAllOr origin view o m (Ok v) s = GivesAll view o m (Ok v)
GivesAllOr origin view o m (Err e) s =
    (GivesAll view o m (Err e) ⊎ IsSourceError (origin s.scanner.cursor.input) s.scanner.cursor.place e)
    ⊎ ((s.renumbered ≡ true) × LacksNumber o m e)

-- a refusal stands at a place to which reading may have come from there
abbrev pub IsPlacedFrom : Here → Refused → Type 0
IsPlacedFrom start e = (at : Here) × Onward start at × (e.mark.place ≡ at.place)

-- the same from wherever the cursor is known to have come on
abbrev pub IsPlacedOn : {I : Type 0} → (I → Unread → Type 0) → Reading I → Refused → Type 0
IsPlacedOn unread old e = (start : Here) → CameOn unread start old → IsPlacedFrom start e

-- a refusal itself, where its place is known, and else want of memory
abbrev pub IsPlacedOr : (lost : Bool) → (e r : Refused) → Type 0
IsPlacedOr false e r = r ≡ e
IsPlacedOr true e r = r.kind ≡ NoMemory

-- The same where the source ends with this error or with none: an answer only where it ends with none, and a refusal
-- is its error, at a place up to which was read, with a byte offset exactly where the source tells offsets, or comes
-- before it is known how the source ends.
abbrev pub GivesWhole : {I V : Type 0} → (I → Unread → Type 0) → (I → Origin) → (V → List PlainEvent) → OptionsData
    → StepState → Option FaultKind → Result V Refused → (old new : Reading I) → Type 0
GivesWhole unread origin view o m f (Ok v) old new = (f ≡ None) × GivesEvents o m (view v) None
GivesWhole unread origin view o m f (Err e) old new =
    GivesAll view o m (Err e)
    ⊎ (((f ≡ Some e.kind) ⊎ ((origin new.input).error ≡ Some e.kind) × GoesGiving (origin old.input) (origin new.input))
    × (e.sources ≡ []) × IsPlacedOn unread old e × (is_some e.mark.byte_offset ≡ (origin old.input).tells_offset))

-- there is no answer: memory ran out, or the refusal is so
abbrev pub IsRefusedAs : {V : Type 0} → Result V Refused → (Refused → Type 0) → Type 0
IsRefusedAs r Holds = IfOk r (λ v. ⊥) × IfErr r (λ e. (e.kind ≡ NoMemory) ⊎ Holds e)

-- the answer for a text, its byte offsets forgotten
abbrev pub bare_run : OptionsData → List ℕ → Result (List PlainEvent) Fault
bare_run o text = bare_answer (record { offsets = false; lending = false }) (run o text)

-- An answer is that of the characters, where no error ends them. A refusal is the error that ends them, at a place to
-- which reading them may have come, with no byte offset, or the fault of the characters before it, unless memory ran
-- out.
abbrev pub AnswersItems : {V : Type 0} → (V → List PlainEvent) → OptionsData → List (Result ℕ ErrorKind)
    → Result V Refused → Type 0
AnswersItems view o items (Ok v) = (first_error items ≡ None) × (bare_run o (characters_of items) ≡ Ok (view v))
AnswersItems view o items (Err e) =
    ((first_error items ≡ Some e.kind) × (e.sources ≡ []) × IsPlacedFrom (bare_text_start (characters_of items)) e
    × (e.mark.byte_offset ≡ None))
    ⊎ Fails e (bare_run o (characters_of items))
