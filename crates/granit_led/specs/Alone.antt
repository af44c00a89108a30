-- What is told behind a boundary: what the text that is left there tells alone, moved, or where handles stay from
-- before, what it tells behind a text that declares them anew.
use Rattle.std.specs.Prelude.{◌≡◌, ◌≢◌, ◌⊎◌, ℕ, suc, ◌-◌, true, false, List, [], ◌∷◌, Option, Some, None, is_some}
use Rattle.granit_error.specs.OptionsData.{OptionsData}
use Rattle.granit_lexemes.specs.Here.{Here, mark_of, start_of}
use Rattle.granit_lexemes.specs.PlainEvent.{PlainEvent, event_on, StreamStart, StreamEnd}
use Rattle.granit_lexemes.specs.Outcome.{Fault}
use Rattle.granit_machine.specs.Frames.{ParserState}
use Rattle.granit_machine.specs.Machine.{run}
use Rattle.granit_restart.specs.Boundary.{Boundary, AtStart, PastEnd, AtTextEnd}
use Rattle.granit_led.specs.Declaring.{DeclaresAnew, TellsAnew}
use Rattle.granit_shifted.specs.Shift.{Shift, moved_events, moved_fault_of}
use Rattle.granit_steps.specs.Steps.{StepState, steps_start}
use Rattle.granit_steps.specs.Told.{GivesEvents, answer, told_of}

abbrev pub offset_or_none : Option ℕ → ℕ
offset_or_none None = 0
offset_or_none (Some n) = n

-- handles that are before, where there are any
abbrev pub handles_before : List (List ℕ × List ℕ) → Option (List (List ℕ × List ℕ))
handles_before [] = None
handles_before (x ∷ xs) = Some (x ∷ xs)

-- a text alone begins at index 0 on line 1, and stands here behind so many lexemes and behind a parser's anchors
abbrev pub shift_to : (lexemes : ℕ) → Here → ParserState → Shift
shift_to lexemes h p = record {
  index = h.place.index;
  line = h.place.line - 1;
  bytes = offset_or_none h.unread.offset;
  lexemes = lexemes;
  anchors = p.count;
  offsets = is_some h.unread.offset;
  lending = h.unread.lends;
  kept = handles_before p.kept;
}

-- the events behind the start of the stream
abbrev pub behind_first : List PlainEvent → List PlainEvent
behind_first [] = []
behind_first (e ∷ es) = es

-- from a state on all is told that a text tells alone, but for the start of the stream, moved
abbrev pub TellsMoved : OptionsData → List ℕ → Shift → StepState → Type 0
TellsMoved o text shift s =
    GivesEvents o s (moved_events shift (behind_first (told_of o text).0)) (moved_fault_of shift (told_of o text).1)

-- from a state on the end of the stream is told at a place, and nothing else
abbrev pub TellsEnd : OptionsData → Here → StepState → Type 0
TellsEnd o h s = GivesEvents o s (event_on StreamEnd (mark_of h) ∷ []) None

-- ---- handles that stay

-- no handle stays from before, or none may
abbrev pub NoneStays : OptionsData → ParserState → Type 0
NoneStays o p = (p.kept ≡ []) ⊎ (o.keep_tags ≡ false)

abbrev pub HandlesStay : OptionsData → ParserState → Type 0
HandlesStay o p = (p.kept ≢ []) × (o.keep_tags ≡ true)

-- those that stay were declared, as they are wherever turns and restarts lead
abbrev pub StaysDeclared : OptionsData → ParserState → Type 0
StaysDeclared o p = NoneStays o p ⊎ ((before : List ℕ) × DeclaresAnew o before p.kept)

-- where the text stands whose handles were declared anew before it: it has those of its own
abbrev pub shift_from : (lexemes : ℕ) → Here → ParserState → Shift
shift_from lexemes h p = record (shift_to lexemes h p) { kept = None }

-- From a state on all is told that the text at a place tells, where so many lexemes and a parser's anchors are before
-- it, moved there: what it tells alone, or where handles stay, what it tells behind a text that declares them anew.
pub data TellsItsText (o : OptionsData) (lexemes : ℕ) (h : Here) (p : ParserState) (s : StepState) : Type 0 where
  alone_told : NoneStays o p → TellsMoved o h.unread.text (shift_to lexemes h p) s → TellsItsText o lexemes h p s
  anew_told : {es : List PlainEvent} {f : Option Fault} → HandlesStay o p → TellsAnew o p.kept h.unread.text es f
      → GivesEvents o s (moved_events (shift_from lexemes h p) es) (moved_fault_of (shift_from lexemes h p) f)
      → TellsItsText o lexemes h p s

-- ---- boundaries

-- the end of the stream where nothing is left, or else what the text tells that is left
abbrev pub TellsLeft : OptionsData → List ℕ → (lexemes : ℕ) → Here → ParserState → StepState → Type 0
TellsLeft o [] lexemes h p s = TellsEnd o h s
TellsLeft o (c ∷ cs) lexemes h p s = TellsItsText o lexemes h p s

-- From a state on all is told that the text behind a boundary tells, where so many lexemes and a parser's anchors are
-- before it: from a `---` on, behind the line of a `...`, or at the end.
abbrev pub TellsBehind : OptionsData → (lexemes : ℕ) → ParserState → Boundary → StepState → Type 0
TellsBehind o lexemes p (AtStart h) s = TellsItsText o lexemes h p s
TellsBehind o lexemes p (PastEnd h) s = TellsLeft o h.unread.text (suc lexemes) h p s
TellsBehind o lexemes p (AtTextEnd h) s = TellsEnd o h s

-- what calls give is what the text gives alone behind the start of the stream, moved; and so a run tells of it
pub record ToldAlone (o : OptionsData) (text : List ℕ) (shift : Shift) (es : List PlainEvent)
    (f : Option Fault) : Type 0 where
  pub all : List PlainEvent
  pub fault : Option Fault
  pub alone : GivesEvents o (steps_start text) (event_on StreamStart (mark_of (start_of text)) ∷ all) fault
  pub run : run o text ≡ answer (event_on StreamStart (mark_of (start_of text)) ∷ all, fault) fault
  pub events : es ≡ moved_events shift all
  pub end : f ≡ moved_fault_of shift fault
