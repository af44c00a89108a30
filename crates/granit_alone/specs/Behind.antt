-- What calls give behind a recovery: the text from a boundary on is read as a text of its own, or where handles stay
-- from before, as it is behind a text that declares them anew.
pub use Rattle.granit_led.specs.Alone.{TellsMoved, behind_first}
pub use Rattle.granit_led.specs.Stopping.{DropFits, EndFits, FaultFits, FitBehind, StopsFit, looked_at}
pub use Rattle.granit_led.specs.Led.{Led, led_anew, led_keeping, led_on, led_start, led_with}
use Rattle.std.specs.Prelude.{◌≡◌, ℕ, suc, false, List, [], ◌∷◌, ◌++◌, Option, Some, None, Err}
use Rattle.granit_alone.specs.Alone.{BeginsAlone, CausedAlone, ReadsAlone, stream_start}
use Rattle.granit_declared.specs.DeclaredCause.{DeclaredCause}
use Rattle.granit_declared.specs.DeclaredReading.{DeclaredReading}
use Rattle.granit_error.specs.OptionsData.{OptionsData}
use Rattle.granit_lexemes.specs.Here.{Here, mark_of}
use Rattle.granit_lexemes.specs.Lexeme.{DocumentEnd, DocumentStart, Lexeme, StreamEnd}
use Rattle.granit_lexemes.specs.Outcome.{Fault}
use Rattle.granit_lexemes.specs.PlainEvent as events
use Rattle.granit_lexemes.specs.PlainEvent.{PlainEvent, event_on}
use Rattle.granit_machine.specs.Frames.{ParserState}
use Rattle.granit_restart.specs.Boundary.{Boundary, AtStart, PastEnd, AtTextEnd, next_boundary}
use Rattle.granit_restart.specs.Calls.{Calls, next_call}
use Rattle.granit_restart.specs.NextBoundary.{IsLineEnd}
use Rattle.granit_restart.specs.Restart.{behind_fault, cursor_at, read_boundary}
use Rattle.granit_restart.specs.Skipping.{Ended, Failed, skip_by_turns, Stops}
use Rattle.granit_led.specs.Alone.{HandlesStay, NoneStays, shift_from, shift_to, TellsBehind}
use Rattle.granit_led.specs.Declaring.{behind_documents, DeclaresAnew, EmptyDocuments}
pub use Rattle.granit_led.specs.Found.{StartRead}
use Rattle.granit_shifted.specs.Shift.{moved_events, moved_fault, moved_fault_of, Shift}
use Rattle.granit_steps.specs.Levels.{BeginsStream, IsStream}
use Rattle.granit_steps.specs.Steps.{StepState}
use Rattle.granit_steps.specs.Told.{GivesEvents, told_of}

-- ---- the boundary

-- The boundary at which reading goes on behind a fault, where the cursor stands here: the first mark among what was
-- read and not used, or else the next boundary in the text.
pub data BoundaryBehind (s : StepState) (h : Here) : Boundary → Type 0 where
  is_left : read_boundary h s.queue ≡ None → BoundaryBehind s h (next_boundary h)
  start_waits : {l : Lexeme} → read_boundary h s.queue ≡ Some l → l.kind ≡ DocumentStart → (r : StartRead h l)
      → BoundaryBehind s h (AtStart r.place)
  -- behind whose line, up to its end, the cursor stands
  end_waits : {l : Lexeme} → read_boundary h s.queue ≡ Some l → l.kind ≡ DocumentEnd → IsLineEnd h.unread.text
      → BoundaryBehind s h (PastEnd h)
  text_end_waits : {l : Lexeme} → read_boundary h s.queue ≡ Some l → l.kind ≡ StreamEnd
      → BoundaryBehind s h (AtTextEnd h)

-- behind that boundary all is told from a state on that the text tells that is left there
pub record TellsOn (o : OptionsData) (s : StepState) (h : Here) (t : StepState) : Type 0 where
  pub boundary : Boundary
  pub next : BoundaryBehind s h boundary
  pub tells : TellsBehind o s.reading.reader.laid.number s.parser boundary t

-- ---- what is told behind what was dropped

-- of all that is told these events are the first, and from a state on the rest is told
pub record TellsRest (o : OptionsData) (all before : List PlainEvent) (f : Option Fault) (s : StepState) : Type 0 where
  pub more : List PlainEvent
  pub are : all ≡ before ++ more
  pub left : GivesEvents o s more f

-- the same of all that a text tells alone, but for the start of the stream, moved
abbrev pub TellsRestAlone : OptionsData → List ℕ → Shift → (before : List PlainEvent) → StepState → Type 0
TellsRestAlone o text shift before s =
    TellsRest o (moved_events shift (behind_first (told_of o text).0)) before
    (moved_fault_of shift (told_of o text).1) s

-- ---- calls

-- what a text tells behind one that declares handles anew: the start of the stream, empty documents, and its own events
abbrev pub told_anew : (x before : List ℕ) → (documents : List PlainEvent) → (lexemes : ℕ) → List PlainEvent
    → List PlainEvent
told_anew x before documents lexemes own =
    stream_start (before ++ x) ∷ (documents ++ moved_events (behind_documents before documents lexemes) own)

-- a refusal is a cause there, moved, and names no source
pub record CausedAnew (o : OptionsData) (x before : List ℕ) (documents : List PlainEvent) (lexemes : ℕ) (shift : Shift)
    (f : Fault) : Type 0 where
  pub fault : Fault
  pub cause : DeclaredCause o (before ++ x) (moved_fault (behind_documents before documents lexemes) fault)
  pub moved : f ≡ moved_fault shift fault
  pub unnamed : f.sources ≡ []

-- Calls gave these events where a text stands, behind others that were dropped: all of them begin what goes on behind
-- the start of its stream. Where the next call is refused, that is a cause of the text; where none comes, they are the
-- events of its reading.
pub record GivesAlone (o : OptionsData) (x : List ℕ) (shift : Shift) (before es : List PlainEvent) (d : Calls) : Type 0
  where
    pub begins : BeginsAlone x shift (before ++ es)
    pub refused : (f : Fault) (after : Calls) → next_call o d ≡ (Some (Err f), after) → CausedAlone o x shift f
    pub ended : (next_call o d).0 ≡ None → ReadsAlone o x shift (before ++ es)

-- The same where handles stay from before: behind a text that declares them anew, and its empty documents, those events
-- begin the stream, such a refusal is a cause, and they are the reading, with their places moved there.
pub record GivesAnew (o : OptionsData) (x : List ℕ) (kept : List (List ℕ × List ℕ)) (shift : Shift)
    (dropped es : List PlainEvent) (d : Calls) : Type 0 where
  pub before : List ℕ
  pub declares : DeclaresAnew o before kept
  pub documents : List PlainEvent
  pub empty : EmptyDocuments documents
  pub lexemes : ℕ
  pub own : List PlainEvent
  pub moved : dropped ++ es ≡ moved_events shift own
  pub begins : BeginsStream (told_anew x before documents lexemes own)
  pub refused : (f : Fault) (after : Calls) → next_call o d ≡ (Some (Err f), after)
      → CausedAnew o x before documents lexemes shift f
  pub ended : (next_call o d).0 ≡ None
      → DeclaredReading o (before ++ x) (told_anew x before documents lexemes own)
      × IsStream (told_anew x before documents lexemes own)

-- the same of a text from its start on
pub record GivesText (o : OptionsData) (x : List ℕ) (before es : List PlainEvent) (d : Calls) : Type 0 where
  pub begins : BeginsStream (before ++ es)
  pub refused : (f : Fault) (after : Calls) → next_call o d ≡ (Some (Err f), after)
      → DeclaredCause o x f × (f.sources ≡ [])
  pub ended : (next_call o d).0 ≡ None → DeclaredReading o x (before ++ es) × IsStream (before ++ es)

-- where nothing is left: the end of the stream, once
pub record GivesEnd (o : OptionsData) (h : Here) (es : List PlainEvent) (d : Calls) : Type 0 where
  pub more : List PlainEvent
  pub begins : es ++ more ≡ event_on events.StreamEnd (mark_of h) ∷ []
  pub never : (f : Fault) (after : Calls) → next_call o d ≡ (Some (Err f), after) → ⊥
  pub ended : (next_call o d).0 ≡ None → more ≡ []

-- what calls gave of the text at a place, where so many lexemes and a parser's anchors are before it, behind events
-- that were dropped
pub data GivesItsText (o : OptionsData) (lexemes : ℕ) (h : Here) (p : ParserState) (before es : List PlainEvent)
    (d : Calls) : Type 0 where
  alone_given : NoneStays o p → GivesAlone o h.unread.text (shift_to lexemes h p) before es d
      → GivesItsText o lexemes h p before es d
  anew_given : HandlesStay o p → GivesAnew o h.unread.text p.kept (shift_from lexemes h p) before es d
      → GivesItsText o lexemes h p before es d

abbrev pub GivesLeft : OptionsData → List ℕ → (lexemes : ℕ) → Here → ParserState → List PlainEvent → Calls → Type 0
GivesLeft o [] lexemes h p es d = GivesEnd o h es d
GivesLeft o (c ∷ cs) lexemes h p es d = GivesItsText o lexemes h p [] es d

-- what calls gave behind a boundary
abbrev pub GivesBehind : OptionsData → (lexemes : ℕ) → ParserState → Boundary → List PlainEvent → Calls → Type 0
GivesBehind o lexemes p (AtStart h) es d = GivesItsText o lexemes h p [] es d
GivesBehind o lexemes p (PastEnd h) es d = GivesLeft o h.unread.text (suc lexemes) h p es d
GivesBehind o lexemes p (AtTextEnd h) es d = GivesEnd o h es d

-- Calls gave these events behind a fault in that state, by where refused reads stopped: from the boundary on. Where the
-- fault stands among directives whose `---` is that boundary, their document is dropped first, and where that fails,
-- reading goes on at the boundary behind that.
pub data GivesOn (o : OptionsData) (stops : Stops) (s : StepState) (es : List PlainEvent) (d : Calls) : Type 0 where
  on_boundary : (b : Boundary) → BoundaryBehind s (cursor_at stops.first s.reading) b
      → GivesBehind o s.reading.reader.laid.number s.parser b es d → GivesOn o stops s es d
  behind_header : {t : StepState} (h : Here) (before : List PlainEvent)
      → BoundaryBehind s (cursor_at stops.first s.reading) (AtStart h)
      → skip_by_turns o (behind_fault stops.first s).1 ≡ Ended t
      → GivesItsText o s.reading.reader.laid.number h s.parser before es d → GivesOn o stops s es d
  behind_both : {n : StepState} (g : Fault) (b : Boundary) → skip_by_turns o (behind_fault stops.first s).1 ≡ Failed g n
      → BoundaryBehind n (cursor_at stops.second n.reading) b
      → GivesBehind o n.reading.reader.laid.number n.parser b es d → GivesOn o stops s es d

-- calls go on: none failed, recovery wasn't refused, and the end of the stream wasn't given
pub record IsOpen (c : Calls) : Type 0 where
  pub over : c.over ≡ false
  pub fault : c.fault ≡ None
  pub refusal : c.refusal ≡ None
