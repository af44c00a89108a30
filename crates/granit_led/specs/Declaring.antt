-- Handles that stay from before, as a text declares them anew (YAML 1.2.2, 6.8.2).
use Rattle.std.specs.Prelude.{◌≡◌, ℕ, ◌+◌, ◌≤◌, false, true, List, [], ◌∷◌, ◌++◌, length, codes, Option, None}
use Rattle.granit_base.specs.Classes.{is_blank_or_breakz}
use Rattle.granit_base.specs.Place.{Mark, first}
use Rattle.granit_error.specs.OptionsData.{OptionsData}
use Rattle.granit_lexemes.specs.DirectiveExtent.{PrefixStands, bytes_of}
use Rattle.granit_lexemes.specs.Here.{mark_of, start_of}
use Rattle.granit_lexemes.specs.Outcome.{Fault}
use Rattle.granit_lexemes.specs.PlainEvent.{PlainEvent, DocumentEnd, DocumentStart, event_at, event_on, StreamStart}
use Rattle.granit_lexemes.specs.Source.{Source}
use Rattle.granit_machine.specs.Entries.{remembered}
use Rattle.granit_machine.specs.Giving.{null_at}
use Rattle.granit_restart.specs.Skipping.{with_pending}
use Rattle.granit_shifted.specs.Shift.{moved_events, moved_fault_of, Shift}
use Rattle.granit_steps.specs.Steps.{StepState, steps_start}
use Rattle.granit_steps.specs.Told.{told_of}

-- what a line up to its end says: `%TAG`, a handle, and what it stands for
pub record DeclaresHandle (o : OptionsData) (line handle prefix : List ℕ) : Type 0 where
  pub source : List ℕ
  pub is : line ≡ 0x25 ∷ (codes "TAG" ++ source)
  pub stands : PrefixStands (source ++ 0x0A ∷ []) source handle prefix (0x0A ∷ [])
  -- else its name would go on
  pub parted : is_blank_or_breakz (first source) ≡ true
  pub within : bytes_of (codes "TAG") + bytes_of source ≤ o.max_directive_bytes
  pub allowed : o.disallow_directives ≡ false

-- the end of that line, and an empty document: a line `---` and a line `...`
abbrev pub empty_document : List ℕ
empty_document = 0x0A ∷ 0x2D ∷ 0x2D ∷ 0x2D ∷ 0x0A ∷ 0x2E ∷ 0x2E ∷ 0x2E ∷ 0x0A ∷ []

-- a text that declares one handle after another, each before an empty document, and the handles that then stay
pub data DeclaresAnew (o : OptionsData) : (text : List ℕ) → (kept : List (List ℕ × List ℕ)) → Type 0 where
  none_declared : DeclaresAnew o [] []
  one_more : {text line handle prefix : List ℕ} {kept : List (List ℕ × List ℕ)} → DeclaresAnew o text kept
      → DeclaresHandle o line handle prefix
      → DeclaresAnew o (text ++ (line ++ empty_document)) (remembered handle prefix kept)

-- the events of empty documents
pub data EmptyDocuments : List PlainEvent → Type 0 where
  no_document : EmptyDocuments []
  one_document : {es : List PlainEvent} (start end : Source) (node : Mark) → EmptyDocuments es
      → EmptyDocuments (event_at (DocumentStart true None) start ∷ null_at node ∷ event_at DocumentEnd end ∷ es)

-- where a text stands behind so many empty documents' events: each has three events on three lines
abbrev pub behind_documents : (text : List ℕ) → (documents : List PlainEvent) → (lexemes : ℕ) → Shift
behind_documents text documents lexemes = record {
  index = length text;
  line = length documents;
  bytes = bytes_of text;
  lexemes = lexemes;
  anchors = 0;
  offsets = true;
  lending = true;
  kept = None;
}

-- the start of a text, behind the start of its stream, where handles stay from before
abbrev pub kept_start : List ℕ → List (List ℕ × List ℕ) → StepState
kept_start text kept =
    let s = with_pending [] (steps_start text) in record s { parser = record (s.parser) { kept = kept } }

-- What a text tells behind one that declares handles anew: these events and this fault, counted from its own start.
pub record TellsAnew (o : OptionsData) (kept : List (List ℕ × List ℕ)) (text : List ℕ) (es : List PlainEvent)
    (f : Option Fault) : Type 0 where
  pub before : List ℕ
  pub declares : DeclaresAnew o before kept
  pub documents : List PlainEvent
  pub empty : EmptyDocuments documents
  pub lexemes : ℕ
  pub events : (told_of o (before ++ text)).0
      ≡ event_on StreamStart (mark_of (start_of (before ++ text)))
      ∷ (documents ++ moved_events (behind_documents before documents lexemes) es)
  pub fault : (told_of o (before ++ text)).1 ≡ moved_fault_of (behind_documents before documents lexemes) f
