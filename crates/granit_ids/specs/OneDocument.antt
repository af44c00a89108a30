-- Events of at most one document, and where each event of a stream may stand.
use Rattle.std.specs.Prelude.{◌≡◌, ℕ, ◌+◌, Bool, true, false, List, [], ◌∷◌, Option, Some, None}
use Rattle.granit_lexemes.specs.PlainEvent.{PlainEvent, EventKind, StreamStart, StreamEnd, DocumentStart, DocumentEnd}
use Rattle.granit_lexemes.specs.PlainEvent.{Anchor, Comment}
use Rattle.granit_steps.specs.Levels.{Level, InStream, and_then, behind_event}

-- how many documents begin
abbrev pub starts_in : EventKind → ℕ
starts_in (DocumentStart explicit version) = 1
starts_in kind = 0

abbrev pub document_starts : List PlainEvent → ℕ
document_starts [] = 0
document_starts (e ∷ es) = starts_in e.kind + document_starts es

-- where an event may stand among those of at most one document: behind the document's end only comments do, and behind
-- the stream's end nothing
abbrev pub EventFits : (ended : Bool) → EventKind → (More : Bool → Type 0) → (IsLast : Type 0) → Type 0
EventFits ended StreamEnd More IsLast = IsLast
EventFits ended (Comment text placement) More IsLast = More ended
EventFits true kind More IsLast = ⊥
EventFits false DocumentEnd More IsLast = More true
EventFits false kind More IsLast = More false

-- the events of at most one document, which has ended or not
abbrev pub OneDocument : (ended : Bool) → List PlainEvent → Type 0
OneDocument ended [] = Unit {0}
OneDocument ended (e ∷ es) = EventFits ended e.kind (λ behind. OneDocument behind es) (es ≡ [])

-- what an event leaves open, where it may stand: that of an anchor stands within a document, and nothing stands behind
-- the stream's end
abbrev pub strict_event : EventKind → List Level → Option (List Level)
strict_event kind [] = None
strict_event (Anchor n name) (InStream ∷ ls) = None
strict_event kind ls = behind_event kind ls

abbrev pub strict_events : List PlainEvent → List Level → Option (List Level)
strict_events [] ls = Some ls
strict_events (e ∷ es) ls = and_then (strict_event e.kind ls) (strict_events es)

-- the stream's start, and events that may stand behind it
abbrev pub BehindStart : EventKind → List PlainEvent → Type 0
BehindStart StreamStart es = (ls : List Level) × (strict_events es (InStream ∷ []) ≡ Some ls)
BehindStart kind es = ⊥

abbrev pub StandStrictly : List PlainEvent → Type 0
StandStrictly [] = Unit {0}
StandStrictly (e ∷ es) = BehindStart e.kind es
