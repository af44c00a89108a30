-- A text of which at most one event starts a document has at most one document.
use Rattle.std.proofs.Common.{◌≡◌, ℕ, ◌≤◌, ◌-◌, Bool, true, false, List, [], ◌∷◌, Option, Some, None, Ok, refl}
use Rattle.std.specs.Str.{chars}
use Rattle.granit_base.specs.Written.{string_chars}
use Rattle.granit_base.specs.declared.place.Span.{Span}
use Rattle.granit_error.specs.OptionsData.{OptionsData}
use Rattle.granit_event.specs.Events.{event_kind, plain_events}
use Rattle.granit_event.specs.declared.event.Event.{Event}
use Rattle.granit_layers.specs.Nested.{IsOneDocument, PartMayStand}
use Rattle.granit_layers.specs.Turning.{part_of}
use Rattle.granit_lexemes.specs.Here.{Here, start_of}
use Rattle.granit_lexemes.specs.Outcome.{Fault}
use Rattle.granit_lexemes.specs.PlainEvent.{PlainEvent, EventKind, StreamEnd, DocumentEnd, Comment}
use Rattle.granit_parser.specs.Streams.{bare_text_start}
use Rattle.granit_ids.specs.Ids.{counting_from}
use Rattle.granit_ids.specs.OneDocument.{document_starts, EventFits, OneDocument}
use Rattle.granit_replay.specs.Replaying.{Replay}
use Rattle.granit_replay.specs.declared.resolver.Included.{Included}
use Rattle.granit_replay.specs.declared.resolver.Included.TheVariants.{Owned, Borrowed}
use Rattle.granit_stack.specs.Including.{ReadsText, replayed}
use Rattle.granit_steps.specs.Told.{GivesEvents}

-- the law on events of a machine that has just begun
abbrev pub OneStart : Type 0
OneStart = (o : OptionsData) (h : Here) (count : ℕ) (es : List PlainEvent) (f : Option Fault)
    → GivesEvents o (counting_from count h) es f → document_starts es ≤ 1 → OneDocument false es

-- ---- events as code has them

part_fits : (ended : Bool) (kind : EventKind) (More Then : Bool → Type 0) (IsLast EndsThere : Type 0)
    → ((b : Bool) → More b → Then b) → (IsLast → EndsThere) → EventFits ended kind More IsLast
    → PartMayStand ended (part_of kind) Then EndsThere
part_fits ended StreamEnd More Then IsLast EndsThere more last f = last f
part_fits ended (Comment text placement) More Then IsLast EndsThere more last f = more ended f
part_fits true kind More Then IsLast EndsThere more last f = absurd f
part_fits false DocumentEnd More Then IsLast EndsThere more last f = more true f
part_fits false kind More Then IsLast EndsThere more last f = more false f

none_left : (es : List (Event × Span)) → plain_events es ≡ [] → es ≡ []
none_left [] e = refl
none_left (x ∷ es) e = absurd cc

code_document : (ended : Bool) (es : List (Event × Span)) → OneDocument ended (plain_events es)
    → IsOneDocument ended es
code_document ended [] one = tt
code_document ended (x ∷ es) one =
    part_fits ended (event_kind x.0) (λ b. OneDocument b (plain_events es)) (λ b. IsOneDocument b es)
    (plain_events es ≡ []) (es ≡ []) (λ b more. code_document b es more) (none_left es) one

-- ---- a text that is read whole

pub single : OneStart → (o : OptionsData) (above : Option ℕ) (text : Included) (p : Replay)
    → ReadsText o above text (Ok p) → document_starts (replayed p) ≤ 1 → IsOneDocument false p.events
single law o None (Borrowed text) p reads one =
    code_document false p.events (law o (start_of (chars text.now)) 0 (replayed p) None reads.0 one)
single law o None (Owned text) p reads one =
    code_document false p.events (law o (bare_text_start (string_chars text)) 0 (replayed p) None reads.0 one)
single law o (Some n) (Borrowed text) p reads one =
    code_document false p.events (law o (start_of (chars text.now)) (n - 1) (replayed p) None reads.0 one)
single law o (Some n) (Owned text) p reads one =
    code_document false p.events (law o (bare_text_start (string_chars text)) (n - 1) (replayed p) None reads.0 one)
