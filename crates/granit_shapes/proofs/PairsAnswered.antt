-- In what is answered mappings are in pairs.
use Rattle.std.proofs.Common.{◌≡◌, ℕ, List, [], ◌∷◌, Option, Some, None, Ok, refl, sym, ap, ◌∙◌}
use Rattle.std.specs.Prelude.{if◌then◌else◌, not}
use Rattle.granit_answers.proofs.OneCause.{answer_reads}
use Rattle.granit_order.specs.Answers.{AnswersReading}
use Rattle.granit_base.specs.declared.place.Span.{Span}
use Rattle.granit_error.specs.OptionsData.{OptionsData}
use Rattle.granit_quiet.specs.Quiet.{but_comments}
use Rattle.granit_language.specs.Telling.{events_told}
use Rattle.granit_lexemes.specs.PlainEvent.{PlainEvent, EventKind, Comment, is_note}
use Rattle.granit_machine.specs.Machine.{run}
use Rattle.granit_shapes.proofs.PairsInTrees.{stream_pairs}
use Rattle.granit_shapes.specs.Turns.{NextNode, event_passed, passed_then, events_passed, InPairs}

comment_aside : (k : EventKind) (s : Span) (es : List PlainEvent) (ns : List NextNode)
    → events_passed (if not (is_note k) then record { kind = k; span = s } ∷ es else es) ns
    ≡ passed_then (event_passed k ns) (events_passed es)
comment_aside (Comment text placement) s es ns = refl
comment_aside kind s es ns = refl

passed_alike : (r : Option (List NextNode)) (f g : List NextNode → Option (List NextNode))
    → ((ns : List NextNode) → f ns ≡ g ns) → passed_then r f ≡ passed_then r g
passed_alike None f g p = refl
passed_alike (Some ns) f g p = p ns

quiet_passed : (es : List PlainEvent) (ns : List NextNode) → events_passed (but_comments es) ns ≡ events_passed es ns
quiet_passed [] ns = refl
quiet_passed (e ∷ es) ns =
    comment_aside e.kind e.span (but_comments es) ns
    ∙ passed_alike (event_passed e.kind ns) (events_passed (but_comments es)) (events_passed es) (quiet_passed es)

reading_pairs : (o : OptionsData) (x : List ℕ) (es : List PlainEvent) → AnswersReading o x es → InPairs es
reading_pairs o x es a =
    sym (quiet_passed es [])
    ∙ (ap (λ gs. events_passed gs []) (sym a.told)
    ∙ (ap (λ ts. events_passed (events_told o ts) []) a.reading.events_are ∙ stream_pairs o a.reading.stream))

pub answer_pairs : (o : OptionsData) (x : List ℕ) (es : List PlainEvent) → run o x ≡ Ok es → InPairs es
answer_pairs o x es e = reading_pairs o x es (answer_reads o x es e)
