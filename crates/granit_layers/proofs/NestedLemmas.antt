-- What comes through of a source of at most one document.
use Rattle.std.proofs.Common.{◌≡◌, Bool, true, false, if◌then◌else◌, List, [], ◌∷◌, Option, Some, None, refl, ap, sym}
use Rattle.std.specs.Prelude.{is_some}
use Rattle.std.specs.Option.{option_map}
use Rattle.granit_base.specs.declared.place.Span.{Span}
use Rattle.granit_event.specs.declared.event.Event.{Event}
use Rattle.granit_event.specs.Events.{event_kind}
use Rattle.granit_layers.specs.Nested.{IsOneDocument, PartMayStand, comes_through, given_above, given_from}
use Rattle.granit_layers.specs.Nested.{those_through}
use Rattle.granit_layers.specs.Turning.{part_of, turn_on}
use Rattle.granit_layers.specs.declared.turn.Part.{Part}
use Rattle.granit_layers.specs.declared.turn.Part.TheVariants as parts

-- one event of such a source, by what it is
one_event : (emits : Bool) (ended : Option Span) (e : Event × Span) (p : Part) (Fits : Bool → Type 0) (IsLast : Type 0)
    (more : Option Span → Option (List (Event × Span))) (rest : List (Event × Span))
    → ((end : Option Span) → Fits (is_some end) → more end ≡ Some rest) → (IsLast → rest ≡ [])
    → PartMayStand (is_some ended) p Fits IsLast
    → given_from ended (turn_on false emits ended e p) more ≡ Some (if comes_through emits p then e ∷ rest else rest)
one_event emits ended e parts.StreamEnd Fits IsLast more rest on last fits = ap Some (sym (last fits))
one_event true ended e parts.Comment Fits IsLast more rest on last fits =
    ap (option_map (λ es. e ∷ es)) (on ended fits)
one_event false ended e parts.Comment Fits IsLast more rest on last fits = on ended fits
one_event emits (Some end) e parts.Start Fits IsLast more rest on last fits = absurd fits
one_event emits (Some end) e parts.DocumentEnd Fits IsLast more rest on last fits = absurd fits
one_event emits (Some end) e parts.Content Fits IsLast more rest on last fits = absurd fits
one_event emits None e parts.Start Fits IsLast more rest on last fits = on None fits
one_event emits None e parts.DocumentEnd Fits IsLast more rest on last fits = on (Some e.1) fits
one_event emits None e parts.Content Fits IsLast more rest on last fits =
    ap (option_map (λ es. e ∷ es)) (on None fits)

none_through : (emits : Bool) (es : List (Event × Span)) → es ≡ [] → those_through emits es ≡ []
none_through emits es none = ap (those_through emits) none

-- all of them
pub one_document : (emits : Bool) (ended : Option Span) (es : List (Event × Span)) → IsOneDocument (is_some ended) es
    → given_above emits ended es ≡ Some (those_through emits es)
one_document emits ended [] one = refl
one_document emits ended (e ∷ es) one =
    one_event emits ended e (part_of (event_kind e.0)) (λ behind. IsOneDocument behind es) (es ≡ [])
    (λ end. given_above emits end es) (those_through emits es) (λ end fits. one_document emits end es fits)
    (none_through emits es) one
