-- The events of a JSON text are those of its value.
use Rattle.std.proofs.Common.{List, [], ap, false, refl, ℕ, ◌++◌, ◌∙◌, ◌∷◌, ◌≡◌}
use Rattle.std.specs.Prelude.{None}
use Rattle.granit_base.specs.declared.style.ScalarStyle.TheVariants.{DoubleQuoted}
use Rattle.granit_canonical_steps.specs.Canonical.{spot, stretch}
use Rattle.granit_json_scalars.specs.Json.{Elements, Json, Members}
use Rattle.granit_json_scalars.specs.JsonEvents.{array_start, element_events, json_events, member_events}
use Rattle.granit_json_scalars.specs.JsonEvents.{members_events}
use Rattle.granit_json_scalars.specs.JsonEvents.{object_start, part_events, scalar_of, value_events}
use Rattle.granit_json.specs.JsonKinds.{element_kinds, json_kinds, member_kinds, unlent_kinds, value_kinds}
use Rattle.granit_json_scalars.specs.JsonText.{ElementsText, JsonText, MemberText, MembersText, PartText, ValueText}
use Rattle.granit_json_scalars.specs.JsonText.{bare}
use Rattle.granit_json_scalars.specs.JsonText.{elements, member, members, next_element, next_member, no_elements}
use Rattle.granit_json_scalars.specs.JsonText.{no_members}
use Rattle.granit_json_scalars.specs.JsonText.{one_element, one_member, part, text}
use Rattle.granit_lexemes.specs.Basics.{owned}
use Rattle.granit_lexemes.specs.PlainEvent.{DocumentEnd, DocumentStart, EventKind, MappingEnd, PlainEvent, SequenceEnd}
use Rattle.granit_lexemes.specs.PlainEvent.{StreamEnd, StreamStart, event_at, event_on}

module _ (x : List ℕ) where
  mutual
    value_told : {t : Json} {from to : List ℕ} (d : ValueText t from to) (more : List PlainEvent)
        → unlent_kinds (value_events x d more) ≡ value_kinds t (unlent_kinds more)
    value_told (text source s e) more = refl
    value_told (bare b e) more = refl
    value_told (no_elements white w e) more = refl
    value_told (elements {to = to} inside e d) more =
        ap (λ (ks : List EventKind). array_start ∷ ks)
        (elements_told d (event_at SequenceEnd (stretch x (0x5D ∷ to) to) ∷ more))
    value_told (no_members white w e) more = refl
    value_told (members {to = to} inside e d) more =
        ap (λ (ks : List EventKind). object_start ∷ ks)
        (members_told d (event_at MappingEnd (stretch x (0x7D ∷ to) to) ∷ more))

    part_told : {t : Json} {from to : List ℕ} (d : PartText t from to) (more : List PlainEvent)
        → unlent_kinds (part_events x d more) ≡ value_kinds t (unlent_kinds more)
    part_told (part before value after w e v d) more = value_told d more

    elements_told : {es : Elements} {from to : List ℕ} (d : ElementsText es from to) (more : List PlainEvent)
        → unlent_kinds (element_events x d more) ≡ element_kinds es (unlent_kinds more)
    elements_told (one_element p) more = part_told p more
    elements_told (next_element {es = es} middle d p) more =
        elements_told d (part_events x p more) ∙ ap (element_kinds es) (part_told p more)

    member_told : {name : List ℕ} {t : Json} {from to : List ℕ} (d : MemberText name t from to)
        (more : List PlainEvent)
        → unlent_kinds (member_events x d more)
        ≡ scalar_of DoubleQuoted (owned name) ∷ value_kinds t (unlent_kinds more)
    member_told (member {name = name} before source between value w s b e p) more =
        ap (λ (ks : List EventKind). scalar_of DoubleQuoted (owned name) ∷ ks) (part_told p more)

    members_told : {ms : Members} {from to : List ℕ} (d : MembersText ms from to) (more : List PlainEvent)
        → unlent_kinds (members_events x d more) ≡ member_kinds ms (unlent_kinds more)
    members_told (one_member m) more = member_told m more
    members_told (next_member {ms = ms} middle d m) more =
        members_told d (member_events x m more) ∙ ap (member_kinds ms) (member_told m more)

  pub text_told : (t : Json) (d : JsonText x t) → unlent_kinds (json_events x d) ≡ json_kinds t
  text_told t (part before value after w e v d) =
      ap (λ (ks : List EventKind). StreamStart ∷ DocumentStart false None ∷ ks)
      (value_told d (event_on DocumentEnd (spot x (after ++ [])) ∷ event_on StreamEnd (spot x []) ∷ []))
