-- The events of a JSON text, each where its text stands in the whole.
use Rattle.std.specs.List.{list_all}
use Rattle.std.specs.Prelude.{ℕ, false, List, [], ◌∷◌, ◌++◌, None}
use Rattle.granit_base.specs.Written.{Written, lent}
use Rattle.granit_base.specs.declared.style.ScalarStyle.{ScalarStyle}
use Rattle.granit_base.specs.declared.style.ScalarStyle.TheVariants.{DoubleQuoted, Plain}
use Rattle.granit_base.specs.declared.style.StructureStyle.TheVariants.{Flow}
use Rattle.granit_canonical_steps.specs.Canonical.{spot, stretch}
use Rattle.granit_json_scalars.specs.Json.{Json, Elements, Members}
use Rattle.granit_json_scalars.specs.JsonScalars.{is_unescaped}
use Rattle.granit_json_scalars.specs.JsonText.{ValueText, text, bare, no_elements, elements, no_members, members}
use Rattle.granit_json_scalars.specs.JsonText.{PartText}
use Rattle.granit_json_scalars.specs.JsonText.{part, ElementsText, one_element, next_element, MemberText, member}
use Rattle.granit_json_scalars.specs.JsonText.{MembersText}
use Rattle.granit_json_scalars.specs.JsonText.{one_member, next_member, JsonText}
use Rattle.granit_language.specs.Terminal.{text_start}
use Rattle.granit_lexemes.specs.PlainEvent.{DocumentEnd, DocumentStart, EventKind, MappingEnd, MappingStart, PlainEvent}
use Rattle.granit_lexemes.specs.PlainEvent.{Scalar, SequenceEnd, SequenceStart, StreamEnd, StreamStart, event_at}
use Rattle.granit_lexemes.specs.PlainEvent.{event_on}
use Rattle.granit_lexemes.specs.Source.{Source}

-- the text of a string that is written so, which is lent where nothing in it is escaped
abbrev pub string_text : (source characters : List ℕ) → Written
string_text source characters = record { characters = characters; is_borrowed = list_all is_unescaped source }

-- a scalar and the start of a collection without anchor and tag
abbrev pub scalar_of : ScalarStyle → Written → EventKind
scalar_of style written = Scalar written style 0 None

abbrev pub array_start : EventKind
array_start = SequenceStart Flow 0 None

abbrev pub object_start : EventKind
object_start = MappingStart Flow 0 None

abbrev mutual
  pub value_events : (x : List ℕ) {t : Json} {from to : List ℕ} → ValueText t from to → List PlainEvent →
      List PlainEvent
  value_events x (text {characters = characters} {from = from} {to = to} source s e) more =
      event_at (scalar_of DoubleQuoted (string_text source characters)) (stretch x from to) ∷ more
  value_events x (bare {characters = characters} {from = from} {to = to} b e) more =
      event_at (scalar_of Plain (lent characters)) (stretch x from to) ∷ more
  value_events x (no_elements {from = from} {to = to} white w e) more =
      event_at array_start (stretch x from (white ++ 0x5D ∷ to))
      ∷ event_at SequenceEnd (stretch x (0x5D ∷ to) to) ∷ more
  value_events x (elements {from = from} {to = to} inside e es) more =
      event_at array_start (stretch x from inside)
      ∷ element_events x es (event_at SequenceEnd (stretch x (0x5D ∷ to) to) ∷ more)
  value_events x (no_members {from = from} {to = to} white w e) more =
      event_at object_start (stretch x from (white ++ 0x7D ∷ to))
      ∷ event_at MappingEnd (stretch x (0x7D ∷ to) to) ∷ more
  value_events x (members {from = from} {to = to} inside e ms) more =
      event_at object_start (stretch x from inside)
      ∷ members_events x ms (event_at MappingEnd (stretch x (0x7D ∷ to) to) ∷ more)

  pub part_events : (x : List ℕ) {t : Json} {from to : List ℕ} → PartText t from to → List PlainEvent →
      List PlainEvent
  part_events x (part before value after w e v d) more = value_events x d more

  pub element_events : (x : List ℕ) {es : Elements} {from to : List ℕ} → ElementsText es from to → List PlainEvent →
      List PlainEvent
  element_events x (one_element p) more = part_events x p more
  element_events x (next_element middle es p) more = element_events x es (part_events x p more)

  pub member_events : (x : List ℕ) {name : List ℕ} {t : Json} {from to : List ℕ} → MemberText name t from to →
      List PlainEvent → List PlainEvent
  member_events x (member {name = name} before source between value w s b e p) more =
      let behind = between ++ 0x3A ∷ value in
      event_at (scalar_of DoubleQuoted (string_text source name)) (stretch x (0x22 ∷ (source ++ 0x22 ∷ behind)) behind)
      ∷ part_events x p more

  pub members_events : (x : List ℕ) {ms : Members} {from to : List ℕ} → MembersText ms from to → List PlainEvent →
      List PlainEvent
  members_events x (one_member m) more = member_events x m more
  members_events x (next_member middle ms m) more = members_events x ms (member_events x m more)

-- where the first lexeme of a value stands, which its document starts at
abbrev pub first_source : (x : List ℕ) {t : Json} {from to : List ℕ} → ValueText t from to → Source
first_source x (text {from = from} {to = to} source s e) = stretch x from to
first_source x (bare {from = from} {to = to} b e) = stretch x from to
first_source x (no_elements {from = from} {to = to} white w e) = stretch x from (white ++ 0x5D ∷ to)
first_source x (elements {from = from} inside e es) = stretch x from inside
first_source x (no_members {from = from} {to = to} white w e) = stretch x from (white ++ 0x7D ∷ to)
first_source x (members {from = from} inside e ms) = stretch x from inside

-- the events of a whole text
abbrev pub json_events : (x : List ℕ) {t : Json} → JsonText x t → List PlainEvent
json_events x (part before value after w e v d) =
    event_on StreamStart text_start
    ∷ event_at (DocumentStart false None) (first_source x d)
    ∷ value_events x d (event_on DocumentEnd (spot x (after ++ [])) ∷ event_on StreamEnd (spot x []) ∷ [])
