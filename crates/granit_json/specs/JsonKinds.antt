-- What is told of a JSON value, wherever its text stands.
pub use Rattle.granit_json_scalars.specs.JsonText.{NamesFit}
pub use Rattle.granit_json_scalars.specs.Json.{Json, json_depth}
use Rattle.std.specs.Prelude.{false, List, [], ◌∷◌, map, None}
use Rattle.granit_base.specs.declared.style.ScalarStyle.TheVariants.{DoubleQuoted, Plain}
use Rattle.granit_json_scalars.specs.Json.{Text, Bare, Array, Object, Elements, NoElement, AfterElements, Members}
use Rattle.granit_json_scalars.specs.Json.{NoMember, AfterMembers}
use Rattle.granit_json_scalars.specs.JsonEvents.{array_start, object_start, scalar_of}
use Rattle.granit_lexemes.specs.Basics.{owned}
use Rattle.granit_lexemes.specs.PlainEvent.{DocumentEnd, DocumentStart, EventKind, MappingEnd, PlainEvent, Scalar}
use Rattle.granit_lexemes.specs.PlainEvent.{SequenceEnd, StreamEnd, StreamStart}

-- what an event tells, whether its text is lent or not
abbrev pub unlent : EventKind → EventKind
unlent (Scalar written style anchor tag) = Scalar (owned written.characters) style anchor tag
unlent kind = kind

abbrev pub unlent_kinds : List PlainEvent → List EventKind
unlent_kinds es = map (λ (e : PlainEvent). unlent e.kind) es

-- in front of more
abbrev mutual
  pub value_kinds : Json → List EventKind → List EventKind
  value_kinds (Text characters) more = scalar_of DoubleQuoted (owned characters) ∷ more
  value_kinds (Bare characters) more = scalar_of Plain (owned characters) ∷ more
  value_kinds (Array es) more = array_start ∷ element_kinds es (SequenceEnd ∷ more)
  value_kinds (Object ms) more = object_start ∷ member_kinds ms (MappingEnd ∷ more)

  pub element_kinds : Elements → List EventKind → List EventKind
  element_kinds NoElement more = more
  element_kinds (AfterElements es t) more = element_kinds es (value_kinds t more)

  pub member_kinds : Members → List EventKind → List EventKind
  member_kinds NoMember more = more
  member_kinds (AfterMembers ms name t) more =
      member_kinds ms (scalar_of DoubleQuoted (owned name) ∷ value_kinds t more)

-- of a whole text: one document without `---`
abbrev pub json_kinds : Json → List EventKind
json_kinds t = StreamStart ∷ DocumentStart false None ∷ value_kinds t (DocumentEnd ∷ StreamEnd ∷ [])
