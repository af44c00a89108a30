-- The plain events that the code's events stand for.
use Rattle.std.specs.Prelude.{List, map}
use Rattle.std.specs.Option.{option_map}
use Rattle.granit_base.specs.declared.place.Span.{Span}
use Rattle.granit_lexemes.specs.PlainEvent.{PlainEvent, PlainVersion, EventKind, StreamStart, StreamEnd, DocumentStart}
use Rattle.granit_lexemes.specs.PlainEvent.{DocumentEnd, Alias, Anchor, UnresolvedAlias, Comment, Scalar, SequenceStart}
use Rattle.granit_lexemes.specs.PlainEvent.{SequenceEnd, MappingStart, MappingEnd}
use Rattle.granit_event.specs.declared.event.YamlVersion.{YamlVersion}
use Rattle.granit_event.specs.declared.event.Event.{Event}
use Rattle.granit_event.specs.declared.event.Event.TheVariants as events

abbrev pub plain_version : YamlVersion → PlainVersion
plain_version v = record { major = v.major; minor = v.minor }

abbrev pub event_kind : Event → EventKind
event_kind events.StreamStart = StreamStart
event_kind events.StreamEnd = StreamEnd
event_kind (events.DocumentStart explicit version) = DocumentStart explicit (option_map plain_version version)
event_kind events.DocumentEnd = DocumentEnd
event_kind (events.Alias anchor) = Alias anchor
event_kind (events.Anchor anchor name) = Anchor anchor name
event_kind (events.UnresolvedAlias name) = UnresolvedAlias name
event_kind (events.Comment text placement) = Comment text placement
event_kind (events.Scalar text style anchor tag) = Scalar text style anchor tag
event_kind (events.SequenceStart style anchor tag) = SequenceStart style anchor tag
event_kind events.SequenceEnd = SequenceEnd
event_kind (events.MappingStart style anchor tag) = MappingStart style anchor tag
event_kind events.MappingEnd = MappingEnd

abbrev pub plain_event : Event × Span → PlainEvent
plain_event e = record { kind = event_kind e.0; span = e.1 }

abbrev pub plain_events : List (Event × Span) → List PlainEvent
plain_events es = map plain_event es
