-- How events are given: behind held comments, and with the properties of their node.
use Rattle.std.specs.Prelude.{ℕ, ◌-◌, if◌then◌else◌, List, [], ◌∷◌, ◌++◌, codes, Option, Some, None}
use Rattle.granit_base.specs.Place.{Mark}
use Rattle.granit_base.specs.Written.{Written, lent}
use Rattle.granit_base.specs.declared.place.Span.{Span}
use Rattle.granit_base.specs.declared.style.ScalarStyle.TheVariants.{Plain}
use Rattle.granit_error.specs.OptionsData.{OptionsData}
use Rattle.granit_lexemes.specs.PlainEvent.{told_length}
use Rattle.granit_lexemes.specs.Source.{Source}
use Rattle.granit_lexemes.specs.PlainEvent.{PlainEvent, PlainTag, EventKind, event_at, event_on, Anchor, Scalar}
use Rattle.granit_machine.specs.Frames.{AtKey, AtQuestion, NodeProperties, Frame, WithProperties, BlockMapping, Waiting}
use Rattle.granit_machine.specs.Frames.{ParserState}

abbrev pub null_kind : EventKind
null_kind = Scalar (lent (codes "~")) Plain 0 None

-- an empty node
abbrev pub null_at : Mark → PlainEvent
null_at m = event_on null_kind m

abbrev pub with_indent : Option ℕ → PlainEvent → PlainEvent
with_indent indent e = record { kind = e.kind; span = record (e.span) { indent = indent } }

abbrev pub flush_held : Option Waiting → ParserState → ParserState
flush_held None p = p
flush_held (Some w) p = record p { waiting = None; given = p.given ++ w.held }

-- the held comments
abbrev pub flush : ParserState → ParserState
flush p = flush_held p.waiting p

abbrev pub put : PlainEvent → ParserState → ParserState
put e p = record p { last_end = e.span.end; given = p.given ++ e ∷ [] }

-- an event behind the held comments
abbrev pub give : PlainEvent → ParserState → ParserState
give e p = put e (flush p)

abbrev pub empty_by : Option Waiting → ParserState → ParserState
empty_by None p = p
empty_by (Some w) p = flush (put (null_at w.at) p)

-- the empty node of what waits, before the held comments
abbrev pub give_empty : ParserState → ParserState
give_empty p = empty_by p.waiting p

-- ---- a node's first event

abbrev pub no_properties : Mark → NodeProperties
no_properties m = record { anchor = None; tag = None; end = m }

abbrev pub properties_on : List Frame → Mark → NodeProperties
properties_on (WithProperties q ∷ fs) m = q
properties_on fs m = no_properties m

abbrev pub below_properties : List Frame → List Frame
below_properties (WithProperties q ∷ fs) = fs
below_properties fs = fs

-- the first event of a key of a block mapping tells its column
abbrev pub key_indent : List Frame → Option ℕ → Option ℕ
key_indent (BlockMapping column AtKey ∷ fs) own = Some column
key_indent (BlockMapping column AtQuestion ∷ fs) own = Some column
key_indent fs own = own

abbrev pub anchor_number : Option (ℕ × Written × Source) → ℕ
anchor_number None = 0
anchor_number (Some a) = a.0

abbrev pub tag_value : Option (PlainTag × Source) → Option PlainTag
tag_value None = None
tag_value (Some t) = Some t.0

abbrev pub span_with_tag : Option (PlainTag × Source) → Source → Option ℕ → Span
span_with_tag None s indent = record { start = s.start; end = s.end; indent = indent; tag_start = None; tag_length = 0 }
span_with_tag (Some t) s indent =
    record {
      start = s.start;
      end = s.end;
      indent = indent;
      tag_start = Some t.1.start;
      tag_length = told_length (t.1.end.place.index - t.1.start.place.index);
    }

-- the event of an anchor, where such are asked for
abbrev pub tell_anchor : OptionsData → Option (ℕ × Written × Source) → ParserState → ParserState
tell_anchor o None p = p
tell_anchor o (Some a) p =
    if o.emit_anchor_events then record p { given = p.given ++ event_at (Anchor a.0 a.1) a.2 ∷ [] } else p

abbrev pub node_event_by : OptionsData → NodeProperties → (ℕ → Option PlainTag → EventKind) → Source → Option ℕ
    → ParserState → ParserState
node_event_by o q kind source indent p =
    tell_anchor o q.anchor
    (give (record {
      kind = kind (anchor_number q.anchor) (tag_value q.tag);
      span = span_with_tag q.tag source (key_indent p.frames indent);
    }) p)

-- a node's first event with its properties, and its anchor's event
unfoldable pub node_event : OptionsData → (ℕ → Option PlainTag → EventKind) → Source → Option ℕ → ParserState
    → ParserState
node_event o kind source indent p =
    node_event_by o (properties_on p.frames source.end) kind source indent
    (record p { frames = below_properties p.frames })
