-- The real events: anchors by their numbers, tags by what their handles stand for, and anchors' events where such are
-- asked for.
use Rattle.std.specs.Prelude.{ℕ, zero, suc, ◌-◌, ◌++◌, Bool, true, false, if◌then◌else◌, List, [], ◌∷◌, Option, Some}
use Rattle.std.specs.Prelude.{None}
use Rattle.granit_base.specs.Written.{Written}
use Rattle.granit_base.specs.declared.place.Span.{Span}
use Rattle.granit_base.specs.declared.style.StructureStyle.{StructureStyle}
use Rattle.granit_base.specs.declared.style.StructureStyle.TheVariants.{Block, Flow}
use Rattle.granit_error.specs.OptionsData.{OptionsData}
use Rattle.granit_lexemes.specs.PlainEvent.{told_length}
use Rattle.granit_lexemes.specs.Source.{Source}
use Rattle.granit_lexemes.specs.PlainEvent as plain
use Rattle.granit_lexemes.specs.PlainEvent.{PlainEvent, PlainTag, PlainVersion, event_at}
use Rattle.granit_base.specs.Place.{Mark}
use Rattle.granit_language.specs.Node.{TreeProperties, NoProperties, One, Two}
use Rattle.granit_language.specs.Scoping.{prefix_of, number_of_anchor}
use Rattle.granit_language.specs.Terminal.{PropertyKind, Anchor, Tag, At}
use Rattle.granit_language.specs.TreeEvents.{TreeEventKind, StreamStarts, StreamEnds, DocumentEnds, SequenceEnds}
use Rattle.granit_language.specs.TreeEvents.{MappingEnds, DocumentStarts, AliasIs, ScalarIs, SequenceStarts}
use Rattle.granit_language.specs.TreeEvents.{MappingStarts, TreeEvent}

-- ---- the anchor and the tag of properties

abbrev pub AnchorTold : Type 0
AnchorTold = Option (ℕ × Written × Source)

abbrev pub TagTold : Type 0
TagTold = Option (PlainTag × Source)

-- an anchor's number is one more than those before it
abbrev pub anchor_in : PropertyKind → At → AnchorTold → AnchorTold
anchor_in (Anchor name) i other = Some (suc i.scope.count, name, i.shown)
anchor_in (Tag handle suffix) i other = other

abbrev pub or_handle : List ℕ → Option (List ℕ) → List ℕ
or_handle handle (Some prefix) = prefix
or_handle handle None = handle

abbrev pub tag_in : OptionsData → PropertyKind → At → TagTold → TagTold
tag_in o (Anchor name) i other = other
tag_in o (Tag handle suffix) i other =
    Some (
      record { handle = or_handle handle (prefix_of o handle i.scope); suffix = suffix; original_handle = handle },
      i.shown,
    )

abbrev pub properties_anchor : TreeProperties → AnchorTold
properties_anchor NoProperties = None
properties_anchor (One k i) = anchor_in k i None
properties_anchor (Two k i m j) = anchor_in m j (anchor_in k i None)

abbrev pub properties_tag : OptionsData → TreeProperties → TagTold
properties_tag o NoProperties = None
properties_tag o (One k i) = tag_in o k i None
properties_tag o (Two k i m j) = tag_in o m j (tag_in o k i None)

abbrev pub number_told : AnchorTold → ℕ
number_told None = 0
number_told (Some a) = a.0

abbrev pub tag_told : TagTold → Option PlainTag
tag_told None = None
tag_told (Some t) = Some t.0

-- ---- spans

abbrev pub one_less : ℕ → ℕ
one_less zero = zero
one_less (suc n) = n

-- a column from 0
abbrev pub indent_told : Option ℕ → Option ℕ
indent_told None = None
indent_told (Some c) = Some (one_less c)

abbrev pub span_told : TagTold → Mark → Mark → Option ℕ → Span
span_told None from to indent = record { start = from; end = to; indent = indent; tag_start = None; tag_length = 0 }
span_told (Some t) from to indent = record {
  start = from;
  end = to;
  indent = indent;
  tag_start = Some t.1.start;
  tag_length = told_length (t.1.end.place.index - t.1.start.place.index);
}

-- ---- events

abbrev pub anchor_told : OptionsData → AnchorTold → List PlainEvent → List PlainEvent
anchor_told o None more = more
anchor_told o (Some a) more = if o.emit_anchor_events then event_at (plain.Anchor a.0 a.1) a.2 ∷ more else more

abbrev pub node_told :
    OptionsData → TreeProperties → (ℕ → Option PlainTag → plain.EventKind) → Mark → Mark → Option ℕ → List PlainEvent
node_told o p kind from to indent =
    record {
      kind = kind (number_told (properties_anchor p)) (tag_told (properties_tag o p));
      span = span_told (properties_tag o p) from to (indent_told indent);
    }
    ∷ anchor_told o (properties_anchor p) []

abbrev pub plain_told : plain.EventKind → Mark → Mark → Option ℕ → List PlainEvent
plain_told kind from to indent =
    record {
      kind = kind;
      span = record { start = from; end = to; indent = indent_told indent; tag_start = None; tag_length = 0 };
    }
    ∷ []

abbrev pub style_told : (flow : Bool) → StructureStyle
style_told true = Flow
style_told false = Block

abbrev pub version_told : Option (ℕ × ℕ) → Option PlainVersion
version_told None = None
version_told (Some v) = Some (record { major = v.0; minor = v.1 })

abbrev pub alias_told : Written → Option ℕ → plain.EventKind
alias_told name (Some n) = plain.Alias n
alias_told name None = plain.UnresolvedAlias name

abbrev pub kind_told : OptionsData → TreeEventKind → Mark → Mark → Option ℕ → List PlainEvent
kind_told o StreamStarts from to indent = plain_told plain.StreamStart from to indent
kind_told o StreamEnds from to indent = plain_told plain.StreamEnd from to indent
kind_told o DocumentEnds from to indent = plain_told plain.DocumentEnd from to indent
kind_told o SequenceEnds from to indent = plain_told plain.SequenceEnd from to indent
kind_told o MappingEnds from to indent = plain_told plain.MappingEnd from to indent
kind_told o (DocumentStarts explicit version) from to indent =
    plain_told (plain.DocumentStart explicit (version_told version)) from to indent
kind_told o (AliasIs name s) from to indent =
    plain_told (alias_told name (number_of_anchor name.characters s)) from to indent
kind_told o (ScalarIs p style text) from to indent = node_told o p (plain.Scalar text style) from to indent
kind_told o (SequenceStarts flow p) from to indent = node_told o p
    (plain.SequenceStart (style_told flow)) from to indent
kind_told o (MappingStarts flow p) from to indent = node_told o p (plain.MappingStart (style_told flow)) from to indent

abbrev pub event_told : OptionsData → TreeEvent → List PlainEvent
event_told o e = kind_told o e.kind e.from e.to e.indent

-- all of them
abbrev pub events_told : OptionsData → List TreeEvent → List PlainEvent
events_told o [] = []
events_told o (e ∷ es) = event_told o e ++ events_told o es
