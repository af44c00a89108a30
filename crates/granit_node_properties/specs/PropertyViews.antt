-- The properties of a node and what its first event bears, as the machine has them.
use Rattle.std.specs.Prelude.{ℕ, Option}
use Rattle.std.specs.Option.{option_map}
use Rattle.granit_base.specs.Written.{Written}
use Rattle.granit_lexemes.specs.PlainEvent.{EventKind, MappingStart, PlainTag, Scalar, SequenceStart}
use Rattle.granit_lexemes.specs.Source.{Source}
use Rattle.granit_machine.specs.Frames as spec
use Rattle.granit_node_properties.specs.declared.properties.NodeAnchor.{NodeAnchor}
use Rattle.granit_node_properties.specs.declared.properties.NodeProperties.{NodeProperties}
use Rattle.granit_node_properties.specs.declared.properties.NodeTag.{NodeTag}

abbrev pub anchor_view : NodeAnchor → ℕ × Written × Source
anchor_view a = (a.number, a.name, record { start = a.start; end = a.end })

abbrev pub tag_view : NodeTag → PlainTag × Source
tag_view t = (t.tag, record { start = t.start; end = t.end })

abbrev pub properties_view : NodeProperties → spec.NodeProperties
properties_view q = record { anchor = option_map anchor_view q.anchor; tag = option_map tag_view q.tag; end = q.end }

-- a node's event with the number of an anchor and a tag
abbrev pub bears : EventKind → ℕ → Option PlainTag → EventKind
bears (Scalar text style none untagged) number tag = Scalar text style number tag
bears (SequenceStart style none untagged) number tag = SequenceStart style number tag
bears (MappingStart style none untagged) number tag = MappingStart style number tag
bears kind number tag = kind
