-- The printed lines, in UTF-8.
use Rattle.std.specs.Prelude.{ℕ, Bool, true, false, ◌==◌, ◌&&◌, ◌||◌, nat_le, if◌then◌else◌, List, [], ◌∷◌, ◌++◌, codes}
use Rattle.std.specs.Prelude.{Option, Some, None, Result, Ok, Err}
use Rattle.std.specs.Fmt.{decimal, radix_digits}
use Rattle.std.specs.List.{flat_map}
use Rattle.granit_base.specs.Place.{Place}
use Rattle.granit_base.specs.declared.style.Placement.{Placement}
use Rattle.granit_base.specs.declared.style.Placement.TheVariants.{Above, Right, Free, Last}
use Rattle.granit_base.specs.declared.style.ScalarStyle.{ScalarStyle}
use Rattle.granit_base.specs.declared.style.ScalarStyle.TheVariants.{Plain, SingleQuoted, DoubleQuoted, Literal, Folded}
use Rattle.granit_base.specs.declared.style.StructureStyle.{StructureStyle}
use Rattle.granit_base.specs.declared.style.StructureStyle.TheVariants.{Block, Flow}
use Rattle.granit_error.specs.FaultKind.{fault_number, fault_words}
use Rattle.granit_error.specs.Refused.{printed_column, place_words}
use Rattle.granit_lexemes.specs.Outcome.{Fault}
use Rattle.granit_lexemes.specs.PlainEvent.{PlainEvent, PlainVersion, PlainTag, EventKind, StreamStart, StreamEnd}
use Rattle.granit_lexemes.specs.PlainEvent.{DocumentStart, DocumentEnd, Alias, Anchor, UnresolvedAlias, Comment, Scalar}
use Rattle.granit_lexemes.specs.PlainEvent.{SequenceStart, SequenceEnd, MappingStart, MappingEnd}

-- a character between quotes
unfoldable pub quoted_char : ℕ → List ℕ
quoted_char c =
    if c == 0x22 || c == 0x5C then 0x5C ∷ c ∷ []
    else if nat_le 0x20 c && nat_le c 0x7E then c ∷ []
    else if c == 0x0A then codes "\\n"
    else if c == 0x0D then codes "\\r"
    else if c == 0x09 then codes "\\t"
    else (codes "\\u{" ++ radix_digits 16 false c) ++ codes "}"

abbrev pub quoted_line_text : List ℕ → List ℕ
quoted_line_text text = flat_map quoted_char text

abbrev pub in_quotes : List ℕ → List ℕ
in_quotes text = (codes "\"" ++ quoted_line_text text) ++ codes "\""

abbrev pub style_word : ScalarStyle → List ℕ
style_word Plain = codes "plain"
style_word SingleQuoted = codes "single"
style_word DoubleQuoted = codes "double"
style_word Literal = codes "literal"
style_word Folded = codes "folded"

abbrev pub structure_word : StructureStyle → List ℕ
structure_word Block = codes "block"
structure_word Flow = codes "flow"

abbrev pub explicit_word : Bool → List ℕ
explicit_word true = codes "explicit"
explicit_word false = codes "implicit"

abbrev pub placement_word : Placement → List ℕ
placement_word Above = codes "above"
placement_word Right = codes "right"
placement_word Free = codes "free"
placement_word Last = codes "last"

abbrev pub version_words : Option PlainVersion → List ℕ
version_words None = []
version_words (Some v) = ((codes " " ++ decimal v.major) ++ codes ".") ++ decimal v.minor

abbrev pub anchor_words : ℕ → List ℕ
anchor_words n = if n == 0 then [] else codes " &" ++ decimal n

abbrev pub tag_words : Option PlainTag → List ℕ
tag_words None = []
tag_words (Some t) = ((codes " !" ++ in_quotes t.handle) ++ codes " ") ++ in_quotes t.suffix

-- the anchor and the tag of a node, where it has them
abbrev pub property_words : ℕ → Option PlainTag → List ℕ
property_words anchor tag = anchor_words anchor ++ tag_words tag

abbrev pub event_words : EventKind → List ℕ
event_words StreamStart = codes "StreamStart"
event_words StreamEnd = codes "StreamEnd"
event_words (DocumentStart explicit version) = (codes "DocumentStart " ++ explicit_word explicit)
    ++ version_words version
event_words DocumentEnd = codes "DocumentEnd"
event_words (Alias anchor) = codes "Alias " ++ decimal anchor
event_words (Anchor anchor name) = ((codes "Anchor " ++ decimal anchor) ++ codes " ") ++ in_quotes name.characters
event_words (UnresolvedAlias name) = codes "UnresolvedAlias " ++ in_quotes name.characters
event_words (Comment text placement) = ((codes "Comment " ++ placement_word placement) ++ codes " ")
    ++ in_quotes text.characters
event_words (Scalar text style anchor tag) = (((codes "Scalar " ++ style_word style) ++ codes " ")
    ++ in_quotes text.characters) ++ property_words anchor tag
event_words (SequenceStart style anchor tag) = (codes "SequenceStart " ++ structure_word style)
    ++ property_words anchor tag
event_words SequenceEnd = codes "SequenceEnd"
event_words (MappingStart style anchor tag) = (codes "MappingStart " ++ structure_word style)
    ++ property_words anchor tag
event_words MappingEnd = codes "MappingEnd"

-- `index:line:column`, the column from 1
abbrev pub place_line : Place → List ℕ
place_line p = (((decimal p.index ++ codes ":") ++ decimal p.line) ++ codes ":") ++ decimal (printed_column p.column)

-- the event, a space, its span and a line feed
unfoldable pub event_line : PlainEvent → List ℕ
event_line e = ((((event_words e.kind ++ codes " ") ++ place_line e.span.start.place) ++ codes "-")
    ++ place_line e.span.end.place) ++ codes "\n"

abbrev pub event_lines : List PlainEvent → List ℕ
event_lines events = flat_map event_line events

-- `fault N: `, its words and place, and a line feed
abbrev pub fault_line : Fault → List ℕ
fault_line f = (((codes "fault " ++ decimal (fault_number f.kind)) ++ codes ": ")
    ++ (fault_words f.kind ++ place_words f.mark.place)) ++ codes "\n"

-- what is printed for an answer of the machine
abbrev pub answer_lines : Result (List PlainEvent) Fault → List ℕ
answer_lines (Ok events) = event_lines events
answer_lines (Err f) = fault_line f
