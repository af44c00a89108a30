-- Lists of lexemes with flow collections, and their events. Above each stands a text that has these lexemes.
use Rattle.std.specs.Prelude.{List, [], ◌∷◌}
use Rattle.granit_lexemes.specs.declared.layout.Bracket.TheVariants.{Square, Curly}
use Rattle.granit_grammar_rows.specs.Row.{Row, is_read, anchor_at, tag_from, text_at, dash_at, question_at, colon_at}
use Rattle.granit_grammar_rows.specs.Row.{colon_of, comma_at, opener_at, closer_at, end_at, begins, on, inner, only}
use Rattle.granit_grammar_rows.specs.Row.{and_anchor, and_tag, and_both, StreamEnd, BareDocument, DocumentEnd}
use Rattle.granit_grammar_rows.specs.Row.{SequenceEnd, MappingEnd, Text, Null, Empty, BlockSequence, FlowSequence}
use Rattle.granit_grammar_rows.specs.Row.{BlockMapping, FlowMapping}

abbrev pub square_brackets : List Row
square_brackets =
    -- "[]"
    is_read (opener_at Square 0 0 ∷ closer_at Square 1 1 ∷ end_at 2 2 ∷ [])
    (on BareDocument 0 1 ∷ on (only FlowSequence) 0 1 ∷ on SequenceEnd 1 2 ∷ on DocumentEnd 2 2
    ∷ on StreamEnd 2 2 ∷ [])
    -- "[\n]"
    ∷ is_read (opener_at Square 0 0 ∷ closer_at Square 2 0 ∷ end_at 3 1 ∷ [])
    (on BareDocument 0 1 ∷ on (only FlowSequence) 0 1 ∷ on SequenceEnd 2 3 ∷ on DocumentEnd 3 3
    ∷ on StreamEnd 3 3 ∷ [])
    -- "? []"
    ∷ is_read (question_at 0 0 ∷ opener_at Square 2 2 ∷ closer_at Square 3 3 ∷ end_at 4 4 ∷ [])
    (on BareDocument 0 0 ∷ on (only BlockMapping) 0 0 ∷ inner 1 (only FlowSequence) 2 3 ∷ on SequenceEnd 3 4
    ∷ on (only Null) 4 4 ∷ on MappingEnd 4 4 ∷ on DocumentEnd 4 4 ∷ on StreamEnd 4 4 ∷ [])
    -- "[&x ]: "
    ∷ is_read (begins (opener_at Square 0 0) ∷ anchor_at 1 1 ∷ closer_at Square 4 4 ∷ colon_of 0 5 5 ∷ end_at 7 7 ∷ [])
    (on BareDocument 0 0 ∷ on (only BlockMapping) 0 0 ∷ inner 1 (only FlowSequence) 0 1
    ∷ on (and_anchor Null) 3 3 ∷ on SequenceEnd 4 5 ∷ on (only Null) 5 5 ∷ on MappingEnd 7 7
    ∷ on DocumentEnd 7 7 ∷ on StreamEnd 7 7 ∷ [])
    -- "[!t ]: "
    ∷ is_read (begins (opener_at Square 0 0) ∷ tag_from 1 1 ∷ closer_at Square 4 4 ∷ colon_of 0 5 5 ∷ end_at 7 7 ∷ [])
    (on BareDocument 0 0 ∷ on (only BlockMapping) 0 0 ∷ inner 1 (only FlowSequence) 0 1 ∷ on (and_tag Empty) 3 3
    ∷ on SequenceEnd 4 5 ∷ on (only Null) 5 5 ∷ on MappingEnd 7 7 ∷ on DocumentEnd 7 7 ∷ on StreamEnd 7 7 ∷ [])
    -- "[a]: "
    ∷ is_read (begins (opener_at Square 0 0) ∷ text_at 1 2 1 ∷ closer_at Square 2 2 ∷ colon_of 0 3 3 ∷ end_at 5 5 ∷ [])
    (on BareDocument 0 0 ∷ on (only BlockMapping) 0 0 ∷ inner 1 (only FlowSequence) 0 1 ∷ on (only Text) 1 2
    ∷ on SequenceEnd 2 3 ∷ on (only Null) 3 3 ∷ on MappingEnd 5 5 ∷ on DocumentEnd 5 5 ∷ on StreamEnd 5 5 ∷ [])
    -- "[? ]: "
    ∷ is_read (begins (opener_at Square 0 0) ∷ question_at 1 1 ∷ closer_at Square 3 3 ∷ colon_of 0 4 4 ∷ end_at 6 6
    ∷ [])
    (on BareDocument 0 0 ∷ on (only BlockMapping) 0 0 ∷ inner 1 (only FlowSequence) 0 1
    ∷ on (only FlowMapping) 1 2 ∷ on (only Null) 3 3 ∷ on (only Null) 3 3 ∷ on MappingEnd 3 3
    ∷ on SequenceEnd 3 4 ∷ on (only Null) 4 4 ∷ on MappingEnd 6 6 ∷ on DocumentEnd 6 6 ∷ on StreamEnd 6 6 ∷ [])
    -- "[: ]: "
    ∷ is_read (begins (opener_at Square 0 0) ∷ colon_at 1 1 ∷ closer_at Square 3 3 ∷ colon_of 0 4 4 ∷ end_at 6 6 ∷ [])
    (on BareDocument 0 0 ∷ on (only BlockMapping) 0 0 ∷ inner 1 (only FlowSequence) 0 1
    ∷ on (only FlowMapping) 1 1 ∷ on (only Null) 1 1 ∷ on (only Null) 1 1 ∷ on MappingEnd 3 3
    ∷ on SequenceEnd 3 4 ∷ on (only Null) 4 4 ∷ on MappingEnd 6 6 ∷ on DocumentEnd 6 6 ∷ on StreamEnd 6 6 ∷ [])
    -- "&x []: "
    ∷ is_read (begins (anchor_at 0 0) ∷ opener_at Square 3 3 ∷ closer_at Square 4 4 ∷ colon_of 0 5 5 ∷ end_at 7 7 ∷ [])
    (on BareDocument 0 0 ∷ on (only BlockMapping) 0 0 ∷ inner 1 (and_anchor FlowSequence) 3 4
    ∷ on SequenceEnd 4 5 ∷ on (only Null) 5 5 ∷ on MappingEnd 7 7 ∷ on DocumentEnd 7 7 ∷ on StreamEnd 7 7 ∷ [])
    -- "!t []: "
    ∷ is_read (begins (tag_from 0 0) ∷ opener_at Square 3 3 ∷ closer_at Square 4 4 ∷ colon_of 0 5 5 ∷ end_at 7 7 ∷ [])
    (on BareDocument 0 0 ∷ on (only BlockMapping) 0 0 ∷ inner 1 (and_tag FlowSequence) 3 4 ∷ on SequenceEnd 4 5
    ∷ on (only Null) 5 5 ∷ on MappingEnd 7 7 ∷ on DocumentEnd 7 7 ∷ on StreamEnd 7 7 ∷ [])
    -- "? []: "
    ∷ is_read (question_at 0 0 ∷ begins (opener_at Square 2 2) ∷ closer_at Square 3 3 ∷ colon_of 0 4 4 ∷ end_at 6 6
    ∷ [])
    (on BareDocument 0 0 ∷ on (only BlockMapping) 0 0 ∷ inner 1 (only BlockMapping) 2 2
    ∷ inner 3 (only FlowSequence) 2 3 ∷ on SequenceEnd 3 4 ∷ on (only Null) 4 4 ∷ on MappingEnd 6 6
    ∷ on (only Null) 6 6 ∷ on MappingEnd 6 6 ∷ on DocumentEnd 6 6 ∷ on StreamEnd 6 6 ∷ [])
    -- ": []: "
    ∷ is_read (colon_at 0 0 ∷ begins (opener_at Square 2 2) ∷ closer_at Square 3 3 ∷ colon_of 0 4 4 ∷ end_at 6 6 ∷ [])
    (on BareDocument 0 0 ∷ on (only BlockMapping) 0 0 ∷ on (only Null) 0 0 ∷ on (only BlockMapping) 2 2
    ∷ inner 3 (only FlowSequence) 2 3 ∷ on SequenceEnd 3 4 ∷ on (only Null) 4 4 ∷ on MappingEnd 6 6
    ∷ on MappingEnd 6 6 ∷ on DocumentEnd 6 6 ∷ on StreamEnd 6 6 ∷ [])
    -- "[a: ]: "
    ∷ is_read (begins (opener_at Square 0 0) ∷ begins (text_at 1 2 1) ∷ colon_of 0 2 2 ∷ closer_at Square 4 4
    ∷ colon_of 0 5 5 ∷ end_at 7 7 ∷ [])
    (on BareDocument 0 0 ∷ on (only BlockMapping) 0 0 ∷ inner 1 (only FlowSequence) 0 1
    ∷ on (only FlowMapping) 1 1 ∷ on (only Text) 1 2 ∷ on (only Null) 2 2 ∷ on MappingEnd 4 4
    ∷ on SequenceEnd 4 5 ∷ on (only Null) 5 5 ∷ on MappingEnd 7 7 ∷ on DocumentEnd 7 7 ∷ on StreamEnd 7 7 ∷ [])
    -- "[...\n]\n"
    ∷ is_read (opener_at Square 0 0 ∷ text_at 1 4 1 ∷ closer_at Square 5 0 ∷ end_at 7 0 ∷ [])
    (on BareDocument 0 1 ∷ on (only FlowSequence) 0 1 ∷ on (only Text) 1 4 ∷ on SequenceEnd 5 6
    ∷ on DocumentEnd 6 6 ∷ on StreamEnd 7 7 ∷ [])
    -- "[!t &x ]"
    ∷ is_read (opener_at Square 0 0 ∷ tag_from 1 1 ∷ anchor_at 4 4 ∷ closer_at Square 7 7 ∷ end_at 8 8 ∷ [])
    (on BareDocument 0 1 ∷ on (only FlowSequence) 0 1 ∷ on (and_both Empty) 6 6 ∷ on SequenceEnd 7 8
    ∷ on DocumentEnd 8 8 ∷ on StreamEnd 8 8 ∷ [])
    -- "[? a : ]"
    ∷ is_read (opener_at Square 0 0 ∷ question_at 1 1 ∷ text_at 3 4 3 ∷ colon_at 5 5 ∷ closer_at Square 7 7
    ∷ end_at 8 8 ∷ [])
    (on BareDocument 0 1 ∷ on (only FlowSequence) 0 1 ∷ on (only FlowMapping) 1 2 ∷ on (only Text) 3 4
    ∷ on (only Null) 7 7 ∷ on MappingEnd 7 7 ∷ on SequenceEnd 7 8 ∷ on DocumentEnd 8 8 ∷ on StreamEnd 8 8 ∷ [])
    -- "[? &x ]"
    ∷ is_read (opener_at Square 0 0 ∷ question_at 1 1 ∷ anchor_at 3 3 ∷ closer_at Square 6 6 ∷ end_at 7 7 ∷ [])
    (on BareDocument 0 1 ∷ on (only FlowSequence) 0 1 ∷ on (only FlowMapping) 1 2 ∷ on (and_anchor Null) 5 5
    ∷ on (only Null) 6 6 ∷ on MappingEnd 6 6 ∷ on SequenceEnd 6 7 ∷ on DocumentEnd 7 7 ∷ on StreamEnd 7 7 ∷ [])
    -- "[: &x ]"
    ∷ is_read (opener_at Square 0 0 ∷ colon_at 1 1 ∷ anchor_at 3 3 ∷ closer_at Square 6 6 ∷ end_at 7 7 ∷ [])
    (on BareDocument 0 1 ∷ on (only FlowSequence) 0 1 ∷ on (only FlowMapping) 1 1 ∷ on (only Null) 1 1
    ∷ on (and_anchor Null) 5 5 ∷ on MappingEnd 6 6 ∷ on SequenceEnd 6 7 ∷ on DocumentEnd 7 7
    ∷ on StreamEnd 7 7 ∷ [])
    -- "!t [&x ]"
    ∷ is_read (tag_from 0 0 ∷ opener_at Square 3 3 ∷ anchor_at 4 4 ∷ closer_at Square 7 7 ∷ end_at 8 8 ∷ [])
    (on BareDocument 0 2 ∷ on (and_tag FlowSequence) 3 4 ∷ on (and_anchor Null) 6 6 ∷ on SequenceEnd 7 8
    ∷ on DocumentEnd 8 8 ∷ on StreamEnd 8 8 ∷ [])
    -- "[? !t ]"
    ∷ is_read (opener_at Square 0 0 ∷ question_at 1 1 ∷ tag_from 3 3 ∷ closer_at Square 6 6 ∷ end_at 7 7 ∷ [])
    (on BareDocument 0 1 ∷ on (only FlowSequence) 0 1 ∷ on (only FlowMapping) 1 2 ∷ on (and_tag Empty) 5 5
    ∷ on (only Null) 6 6 ∷ on MappingEnd 6 6 ∷ on SequenceEnd 6 7 ∷ on DocumentEnd 7 7 ∷ on StreamEnd 7 7 ∷ [])
    -- "[: !t ]"
    ∷ is_read (opener_at Square 0 0 ∷ colon_at 1 1 ∷ tag_from 3 3 ∷ closer_at Square 6 6 ∷ end_at 7 7 ∷ [])
    (on BareDocument 0 1 ∷ on (only FlowSequence) 0 1 ∷ on (only FlowMapping) 1 1 ∷ on (only Null) 1 1
    ∷ on (and_tag Empty) 5 5 ∷ on MappingEnd 6 6 ∷ on SequenceEnd 6 7 ∷ on DocumentEnd 7 7 ∷ on StreamEnd 7 7
    ∷ [])
    -- "- [!t ]"
    ∷ is_read (dash_at 0 2 0 ∷ opener_at Square 2 2 ∷ tag_from 3 3 ∷ closer_at Square 6 6 ∷ end_at 7 7 ∷ [])
    (on BareDocument 0 0 ∷ on (only BlockSequence) 0 0 ∷ on (only FlowSequence) 2 3 ∷ on (and_tag Empty) 5 5
    ∷ on SequenceEnd 6 7 ∷ on SequenceEnd 7 7 ∷ on DocumentEnd 7 7 ∷ on StreamEnd 7 7 ∷ [])
    -- "[a: !t ]"
    ∷ is_read (opener_at Square 0 0 ∷ begins (text_at 1 2 1) ∷ colon_of 0 2 2 ∷ tag_from 4 4 ∷ closer_at Square 7 7
    ∷ end_at 8 8 ∷ [])
    (on BareDocument 0 1 ∷ on (only FlowSequence) 0 1 ∷ on (only FlowMapping) 1 1 ∷ on (only Text) 1 2
    ∷ on (and_tag Empty) 6 6 ∷ on MappingEnd 7 7 ∷ on SequenceEnd 7 8 ∷ on DocumentEnd 8 8 ∷ on StreamEnd 8 8
    ∷ [])
    -- "[&x a]"
    ∷ is_read (opener_at Square 0 0 ∷ anchor_at 1 1 ∷ text_at 4 5 4 ∷ closer_at Square 5 5 ∷ end_at 6 6 ∷ [])
    (on BareDocument 0 1 ∷ on (only FlowSequence) 0 1 ∷ on (and_anchor Text) 4 5 ∷ on SequenceEnd 5 6
    ∷ on DocumentEnd 6 6 ∷ on StreamEnd 6 6 ∷ [])
    -- "[!t a]"
    ∷ is_read (opener_at Square 0 0 ∷ tag_from 1 1 ∷ text_at 4 5 4 ∷ closer_at Square 5 5 ∷ end_at 6 6 ∷ [])
    (on BareDocument 0 1 ∷ on (only FlowSequence) 0 1 ∷ on (and_tag Text) 4 5 ∷ on SequenceEnd 5 6
    ∷ on DocumentEnd 6 6 ∷ on StreamEnd 6 6 ∷ [])
    -- ": [a]"
    ∷ is_read (colon_at 0 0 ∷ opener_at Square 2 2 ∷ text_at 3 4 3 ∷ closer_at Square 4 4 ∷ end_at 5 5 ∷ [])
    (on BareDocument 0 0 ∷ on (only BlockMapping) 0 0 ∷ on (only Null) 0 0 ∷ on (only FlowSequence) 2 3
    ∷ on (only Text) 3 4 ∷ on SequenceEnd 4 5 ∷ on MappingEnd 5 5 ∷ on DocumentEnd 5 5 ∷ on StreamEnd 5 5 ∷ [])
    -- "[a: a]"
    ∷ is_read (opener_at Square 0 0 ∷ begins (text_at 1 2 1) ∷ colon_of 0 2 2 ∷ text_at 4 5 4 ∷ closer_at Square 5 5
    ∷ end_at 6 6 ∷ [])
    (on BareDocument 0 1 ∷ on (only FlowSequence) 0 1 ∷ on (only FlowMapping) 1 1 ∷ on (only Text) 1 2
    ∷ on (only Text) 4 5 ∷ on MappingEnd 5 5 ∷ on SequenceEnd 5 6 ∷ on DocumentEnd 6 6 ∷ on StreamEnd 6 6 ∷ [])
    -- "[&x : ]"
    ∷ is_read (opener_at Square 0 0 ∷ begins (anchor_at 1 1) ∷ colon_of 0 4 4 ∷ closer_at Square 6 6 ∷ end_at 7 7 ∷ [])
    (on BareDocument 0 1 ∷ on (only FlowSequence) 0 1 ∷ on (only FlowMapping) 1 1 ∷ on (and_anchor Null) 3 3
    ∷ on (only Null) 4 4 ∷ on MappingEnd 6 6 ∷ on SequenceEnd 6 7 ∷ on DocumentEnd 7 7 ∷ on StreamEnd 7 7 ∷ [])
    -- "&x [: ]"
    ∷ is_read (anchor_at 0 0 ∷ opener_at Square 3 3 ∷ colon_at 4 4 ∷ closer_at Square 6 6 ∷ end_at 7 7 ∷ [])
    (on BareDocument 0 2 ∷ on (and_anchor FlowSequence) 3 4 ∷ on (only FlowMapping) 4 4 ∷ on (only Null) 4 4
    ∷ on (only Null) 4 4 ∷ on MappingEnd 6 6 ∷ on SequenceEnd 6 7 ∷ on DocumentEnd 7 7 ∷ on StreamEnd 7 7 ∷ [])
    -- "!t &x []"
    ∷ is_read (tag_from 0 0 ∷ anchor_at 3 3 ∷ opener_at Square 6 6 ∷ closer_at Square 7 7 ∷ end_at 8 8 ∷ [])
    (on BareDocument 0 2 ∷ on (and_both FlowSequence) 6 7 ∷ on SequenceEnd 7 8 ∷ on DocumentEnd 8 8
    ∷ on StreamEnd 8 8 ∷ [])
    -- "? a: []"
    ∷ is_read (question_at 0 0 ∷ begins (text_at 2 3 2) ∷ colon_of 0 3 3 ∷ opener_at Square 5 5 ∷ closer_at Square 6 6
    ∷ end_at 7 7 ∷ [])
    (on BareDocument 0 0 ∷ on (only BlockMapping) 0 0 ∷ inner 1 (only BlockMapping) 2 2
    ∷ inner 3 (only Text) 2 3 ∷ on (only FlowSequence) 5 6 ∷ on SequenceEnd 6 7 ∷ on MappingEnd 7 7
    ∷ on (only Null) 7 7 ∷ on MappingEnd 7 7 ∷ on DocumentEnd 7 7 ∷ on StreamEnd 7 7 ∷ [])
    -- "[[]]"
    ∷ is_read (opener_at Square 0 0 ∷ opener_at Square 1 1 ∷ closer_at Square 2 2 ∷ closer_at Square 3 3 ∷ end_at 4 4
    ∷ [])
    (on BareDocument 0 1 ∷ on (only FlowSequence) 0 1 ∷ on (only FlowSequence) 1 2 ∷ on SequenceEnd 2 3
    ∷ on SequenceEnd 3 4 ∷ on DocumentEnd 4 4 ∷ on StreamEnd 4 4 ∷ [])
    -- "[&x , ]"
    ∷ is_read (opener_at Square 0 0 ∷ anchor_at 1 1 ∷ comma_at 4 4 ∷ closer_at Square 6 6 ∷ end_at 7 7 ∷ [])
    (on BareDocument 0 1 ∷ on (only FlowSequence) 0 1 ∷ on (and_anchor Null) 3 3 ∷ on SequenceEnd 6 7
    ∷ on DocumentEnd 7 7 ∷ on StreamEnd 7 7 ∷ [])
    -- "[!t , ]"
    ∷ is_read (opener_at Square 0 0 ∷ tag_from 1 1 ∷ comma_at 4 4 ∷ closer_at Square 6 6 ∷ end_at 7 7 ∷ [])
    (on BareDocument 0 1 ∷ on (only FlowSequence) 0 1 ∷ on (and_tag Empty) 3 3 ∷ on SequenceEnd 6 7
    ∷ on DocumentEnd 7 7 ∷ on StreamEnd 7 7 ∷ [])
    -- "[a, ]"
    ∷ is_read (opener_at Square 0 0 ∷ text_at 1 2 1 ∷ comma_at 2 2 ∷ closer_at Square 4 4 ∷ end_at 5 5 ∷ [])
    (on BareDocument 0 1 ∷ on (only FlowSequence) 0 1 ∷ on (only Text) 1 2 ∷ on SequenceEnd 4 5
    ∷ on DocumentEnd 5 5 ∷ on StreamEnd 5 5 ∷ [])
    -- "[? , ]"
    ∷ is_read (opener_at Square 0 0 ∷ question_at 1 1 ∷ comma_at 3 3 ∷ closer_at Square 5 5 ∷ end_at 6 6 ∷ [])
    (on BareDocument 0 1 ∷ on (only FlowSequence) 0 1 ∷ on (only FlowMapping) 1 2 ∷ on (only Null) 3 3
    ∷ on (only Null) 3 3 ∷ on MappingEnd 3 3 ∷ on SequenceEnd 5 6 ∷ on DocumentEnd 6 6 ∷ on StreamEnd 6 6 ∷ [])
    -- "[a: , ]"
    ∷ is_read (opener_at Square 0 0 ∷ begins (text_at 1 2 1) ∷ colon_of 0 2 2 ∷ comma_at 4 4 ∷ closer_at Square 6 6
    ∷ end_at 7 7 ∷ [])
    (on BareDocument 0 1 ∷ on (only FlowSequence) 0 1 ∷ on (only FlowMapping) 1 1 ∷ on (only Text) 1 2
    ∷ on (only Null) 2 2 ∷ on MappingEnd 4 4 ∷ on SequenceEnd 6 7 ∷ on DocumentEnd 7 7 ∷ on StreamEnd 7 7 ∷ [])
    -- "[!t a: ]"
    ∷ is_read (opener_at Square 0 0 ∷ begins (tag_from 1 1) ∷ text_at 4 5 4 ∷ colon_of 0 5 5 ∷ closer_at Square 7 7
    ∷ end_at 8 8 ∷ [])
    (on BareDocument 0 1 ∷ on (only FlowSequence) 0 1 ∷ on (only FlowMapping) 1 1 ∷ on (and_tag Text) 4 5
    ∷ on (only Null) 5 5 ∷ on MappingEnd 7 7 ∷ on SequenceEnd 7 8 ∷ on DocumentEnd 8 8 ∷ on StreamEnd 8 8 ∷ [])
    ∷ []

abbrev pub curly_brackets : List Row
curly_brackets =
    -- "{}"
    is_read (opener_at Curly 0 0 ∷ closer_at Curly 1 1 ∷ end_at 2 2 ∷ [])
    (on BareDocument 0 1 ∷ on (only FlowMapping) 0 1 ∷ on MappingEnd 1 2 ∷ on DocumentEnd 2 2 ∷ on StreamEnd 2 2
    ∷ [])
    -- "{}: &x "
    ∷ is_read (begins (opener_at Curly 0 0) ∷ closer_at Curly 1 1 ∷ colon_of 0 2 2 ∷ anchor_at 4 4 ∷ end_at 7 7 ∷ [])
    (on BareDocument 0 0 ∷ on (only BlockMapping) 0 0 ∷ inner 1 (only FlowMapping) 0 1 ∷ on MappingEnd 1 2
    ∷ on (and_anchor Null) 6 6 ∷ on MappingEnd 7 7 ∷ on DocumentEnd 7 7 ∷ on StreamEnd 7 7 ∷ [])
    -- "{&x }: "
    ∷ is_read (begins (opener_at Curly 0 0) ∷ anchor_at 1 1 ∷ closer_at Curly 4 4 ∷ colon_of 0 5 5 ∷ end_at 7 7 ∷ [])
    (on BareDocument 0 0 ∷ on (only BlockMapping) 0 0 ∷ inner 1 (only FlowMapping) 0 1
    ∷ on (and_anchor Null) 3 3 ∷ on (only Null) 4 4 ∷ on MappingEnd 4 5 ∷ on (only Null) 5 5
    ∷ on MappingEnd 7 7 ∷ on DocumentEnd 7 7 ∷ on StreamEnd 7 7 ∷ [])
    -- "{!t }: "
    ∷ is_read (begins (opener_at Curly 0 0) ∷ tag_from 1 1 ∷ closer_at Curly 4 4 ∷ colon_of 0 5 5 ∷ end_at 7 7 ∷ [])
    (on BareDocument 0 0 ∷ on (only BlockMapping) 0 0 ∷ inner 1 (only FlowMapping) 0 1 ∷ on (and_tag Empty) 3 3
    ∷ on (only Null) 4 4 ∷ on MappingEnd 4 5 ∷ on (only Null) 5 5 ∷ on MappingEnd 7 7 ∷ on DocumentEnd 7 7
    ∷ on StreamEnd 7 7 ∷ [])
    -- "{a}: "
    ∷ is_read (begins (opener_at Curly 0 0) ∷ text_at 1 2 1 ∷ closer_at Curly 2 2 ∷ colon_of 0 3 3 ∷ end_at 5 5 ∷ [])
    (on BareDocument 0 0 ∷ on (only BlockMapping) 0 0 ∷ inner 1 (only FlowMapping) 0 1 ∷ on (only Text) 1 2
    ∷ on (only Null) 2 2 ∷ on MappingEnd 2 3 ∷ on (only Null) 3 3 ∷ on MappingEnd 5 5 ∷ on DocumentEnd 5 5
    ∷ on StreamEnd 5 5 ∷ [])
    -- "{? }: "
    ∷ is_read (begins (opener_at Curly 0 0) ∷ question_at 1 1 ∷ closer_at Curly 3 3 ∷ colon_of 0 4 4 ∷ end_at 6 6 ∷ [])
    (on BareDocument 0 0 ∷ on (only BlockMapping) 0 0 ∷ inner 1 (only FlowMapping) 0 1 ∷ on (only Null) 3 3
    ∷ on (only Null) 3 3 ∷ on MappingEnd 3 4 ∷ on (only Null) 4 4 ∷ on MappingEnd 6 6 ∷ on DocumentEnd 6 6
    ∷ on StreamEnd 6 6 ∷ [])
    -- "{: }: "
    ∷ is_read (begins (opener_at Curly 0 0) ∷ colon_at 1 1 ∷ closer_at Curly 3 3 ∷ colon_of 0 4 4 ∷ end_at 6 6 ∷ [])
    (on BareDocument 0 0 ∷ on (only BlockMapping) 0 0 ∷ inner 1 (only FlowMapping) 0 1 ∷ on (only Null) 1 1
    ∷ on (only Null) 1 1 ∷ on MappingEnd 3 4 ∷ on (only Null) 4 4 ∷ on MappingEnd 6 6 ∷ on DocumentEnd 6 6
    ∷ on StreamEnd 6 6 ∷ [])
    -- "&x {}: "
    ∷ is_read (begins (anchor_at 0 0) ∷ opener_at Curly 3 3 ∷ closer_at Curly 4 4 ∷ colon_of 0 5 5 ∷ end_at 7 7 ∷ [])
    (on BareDocument 0 0 ∷ on (only BlockMapping) 0 0 ∷ inner 1 (and_anchor FlowMapping) 3 4 ∷ on MappingEnd 4 5
    ∷ on (only Null) 5 5 ∷ on MappingEnd 7 7 ∷ on DocumentEnd 7 7 ∷ on StreamEnd 7 7 ∷ [])
    -- "!t {}: "
    ∷ is_read (begins (tag_from 0 0) ∷ opener_at Curly 3 3 ∷ closer_at Curly 4 4 ∷ colon_of 0 5 5 ∷ end_at 7 7 ∷ [])
    (on BareDocument 0 0 ∷ on (only BlockMapping) 0 0 ∷ inner 1 (and_tag FlowMapping) 3 4 ∷ on MappingEnd 4 5
    ∷ on (only Null) 5 5 ∷ on MappingEnd 7 7 ∷ on DocumentEnd 7 7 ∷ on StreamEnd 7 7 ∷ [])
    -- "- {}: "
    ∷ is_read (dash_at 0 2 0 ∷ begins (opener_at Curly 2 2) ∷ closer_at Curly 3 3 ∷ colon_of 0 4 4 ∷ end_at 6 6 ∷ [])
    (on BareDocument 0 0 ∷ on (only BlockSequence) 0 0 ∷ on (only BlockMapping) 2 2
    ∷ inner 3 (only FlowMapping) 2 3 ∷ on MappingEnd 3 4 ∷ on (only Null) 4 4 ∷ on MappingEnd 6 6
    ∷ on SequenceEnd 6 6 ∷ on DocumentEnd 6 6 ∷ on StreamEnd 6 6 ∷ [])
    -- "? {}: "
    ∷ is_read (question_at 0 0 ∷ begins (opener_at Curly 2 2) ∷ closer_at Curly 3 3 ∷ colon_of 0 4 4 ∷ end_at 6 6 ∷ [])
    (on BareDocument 0 0 ∷ on (only BlockMapping) 0 0 ∷ inner 1 (only BlockMapping) 2 2
    ∷ inner 3 (only FlowMapping) 2 3 ∷ on MappingEnd 3 4 ∷ on (only Null) 4 4 ∷ on MappingEnd 6 6
    ∷ on (only Null) 6 6 ∷ on MappingEnd 6 6 ∷ on DocumentEnd 6 6 ∷ on StreamEnd 6 6 ∷ [])
    -- ": {}: "
    ∷ is_read (colon_at 0 0 ∷ begins (opener_at Curly 2 2) ∷ closer_at Curly 3 3 ∷ colon_of 0 4 4 ∷ end_at 6 6 ∷ [])
    (on BareDocument 0 0 ∷ on (only BlockMapping) 0 0 ∷ on (only Null) 0 0 ∷ on (only BlockMapping) 2 2
    ∷ inner 3 (only FlowMapping) 2 3 ∷ on MappingEnd 3 4 ∷ on (only Null) 4 4 ∷ on MappingEnd 6 6
    ∷ on MappingEnd 6 6 ∷ on DocumentEnd 6 6 ∷ on StreamEnd 6 6 ∷ [])
    -- "{a: }: "
    ∷ is_read (begins (opener_at Curly 0 0) ∷ begins (text_at 1 2 1) ∷ colon_of 0 2 2 ∷ closer_at Curly 4 4
    ∷ colon_of 0 5 5 ∷ end_at 7 7 ∷ [])
    (on BareDocument 0 0 ∷ on (only BlockMapping) 0 0 ∷ inner 1 (only FlowMapping) 0 1 ∷ on (only Text) 1 2
    ∷ on (only Null) 2 2 ∷ on MappingEnd 4 5 ∷ on (only Null) 5 5 ∷ on MappingEnd 7 7 ∷ on DocumentEnd 7 7
    ∷ on StreamEnd 7 7 ∷ [])
    -- "{\n}\n"
    ∷ is_read (opener_at Curly 0 0 ∷ closer_at Curly 2 0 ∷ end_at 4 0 ∷ [])
    (on BareDocument 0 1 ∷ on (only FlowMapping) 0 1 ∷ on MappingEnd 2 3 ∷ on DocumentEnd 3 3 ∷ on StreamEnd 4 4
    ∷ [])
    -- "? {}\n"
    ∷ is_read (question_at 0 0 ∷ opener_at Curly 2 2 ∷ closer_at Curly 3 3 ∷ end_at 5 0 ∷ [])
    (on BareDocument 0 0 ∷ on (only BlockMapping) 0 0 ∷ inner 1 (only FlowMapping) 2 3 ∷ on MappingEnd 3 4
    ∷ on (only Null) 5 5 ∷ on MappingEnd 5 5 ∷ on DocumentEnd 5 5 ∷ on StreamEnd 5 5 ∷ [])
    -- "[{}]"
    ∷ is_read (opener_at Square 0 0 ∷ opener_at Curly 1 1 ∷ closer_at Curly 2 2 ∷ closer_at Square 3 3 ∷ end_at 4 4
    ∷ [])
    (on BareDocument 0 1 ∷ on (only FlowSequence) 0 1 ∷ on (only FlowMapping) 1 2 ∷ on MappingEnd 2 3
    ∷ on SequenceEnd 3 4 ∷ on DocumentEnd 4 4 ∷ on StreamEnd 4 4 ∷ [])
    -- "&x {&x }"
    ∷ is_read (anchor_at 0 0 ∷ opener_at Curly 3 3 ∷ anchor_at 4 4 ∷ closer_at Curly 7 7 ∷ end_at 8 8 ∷ [])
    (on BareDocument 0 2 ∷ on (and_anchor FlowMapping) 3 4 ∷ on (and_anchor Null) 6 6 ∷ on (only Null) 7 7
    ∷ on MappingEnd 7 8 ∷ on DocumentEnd 8 8 ∷ on StreamEnd 8 8 ∷ [])
    -- "{a: &x }"
    ∷ is_read (opener_at Curly 0 0 ∷ begins (text_at 1 2 1) ∷ colon_of 0 2 2 ∷ anchor_at 4 4 ∷ closer_at Curly 7 7
    ∷ end_at 8 8 ∷ [])
    (on BareDocument 0 1 ∷ on (only FlowMapping) 0 1 ∷ on (only Text) 1 2 ∷ on (and_anchor Null) 6 6
    ∷ on MappingEnd 7 8 ∷ on DocumentEnd 8 8 ∷ on StreamEnd 8 8 ∷ [])
    -- "{&x !t }"
    ∷ is_read (opener_at Curly 0 0 ∷ anchor_at 1 1 ∷ tag_from 4 4 ∷ closer_at Curly 7 7 ∷ end_at 8 8 ∷ [])
    (on BareDocument 0 1 ∷ on (only FlowMapping) 0 1 ∷ on (and_both Empty) 6 6 ∷ on (only Null) 7 7
    ∷ on MappingEnd 7 8 ∷ on DocumentEnd 8 8 ∷ on StreamEnd 8 8 ∷ [])
    -- "!t {!t }"
    ∷ is_read (tag_from 0 0 ∷ opener_at Curly 3 3 ∷ tag_from 4 4 ∷ closer_at Curly 7 7 ∷ end_at 8 8 ∷ [])
    (on BareDocument 0 2 ∷ on (and_tag FlowMapping) 3 4 ∷ on (and_tag Empty) 6 6 ∷ on (only Null) 7 7
    ∷ on MappingEnd 7 8 ∷ on DocumentEnd 8 8 ∷ on StreamEnd 8 8 ∷ [])
    -- "- {a}"
    ∷ is_read (dash_at 0 2 0 ∷ opener_at Curly 2 2 ∷ text_at 3 4 3 ∷ closer_at Curly 4 4 ∷ end_at 5 5 ∷ [])
    (on BareDocument 0 0 ∷ on (only BlockSequence) 0 0 ∷ on (only FlowMapping) 2 3 ∷ on (only Text) 3 4
    ∷ on (only Null) 4 4 ∷ on MappingEnd 4 5 ∷ on SequenceEnd 5 5 ∷ on DocumentEnd 5 5 ∷ on StreamEnd 5 5 ∷ [])
    -- ": {? }"
    ∷ is_read (colon_at 0 0 ∷ opener_at Curly 2 2 ∷ question_at 3 3 ∷ closer_at Curly 5 5 ∷ end_at 6 6 ∷ [])
    (on BareDocument 0 0 ∷ on (only BlockMapping) 0 0 ∷ on (only Null) 0 0 ∷ on (only FlowMapping) 2 3
    ∷ on (only Null) 5 5 ∷ on (only Null) 5 5 ∷ on MappingEnd 5 6 ∷ on MappingEnd 6 6 ∷ on DocumentEnd 6 6
    ∷ on StreamEnd 6 6 ∷ [])
    -- "{!t : }"
    ∷ is_read (opener_at Curly 0 0 ∷ begins (tag_from 1 1) ∷ colon_of 0 4 4 ∷ closer_at Curly 6 6 ∷ end_at 7 7 ∷ [])
    (on BareDocument 0 1 ∷ on (only FlowMapping) 0 1 ∷ on (and_tag Empty) 3 3 ∷ on (only Null) 4 4
    ∷ on MappingEnd 6 7 ∷ on DocumentEnd 7 7 ∷ on StreamEnd 7 7 ∷ [])
    -- "{? : }"
    ∷ is_read (opener_at Curly 0 0 ∷ question_at 1 1 ∷ colon_at 3 3 ∷ closer_at Curly 5 5 ∷ end_at 6 6 ∷ [])
    (on BareDocument 0 1 ∷ on (only FlowMapping) 0 1 ∷ on (only Null) 3 3 ∷ on (only Null) 3 3
    ∷ on MappingEnd 5 6 ∷ on DocumentEnd 6 6 ∷ on StreamEnd 6 6 ∷ [])
    -- "{[]}"
    ∷ is_read (opener_at Curly 0 0 ∷ opener_at Square 1 1 ∷ closer_at Square 2 2 ∷ closer_at Curly 3 3 ∷ end_at 4 4
    ∷ [])
    (on BareDocument 0 1 ∷ on (only FlowMapping) 0 1 ∷ on (only FlowSequence) 1 2 ∷ on SequenceEnd 2 3
    ∷ on (only Null) 3 3 ∷ on MappingEnd 3 4 ∷ on DocumentEnd 4 4 ∷ on StreamEnd 4 4 ∷ [])
    -- "{: , }"
    ∷ is_read (opener_at Curly 0 0 ∷ colon_at 1 1 ∷ comma_at 3 3 ∷ closer_at Curly 5 5 ∷ end_at 6 6 ∷ [])
    (on BareDocument 0 1 ∷ on (only FlowMapping) 0 1 ∷ on (only Null) 1 1 ∷ on (only Null) 1 1
    ∷ on MappingEnd 5 6 ∷ on DocumentEnd 6 6 ∷ on StreamEnd 6 6 ∷ [])
    -- "!t &x {}"
    ∷ is_read (tag_from 0 0 ∷ anchor_at 3 3 ∷ opener_at Curly 6 6 ∷ closer_at Curly 7 7 ∷ end_at 8 8 ∷ [])
    (on BareDocument 0 2 ∷ on (and_both FlowMapping) 6 7 ∷ on MappingEnd 7 8 ∷ on DocumentEnd 8 8
    ∷ on StreamEnd 8 8 ∷ [])
    -- ": a: {}"
    ∷ is_read (colon_at 0 0 ∷ begins (text_at 2 3 2) ∷ colon_of 0 3 3 ∷ opener_at Curly 5 5 ∷ closer_at Curly 6 6
    ∷ end_at 7 7 ∷ [])
    (on BareDocument 0 0 ∷ on (only BlockMapping) 0 0 ∷ on (only Null) 0 0 ∷ on (only BlockMapping) 2 2
    ∷ inner 3 (only Text) 2 3 ∷ on (only FlowMapping) 5 6 ∷ on MappingEnd 6 7 ∷ on MappingEnd 7 7
    ∷ on MappingEnd 7 7 ∷ on DocumentEnd 7 7 ∷ on StreamEnd 7 7 ∷ [])
    -- "{{}}"
    ∷ is_read (opener_at Curly 0 0 ∷ opener_at Curly 1 1 ∷ closer_at Curly 2 2 ∷ closer_at Curly 3 3 ∷ end_at 4 4 ∷ [])
    (on BareDocument 0 1 ∷ on (only FlowMapping) 0 1 ∷ on (only FlowMapping) 1 2 ∷ on MappingEnd 2 3
    ∷ on (only Null) 3 3 ∷ on MappingEnd 3 4 ∷ on DocumentEnd 4 4 ∷ on StreamEnd 4 4 ∷ [])
    -- "{&x a: }"
    ∷ is_read (opener_at Curly 0 0 ∷ begins (anchor_at 1 1) ∷ text_at 4 5 4 ∷ colon_of 0 5 5 ∷ closer_at Curly 7 7
    ∷ end_at 8 8 ∷ [])
    (on BareDocument 0 1 ∷ on (only FlowMapping) 0 1 ∷ on (and_anchor Text) 4 5 ∷ on (only Null) 5 5
    ∷ on MappingEnd 7 8 ∷ on DocumentEnd 8 8 ∷ on StreamEnd 8 8 ∷ [])
    -- "{? a: }"
    ∷ is_read (opener_at Curly 0 0 ∷ question_at 1 1 ∷ text_at 3 4 3 ∷ colon_at 4 4 ∷ closer_at Curly 6 6 ∷ end_at 7 7
    ∷ [])
    (on BareDocument 0 1 ∷ on (only FlowMapping) 0 1 ∷ on (only Text) 3 4 ∷ on (only Null) 4 4
    ∷ on MappingEnd 6 7 ∷ on DocumentEnd 7 7 ∷ on StreamEnd 7 7 ∷ [])
    ∷ []
