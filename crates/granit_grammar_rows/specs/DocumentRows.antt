-- Lists of lexemes of several documents, and their events. Above each stands a text that has these lexemes.
use Rattle.std.specs.Prelude.{List, [], ◌∷◌}
use Rattle.granit_lexemes.specs.declared.layout.Bracket.TheVariants.{Square, Curly}
use Rattle.granit_grammar_rows.specs.Row.{Row, is_read, anchor_at, tag_from, text_at, dash_at, question_at, colon_at}
use Rattle.granit_grammar_rows.specs.Row.{colon_of, start_mark_at, end_mark_at, directive_from, opener_at, closer_at}
use Rattle.granit_grammar_rows.specs.Row.{end_at, begins, on, inner, only, and_anchor, and_tag, and_both, StreamEnd}
use Rattle.granit_grammar_rows.specs.Row.{BareDocument, MarkedDocument, DocumentEnd, SequenceEnd, MappingEnd, Text}
use Rattle.granit_grammar_rows.specs.Row.{Null, Empty, BlockSequence, FlowSequence, BlockMapping, FlowMapping}

abbrev pub marks_in_front : List Row
marks_in_front =
    -- "--- &x "
    is_read (start_mark_at 0 ∷ anchor_at 4 4 ∷ end_at 7 7 ∷ [])
    (on MarkedDocument 0 3 ∷ on (and_anchor Null) 6 6 ∷ on DocumentEnd 6 6 ∷ on StreamEnd 7 7 ∷ [])
    -- "...\n&x "
    ∷ is_read (end_mark_at 0 ∷ anchor_at 4 0 ∷ end_at 7 3 ∷ [])
    (on BareDocument 4 6 ∷ on (and_anchor Null) 6 6 ∷ on DocumentEnd 6 6 ∷ on StreamEnd 7 7 ∷ [])
    -- "--- !t "
    ∷ is_read (start_mark_at 0 ∷ tag_from 4 4 ∷ end_at 7 7 ∷ [])
    (on MarkedDocument 0 3 ∷ on (and_tag Empty) 6 6 ∷ on DocumentEnd 6 6 ∷ on StreamEnd 7 7 ∷ [])
    -- "...\n!t "
    ∷ is_read (end_mark_at 0 ∷ tag_from 4 0 ∷ end_at 7 3 ∷ [])
    (on BareDocument 4 6 ∷ on (and_tag Empty) 6 6 ∷ on DocumentEnd 6 6 ∷ on StreamEnd 7 7 ∷ [])
    -- "--- a"
    ∷ is_read (start_mark_at 0 ∷ text_at 4 5 4 ∷ end_at 5 5 ∷ [])
    (on MarkedDocument 0 3 ∷ on (only Text) 4 5 ∷ on DocumentEnd 5 5 ∷ on StreamEnd 5 5 ∷ [])
    -- "...\na"
    ∷ is_read (end_mark_at 0 ∷ text_at 4 5 0 ∷ end_at 5 1 ∷ [])
    (on BareDocument 4 5 ∷ on (only Text) 4 5 ∷ on DocumentEnd 5 5 ∷ on StreamEnd 5 5 ∷ [])
    -- "...\n- "
    ∷ is_read (end_mark_at 0 ∷ dash_at 4 6 0 ∷ end_at 6 2 ∷ [])
    (on BareDocument 4 4 ∷ on (only BlockSequence) 4 4 ∷ on (only Null) 6 6 ∷ on SequenceEnd 6 6
    ∷ on DocumentEnd 6 6 ∷ on StreamEnd 6 6 ∷ [])
    -- "...\n? "
    ∷ is_read (end_mark_at 0 ∷ question_at 4 0 ∷ end_at 6 2 ∷ [])
    (on BareDocument 4 4 ∷ on (only BlockMapping) 4 4 ∷ inner 1 (only Null) 6 6 ∷ on (only Null) 6 6
    ∷ on MappingEnd 6 6 ∷ on DocumentEnd 6 6 ∷ on StreamEnd 6 6 ∷ [])
    -- "...\n: "
    ∷ is_read (end_mark_at 0 ∷ colon_at 4 0 ∷ end_at 6 2 ∷ [])
    (on BareDocument 4 4 ∷ on (only BlockMapping) 4 4 ∷ on (only Null) 4 4 ∷ on (only Null) 4 4
    ∷ on MappingEnd 6 6 ∷ on DocumentEnd 6 6 ∷ on StreamEnd 6 6 ∷ [])
    -- "...\n--- "
    ∷ is_read (end_mark_at 0 ∷ start_mark_at 4 ∷ end_at 8 4 ∷ [])
    (on MarkedDocument 4 7 ∷ on (only Null) 7 7 ∷ on DocumentEnd 7 7 ∷ on StreamEnd 8 8 ∷ [])
    -- "%A\n--- "
    ∷ is_read (directive_from 0 ∷ start_mark_at 3 ∷ end_at 7 4 ∷ [])
    (on MarkedDocument 3 6 ∷ on (only Null) 6 6 ∷ on DocumentEnd 6 6 ∷ on StreamEnd 7 7 ∷ [])
    -- "...\n...\n"
    ∷ is_read (end_mark_at 0 ∷ end_mark_at 4 ∷ end_at 8 0 ∷ []) (on StreamEnd 8 8 ∷ [])
    -- "--- &x a"
    ∷ is_read (start_mark_at 0 ∷ anchor_at 4 4 ∷ text_at 7 8 7 ∷ end_at 8 8 ∷ [])
    (on MarkedDocument 0 3 ∷ on (and_anchor Text) 7 8 ∷ on DocumentEnd 8 8 ∷ on StreamEnd 8 8 ∷ [])
    -- "...\n a"
    ∷ is_read (end_mark_at 0 ∷ text_at 5 6 1 ∷ end_at 6 2 ∷ [])
    (on BareDocument 5 6 ∷ on (only Text) 5 6 ∷ on DocumentEnd 6 6 ∷ on StreamEnd 6 6 ∷ [])
    -- "--- \n- "
    ∷ is_read (start_mark_at 0 ∷ dash_at 5 7 0 ∷ end_at 7 2 ∷ [])
    (on MarkedDocument 0 3 ∷ on (only BlockSequence) 5 5 ∷ on (only Null) 7 7 ∷ on SequenceEnd 7 7
    ∷ on DocumentEnd 7 7 ∷ on StreamEnd 7 7 ∷ [])
    -- "--- \n? "
    ∷ is_read (start_mark_at 0 ∷ question_at 5 0 ∷ end_at 7 2 ∷ [])
    (on MarkedDocument 0 3 ∷ on (only BlockMapping) 5 5 ∷ inner 1 (only Null) 7 7 ∷ on (only Null) 7 7
    ∷ on MappingEnd 7 7 ∷ on DocumentEnd 7 7 ∷ on StreamEnd 7 7 ∷ [])
    -- "--- \n: "
    ∷ is_read (start_mark_at 0 ∷ colon_at 5 0 ∷ end_at 7 2 ∷ [])
    (on MarkedDocument 0 3 ∷ on (only BlockMapping) 5 5 ∷ on (only Null) 5 5 ∷ on (only Null) 5 5
    ∷ on MappingEnd 7 7 ∷ on DocumentEnd 7 7 ∷ on StreamEnd 7 7 ∷ [])
    -- "...\n : "
    ∷ is_read (end_mark_at 0 ∷ colon_at 5 1 ∷ end_at 7 3 ∷ [])
    (on BareDocument 5 5 ∷ on (only BlockMapping) 5 5 ∷ on (only Null) 5 5 ∷ on (only Null) 5 5
    ∷ on MappingEnd 7 7 ∷ on DocumentEnd 7 7 ∷ on StreamEnd 7 7 ∷ [])
    -- "...\n? \n"
    ∷ is_read (end_mark_at 0 ∷ question_at 4 0 ∷ end_at 7 0 ∷ [])
    (on BareDocument 4 4 ∷ on (only BlockMapping) 4 4 ∷ inner 1 (only Null) 7 7 ∷ on (only Null) 7 7
    ∷ on MappingEnd 7 7 ∷ on DocumentEnd 7 7 ∷ on StreamEnd 7 7 ∷ [])
    -- "...\n[]"
    ∷ is_read (end_mark_at 0 ∷ opener_at Square 4 0 ∷ closer_at Square 5 1 ∷ end_at 6 2 ∷ [])
    (on BareDocument 4 5 ∷ on (only FlowSequence) 4 5 ∷ on SequenceEnd 5 6 ∷ on DocumentEnd 6 6
    ∷ on StreamEnd 6 6 ∷ [])
    -- "...\n{}"
    ∷ is_read (end_mark_at 0 ∷ opener_at Curly 4 0 ∷ closer_at Curly 5 1 ∷ end_at 6 2 ∷ [])
    (on BareDocument 4 5 ∷ on (only FlowMapping) 4 5 ∷ on MappingEnd 5 6 ∷ on DocumentEnd 6 6 ∷ on StreamEnd 6 6
    ∷ [])
    -- "--- \na: "
    ∷ is_read (start_mark_at 0 ∷ begins (text_at 5 6 0) ∷ colon_of 0 6 1 ∷ end_at 8 3 ∷ [])
    (on MarkedDocument 0 3 ∷ on (only BlockMapping) 5 5 ∷ inner 1 (only Text) 5 6 ∷ on (only Null) 6 6
    ∷ on MappingEnd 8 8 ∷ on DocumentEnd 8 8 ∷ on StreamEnd 8 8 ∷ [])
    -- "...\n...\n "
    ∷ is_read (end_mark_at 0 ∷ end_mark_at 4 ∷ end_at 9 1 ∷ []) (on StreamEnd 9 9 ∷ [])
    -- "--- \n--- "
    ∷ is_read (start_mark_at 0 ∷ start_mark_at 5 ∷ end_at 9 4 ∷ [])
    (on MarkedDocument 0 3 ∷ on (only Null) 3 3 ∷ on DocumentEnd 3 3 ∷ on MarkedDocument 5 8
    ∷ on (only Null) 8 8 ∷ on DocumentEnd 8 8 ∷ on StreamEnd 9 9 ∷ [])
    -- "--- \n...\n"
    ∷ is_read (start_mark_at 0 ∷ end_mark_at 5 ∷ end_at 9 0 ∷ [])
    (on MarkedDocument 0 3 ∷ on (only Null) 3 3 ∷ on DocumentEnd 5 8 ∷ on StreamEnd 9 9 ∷ [])
    -- "...\n&x : &x "
    ∷ is_read (end_mark_at 0 ∷ begins (anchor_at 4 0) ∷ colon_of 0 7 3 ∷ anchor_at 9 5 ∷ end_at 12 8 ∷ [])
    (on BareDocument 4 4 ∷ on (only BlockMapping) 4 4 ∷ inner 1 (and_anchor Null) 6 6
    ∷ on (and_anchor Null) 11 11 ∷ on MappingEnd 12 12 ∷ on DocumentEnd 12 12 ∷ on StreamEnd 12 12 ∷ [])
    -- "...\n - !t "
    ∷ is_read (end_mark_at 0 ∷ dash_at 5 7 1 ∷ tag_from 7 3 ∷ end_at 10 6 ∷ [])
    (on BareDocument 5 5 ∷ on (only BlockSequence) 5 5 ∷ on (and_tag Empty) 9 9 ∷ on SequenceEnd 10 10
    ∷ on DocumentEnd 10 10 ∷ on StreamEnd 10 10 ∷ [])
    -- "...\n ? a"
    ∷ is_read (end_mark_at 0 ∷ question_at 5 1 ∷ text_at 7 8 3 ∷ end_at 8 4 ∷ [])
    (on BareDocument 5 5 ∷ on (only BlockMapping) 5 5 ∷ inner 2 (only Text) 7 8 ∷ on (only Null) 8 8
    ∷ on MappingEnd 8 8 ∷ on DocumentEnd 8 8 ∷ on StreamEnd 8 8 ∷ [])
    -- "...\n!t : a"
    ∷ is_read (end_mark_at 0 ∷ begins (tag_from 4 0) ∷ colon_of 0 7 3 ∷ text_at 9 10 5 ∷ end_at 10 6 ∷ [])
    (on BareDocument 4 4 ∷ on (only BlockMapping) 4 4 ∷ inner 1 (and_tag Empty) 6 6 ∷ on (only Text) 9 10
    ∷ on MappingEnd 10 10 ∷ on DocumentEnd 10 10 ∷ on StreamEnd 10 10 ∷ [])
    -- "--- \na- "
    ∷ is_read (start_mark_at 0 ∷ text_at 5 7 0 ∷ end_at 8 3 ∷ [])
    (on MarkedDocument 0 3 ∷ on (only Text) 5 7 ∷ on DocumentEnd 7 7 ∷ on StreamEnd 8 8 ∷ [])
    -- "--- &x \n- "
    ∷ is_read (start_mark_at 0 ∷ anchor_at 4 4 ∷ dash_at 8 10 0 ∷ end_at 10 2 ∷ [])
    (on MarkedDocument 0 3 ∷ on (and_anchor BlockSequence) 8 8 ∷ on (only Null) 10 10 ∷ on SequenceEnd 10 10
    ∷ on DocumentEnd 10 10 ∷ on StreamEnd 10 10 ∷ [])
    -- "--- !t \n- "
    ∷ is_read (start_mark_at 0 ∷ tag_from 4 4 ∷ dash_at 8 10 0 ∷ end_at 10 2 ∷ [])
    (on MarkedDocument 0 3 ∷ on (and_tag BlockSequence) 8 8 ∷ on (only Null) 10 10 ∷ on SequenceEnd 10 10
    ∷ on DocumentEnd 10 10 ∷ on StreamEnd 10 10 ∷ [])
    -- "--- !t \n? "
    ∷ is_read (start_mark_at 0 ∷ tag_from 4 4 ∷ question_at 8 0 ∷ end_at 10 2 ∷ [])
    (on MarkedDocument 0 3 ∷ on (and_tag BlockMapping) 8 8 ∷ inner 1 (only Null) 10 10 ∷ on (only Null) 10 10
    ∷ on MappingEnd 10 10 ∷ on DocumentEnd 10 10 ∷ on StreamEnd 10 10 ∷ [])
    -- "--- \n&x : "
    ∷ is_read (start_mark_at 0 ∷ begins (anchor_at 5 0) ∷ colon_of 0 8 3 ∷ end_at 10 5 ∷ [])
    (on MarkedDocument 0 3 ∷ on (only BlockMapping) 5 5 ∷ inner 1 (and_anchor Null) 7 7 ∷ on (only Null) 8 8
    ∷ on MappingEnd 10 10 ∷ on DocumentEnd 10 10 ∷ on StreamEnd 10 10 ∷ [])
    -- "--- \n!t : "
    ∷ is_read (start_mark_at 0 ∷ begins (tag_from 5 0) ∷ colon_of 0 8 3 ∷ end_at 10 5 ∷ [])
    (on MarkedDocument 0 3 ∷ on (only BlockMapping) 5 5 ∷ inner 1 (and_tag Empty) 7 7 ∷ on (only Null) 8 8
    ∷ on MappingEnd 10 10 ∷ on DocumentEnd 10 10 ∷ on StreamEnd 10 10 ∷ [])
    -- "--- &x \n: "
    ∷ is_read (start_mark_at 0 ∷ anchor_at 4 4 ∷ colon_at 8 0 ∷ end_at 10 2 ∷ [])
    (on MarkedDocument 0 3 ∷ on (and_anchor BlockMapping) 8 8 ∷ on (only Null) 8 8 ∷ on (only Null) 8 8
    ∷ on MappingEnd 10 10 ∷ on DocumentEnd 10 10 ∷ on StreamEnd 10 10 ∷ [])
    -- "...\n[]: "
    ∷ is_read (end_mark_at 0 ∷ begins (opener_at Square 4 0) ∷ closer_at Square 5 1 ∷ colon_of 0 6 2 ∷ end_at 8 4 ∷ [])
    (on BareDocument 4 4 ∷ on (only BlockMapping) 4 4 ∷ inner 1 (only FlowSequence) 4 5 ∷ on SequenceEnd 5 6
    ∷ on (only Null) 6 6 ∷ on MappingEnd 8 8 ∷ on DocumentEnd 8 8 ∷ on StreamEnd 8 8 ∷ [])
    -- "...\n{}: "
    ∷ is_read (end_mark_at 0 ∷ begins (opener_at Curly 4 0) ∷ closer_at Curly 5 1 ∷ colon_of 0 6 2 ∷ end_at 8 4 ∷ [])
    (on BareDocument 4 4 ∷ on (only BlockMapping) 4 4 ∷ inner 1 (only FlowMapping) 4 5 ∷ on MappingEnd 5 6
    ∷ on (only Null) 6 6 ∷ on MappingEnd 8 8 ∷ on DocumentEnd 8 8 ∷ on StreamEnd 8 8 ∷ [])
    -- "--- \n : "
    ∷ is_read (start_mark_at 0 ∷ colon_at 6 1 ∷ end_at 8 3 ∷ [])
    (on MarkedDocument 0 3 ∷ on (only BlockMapping) 6 6 ∷ on (only Null) 6 6 ∷ on (only Null) 6 6
    ∷ on MappingEnd 8 8 ∷ on DocumentEnd 8 8 ∷ on StreamEnd 8 8 ∷ [])
    -- "--- !t &x \n"
    ∷ is_read (start_mark_at 0 ∷ tag_from 4 4 ∷ anchor_at 7 7 ∷ end_at 11 0 ∷ [])
    (on MarkedDocument 0 3 ∷ on (and_both Empty) 9 9 ∷ on DocumentEnd 9 9 ∷ on StreamEnd 11 11 ∷ [])
    -- "--- \n: \n"
    ∷ is_read (start_mark_at 0 ∷ colon_at 5 0 ∷ end_at 8 0 ∷ [])
    (on MarkedDocument 0 3 ∷ on (only BlockMapping) 5 5 ∷ on (only Null) 5 5 ∷ on (only Null) 5 5
    ∷ on MappingEnd 8 8 ∷ on DocumentEnd 8 8 ∷ on StreamEnd 8 8 ∷ [])
    -- "--- [? ]"
    ∷ is_read (start_mark_at 0 ∷ opener_at Square 4 4 ∷ question_at 5 5 ∷ closer_at Square 7 7 ∷ end_at 8 8 ∷ [])
    (on MarkedDocument 0 3 ∷ on (only FlowSequence) 4 5 ∷ on (only FlowMapping) 5 6 ∷ on (only Null) 7 7
    ∷ on (only Null) 7 7 ∷ on MappingEnd 7 7 ∷ on SequenceEnd 7 8 ∷ on DocumentEnd 8 8 ∷ on StreamEnd 8 8 ∷ [])
    -- "--- {...\n}"
    ∷ is_read (start_mark_at 0 ∷ opener_at Curly 4 4 ∷ text_at 5 8 5 ∷ closer_at Curly 9 0 ∷ end_at 10 1 ∷ [])
    (on MarkedDocument 0 3 ∷ on (only FlowMapping) 4 5 ∷ on (only Text) 5 8 ∷ on (only Null) 9 9
    ∷ on MappingEnd 9 10 ∷ on DocumentEnd 10 10 ∷ on StreamEnd 10 10 ∷ [])
    -- "...\n&x \na: "
    ∷ is_read (end_mark_at 0 ∷ anchor_at 4 0 ∷ begins (text_at 8 9 0) ∷ colon_of 0 9 1 ∷ end_at 11 3 ∷ [])
    (on BareDocument 4 6 ∷ on (and_anchor BlockMapping) 8 8 ∷ inner 1 (only Text) 8 9 ∷ on (only Null) 9 9
    ∷ on MappingEnd 11 11 ∷ on DocumentEnd 11 11 ∷ on StreamEnd 11 11 ∷ [])
    -- "--- \n!t --- "
    ∷ is_read (start_mark_at 0 ∷ tag_from 5 0 ∷ text_at 8 11 3 ∷ end_at 12 7 ∷ [])
    (on MarkedDocument 0 3 ∷ on (and_tag Text) 8 11 ∷ on DocumentEnd 11 11 ∷ on StreamEnd 12 12 ∷ [])
    -- "...\n%A\n%A\n--- "
    ∷ is_read (end_mark_at 0 ∷ directive_from 4 ∷ directive_from 7 ∷ start_mark_at 10 ∷ end_at 14 4 ∷ [])
    (on MarkedDocument 10 13 ∷ on (only Null) 13 13 ∷ on DocumentEnd 13 13 ∷ on StreamEnd 14 14 ∷ [])
    ∷ []

abbrev pub marks_behind : List Row
marks_behind =
    -- "&x \n--- "
    is_read (anchor_at 0 0 ∷ start_mark_at 4 ∷ end_at 8 4 ∷ [])
    (on BareDocument 0 2 ∷ on (and_anchor Null) 2 2 ∷ on DocumentEnd 2 2 ∷ on MarkedDocument 4 7
    ∷ on (only Null) 7 7 ∷ on DocumentEnd 7 7 ∷ on StreamEnd 8 8 ∷ [])
    -- "!t \n--- "
    ∷ is_read (tag_from 0 0 ∷ start_mark_at 4 ∷ end_at 8 4 ∷ [])
    (on BareDocument 0 2 ∷ on (and_tag Empty) 2 2 ∷ on DocumentEnd 2 2 ∷ on MarkedDocument 4 7
    ∷ on (only Null) 7 7 ∷ on DocumentEnd 7 7 ∷ on StreamEnd 8 8 ∷ [])
    -- "a\n--- "
    ∷ is_read (text_at 0 1 0 ∷ start_mark_at 2 ∷ end_at 6 4 ∷ [])
    (on BareDocument 0 1 ∷ on (only Text) 0 1 ∷ on DocumentEnd 1 1 ∷ on MarkedDocument 2 5 ∷ on (only Null) 5 5
    ∷ on DocumentEnd 5 5 ∷ on StreamEnd 6 6 ∷ [])
    -- "- \n--- "
    ∷ is_read (dash_at 0 2 0 ∷ start_mark_at 3 ∷ end_at 7 4 ∷ [])
    (on BareDocument 0 0 ∷ on (only BlockSequence) 0 0 ∷ on (only Null) 2 2 ∷ on SequenceEnd 3 3
    ∷ on DocumentEnd 3 3 ∷ on MarkedDocument 3 6 ∷ on (only Null) 6 6 ∷ on DocumentEnd 6 6 ∷ on StreamEnd 7 7
    ∷ [])
    -- "? \n--- "
    ∷ is_read (question_at 0 0 ∷ start_mark_at 3 ∷ end_at 7 4 ∷ [])
    (on BareDocument 0 0 ∷ on (only BlockMapping) 0 0 ∷ inner 1 (only Null) 3 3 ∷ on (only Null) 3 3
    ∷ on MappingEnd 3 3 ∷ on DocumentEnd 3 3 ∷ on MarkedDocument 3 6 ∷ on (only Null) 6 6 ∷ on DocumentEnd 6 6
    ∷ on StreamEnd 7 7 ∷ [])
    -- ": \n--- "
    ∷ is_read (colon_at 0 0 ∷ start_mark_at 3 ∷ end_at 7 4 ∷ [])
    (on BareDocument 0 0 ∷ on (only BlockMapping) 0 0 ∷ on (only Null) 0 0 ∷ on (only Null) 0 0
    ∷ on MappingEnd 3 3 ∷ on DocumentEnd 3 3 ∷ on MarkedDocument 3 6 ∷ on (only Null) 6 6 ∷ on DocumentEnd 6 6
    ∷ on StreamEnd 7 7 ∷ [])
    -- "a: \n--- "
    ∷ is_read (begins (text_at 0 1 0) ∷ colon_of 0 1 1 ∷ start_mark_at 4 ∷ end_at 8 4 ∷ [])
    (on BareDocument 0 0 ∷ on (only BlockMapping) 0 0 ∷ inner 1 (only Text) 0 1 ∷ on (only Null) 1 1
    ∷ on MappingEnd 4 4 ∷ on DocumentEnd 4 4 ∷ on MarkedDocument 4 7 ∷ on (only Null) 7 7 ∷ on DocumentEnd 7 7
    ∷ on StreamEnd 8 8 ∷ [])
    -- "&x \n...\n"
    ∷ is_read (anchor_at 0 0 ∷ end_mark_at 4 ∷ end_at 8 0 ∷ [])
    (on BareDocument 0 2 ∷ on (and_anchor Null) 2 2 ∷ on DocumentEnd 4 7 ∷ on StreamEnd 8 8 ∷ [])
    -- "!t \n...\n"
    ∷ is_read (tag_from 0 0 ∷ end_mark_at 4 ∷ end_at 8 0 ∷ [])
    (on BareDocument 0 2 ∷ on (and_tag Empty) 2 2 ∷ on DocumentEnd 4 7 ∷ on StreamEnd 8 8 ∷ [])
    -- "a\n...\n"
    ∷ is_read (text_at 0 1 0 ∷ end_mark_at 2 ∷ end_at 6 0 ∷ [])
    (on BareDocument 0 1 ∷ on (only Text) 0 1 ∷ on DocumentEnd 2 5 ∷ on StreamEnd 6 6 ∷ [])
    -- "- \n...\n"
    ∷ is_read (dash_at 0 2 0 ∷ end_mark_at 3 ∷ end_at 7 0 ∷ [])
    (on BareDocument 0 0 ∷ on (only BlockSequence) 0 0 ∷ on (only Null) 2 2 ∷ on SequenceEnd 3 3
    ∷ on DocumentEnd 3 6 ∷ on StreamEnd 7 7 ∷ [])
    -- "? \n...\n"
    ∷ is_read (question_at 0 0 ∷ end_mark_at 3 ∷ end_at 7 0 ∷ [])
    (on BareDocument 0 0 ∷ on (only BlockMapping) 0 0 ∷ inner 1 (only Null) 3 3 ∷ on (only Null) 3 3
    ∷ on MappingEnd 3 3 ∷ on DocumentEnd 3 6 ∷ on StreamEnd 7 7 ∷ [])
    -- ": \n...\n"
    ∷ is_read (colon_at 0 0 ∷ end_mark_at 3 ∷ end_at 7 0 ∷ [])
    (on BareDocument 0 0 ∷ on (only BlockMapping) 0 0 ∷ on (only Null) 0 0 ∷ on (only Null) 0 0
    ∷ on MappingEnd 3 3 ∷ on DocumentEnd 3 6 ∷ on StreamEnd 7 7 ∷ [])
    -- "a: \n...\na: "
    ∷ is_read (begins (text_at 0 1 0) ∷ colon_of 0 1 1 ∷ end_mark_at 4 ∷ begins (text_at 8 9 0) ∷ colon_of 0 9 1
    ∷ end_at 11 3 ∷ [])
    (on BareDocument 0 0 ∷ on (only BlockMapping) 0 0 ∷ inner 1 (only Text) 0 1 ∷ on (only Null) 1 1
    ∷ on MappingEnd 4 4 ∷ on DocumentEnd 4 7 ∷ on BareDocument 8 8 ∷ on (only BlockMapping) 8 8
    ∷ inner 1 (only Text) 8 9 ∷ on (only Null) 9 9 ∷ on MappingEnd 11 11 ∷ on DocumentEnd 11 11
    ∷ on StreamEnd 11 11 ∷ [])
    -- " a\n--- "
    ∷ is_read (text_at 1 2 1 ∷ start_mark_at 3 ∷ end_at 7 4 ∷ [])
    (on BareDocument 1 2 ∷ on (only Text) 1 2 ∷ on DocumentEnd 2 2 ∷ on MarkedDocument 3 6 ∷ on (only Null) 6 6
    ∷ on DocumentEnd 6 6 ∷ on StreamEnd 7 7 ∷ [])
    -- "[]\n--- "
    ∷ is_read (opener_at Square 0 0 ∷ closer_at Square 1 1 ∷ start_mark_at 3 ∷ end_at 7 4 ∷ [])
    (on BareDocument 0 1 ∷ on (only FlowSequence) 0 1 ∷ on SequenceEnd 1 2 ∷ on DocumentEnd 2 2
    ∷ on MarkedDocument 3 6 ∷ on (only Null) 6 6 ∷ on DocumentEnd 6 6 ∷ on StreamEnd 7 7 ∷ [])
    -- "{}\n--- "
    ∷ is_read (opener_at Curly 0 0 ∷ closer_at Curly 1 1 ∷ start_mark_at 3 ∷ end_at 7 4 ∷ [])
    (on BareDocument 0 1 ∷ on (only FlowMapping) 0 1 ∷ on MappingEnd 1 2 ∷ on DocumentEnd 2 2
    ∷ on MarkedDocument 3 6 ∷ on (only Null) 6 6 ∷ on DocumentEnd 6 6 ∷ on StreamEnd 7 7 ∷ [])
    -- "[]\n...\n"
    ∷ is_read (opener_at Square 0 0 ∷ closer_at Square 1 1 ∷ end_mark_at 3 ∷ end_at 7 0 ∷ [])
    (on BareDocument 0 1 ∷ on (only FlowSequence) 0 1 ∷ on SequenceEnd 1 2 ∷ on DocumentEnd 3 6
    ∷ on StreamEnd 7 7 ∷ [])
    -- "{}\n...\n"
    ∷ is_read (opener_at Curly 0 0 ∷ closer_at Curly 1 1 ∷ end_mark_at 3 ∷ end_at 7 0 ∷ [])
    (on BareDocument 0 1 ∷ on (only FlowMapping) 0 1 ∷ on MappingEnd 1 2 ∷ on DocumentEnd 3 6 ∷ on StreamEnd 7 7
    ∷ [])
    -- " a%A\n...\n"
    ∷ is_read (text_at 1 4 1 ∷ end_mark_at 5 ∷ end_at 9 0 ∷ [])
    (on BareDocument 1 4 ∷ on (only Text) 1 4 ∷ on DocumentEnd 5 8 ∷ on StreamEnd 9 9 ∷ [])
    ∷ []
