-- Lists of lexemes of block collections, and their events. Above each stands a text that has these lexemes.
use Rattle.std.specs.Prelude.{List, [], ◌∷◌}
use Rattle.granit_grammar_rows.specs.Row.{Row, is_read, alias_at, anchor_at, tag_from, text_at, dash_at, question_at}
use Rattle.granit_grammar_rows.specs.Row.{colon_at, colon_of, start_mark_at, end_mark_at, end_at, begins, on, inner}
use Rattle.granit_grammar_rows.specs.Row.{only, and_anchor, and_tag, and_both, AliasWord, StreamEnd, BareDocument}
use Rattle.granit_grammar_rows.specs.Row.{MarkedDocument, DocumentEnd, SequenceEnd, MappingEnd, Text, Null, Empty}
use Rattle.granit_grammar_rows.specs.Row.{BlockSequence, BlockMapping}

abbrev pub at_most_one_lexeme : List Row
at_most_one_lexeme =
    -- ""
    is_read (end_at 0 0 ∷ []) (on StreamEnd 0 0 ∷ [])
    -- "&x "
    ∷ is_read (anchor_at 0 0 ∷ end_at 3 3 ∷ [])
    (on BareDocument 0 2 ∷ on (and_anchor Null) 2 2 ∷ on DocumentEnd 2 2 ∷ on StreamEnd 3 3 ∷ [])
    -- "!t "
    ∷ is_read (tag_from 0 0 ∷ end_at 3 3 ∷ [])
    (on BareDocument 0 2 ∷ on (and_tag Empty) 2 2 ∷ on DocumentEnd 2 2 ∷ on StreamEnd 3 3 ∷ [])
    -- "a"
    ∷ is_read (text_at 0 1 0 ∷ end_at 1 1 ∷ [])
    (on BareDocument 0 1 ∷ on (only Text) 0 1 ∷ on DocumentEnd 1 1 ∷ on StreamEnd 1 1 ∷ [])
    -- "- "
    ∷ is_read (dash_at 0 2 0 ∷ end_at 2 2 ∷ [])
    (on BareDocument 0 0 ∷ on (only BlockSequence) 0 0 ∷ on (only Null) 2 2 ∷ on SequenceEnd 2 2
    ∷ on DocumentEnd 2 2 ∷ on StreamEnd 2 2 ∷ [])
    -- "? "
    ∷ is_read (question_at 0 0 ∷ end_at 2 2 ∷ [])
    (on BareDocument 0 0 ∷ on (only BlockMapping) 0 0 ∷ inner 1 (only Null) 2 2 ∷ on (only Null) 2 2
    ∷ on MappingEnd 2 2 ∷ on DocumentEnd 2 2 ∷ on StreamEnd 2 2 ∷ [])
    -- ": "
    ∷ is_read (colon_at 0 0 ∷ end_at 2 2 ∷ [])
    (on BareDocument 0 0 ∷ on (only BlockMapping) 0 0 ∷ on (only Null) 0 0 ∷ on (only Null) 0 0
    ∷ on MappingEnd 2 2 ∷ on DocumentEnd 2 2 ∷ on StreamEnd 2 2 ∷ [])
    -- "--- "
    ∷ is_read (start_mark_at 0 ∷ end_at 4 4 ∷ [])
    (on MarkedDocument 0 3 ∷ on (only Null) 3 3 ∷ on DocumentEnd 3 3 ∷ on StreamEnd 4 4 ∷ [])
    -- "...\n"
    ∷ is_read (end_mark_at 0 ∷ end_at 4 0 ∷ []) (on StreamEnd 4 4 ∷ [])
    -- "--- \n"
    ∷ is_read (start_mark_at 0 ∷ end_at 5 0 ∷ [])
    (on MarkedDocument 0 3 ∷ on (only Null) 3 3 ∷ on DocumentEnd 3 3 ∷ on StreamEnd 5 5 ∷ [])
    -- " ...\na"
    ∷ is_read (text_at 1 6 1 ∷ end_at 6 1 ∷ [])
    (on BareDocument 1 6 ∷ on (only Text) 1 6 ∷ on DocumentEnd 6 6 ∷ on StreamEnd 6 6 ∷ [])
    ∷ []

abbrev pub simple_keys : List Row
simple_keys =
    -- "a: "
    is_read (begins (text_at 0 1 0) ∷ colon_of 0 1 1 ∷ end_at 3 3 ∷ [])
    (on BareDocument 0 0 ∷ on (only BlockMapping) 0 0 ∷ inner 1 (only Text) 0 1 ∷ on (only Null) 1 1
    ∷ on MappingEnd 3 3 ∷ on DocumentEnd 3 3 ∷ on StreamEnd 3 3 ∷ [])
    -- "a: \n- "
    ∷ is_read (begins (text_at 0 1 0) ∷ colon_of 0 1 1 ∷ dash_at 4 6 0 ∷ end_at 6 2 ∷ [])
    (on BareDocument 0 0 ∷ on (only BlockMapping) 0 0 ∷ inner 1 (only Text) 0 1 ∷ on (only BlockSequence) 6 6
    ∷ on (only Null) 6 6 ∷ on SequenceEnd 6 6 ∷ on MappingEnd 6 6 ∷ on DocumentEnd 6 6 ∷ on StreamEnd 6 6 ∷ [])
    -- "a: \n? "
    ∷ is_read (begins (text_at 0 1 0) ∷ colon_of 0 1 1 ∷ question_at 4 0 ∷ end_at 6 2 ∷ [])
    (on BareDocument 0 0 ∷ on (only BlockMapping) 0 0 ∷ inner 1 (only Text) 0 1 ∷ on (only Null) 1 1
    ∷ inner 1 (only Null) 6 6 ∷ on (only Null) 6 6 ∷ on MappingEnd 6 6 ∷ on DocumentEnd 6 6 ∷ on StreamEnd 6 6
    ∷ [])
    -- "a: \n: "
    ∷ is_read (begins (text_at 0 1 0) ∷ colon_of 0 1 1 ∷ colon_at 4 0 ∷ end_at 6 2 ∷ [])
    (on BareDocument 0 0 ∷ on (only BlockMapping) 0 0 ∷ inner 1 (only Text) 0 1 ∷ on (only Null) 1 1
    ∷ on (only Null) 4 4 ∷ on (only Null) 4 4 ∷ on MappingEnd 6 6 ∷ on DocumentEnd 6 6 ∷ on StreamEnd 6 6 ∷ [])
    -- "a: \n- a"
    ∷ is_read (begins (text_at 0 1 0) ∷ colon_of 0 1 1 ∷ dash_at 4 6 0 ∷ text_at 6 7 2 ∷ end_at 7 3 ∷ [])
    (on BareDocument 0 0 ∷ on (only BlockMapping) 0 0 ∷ inner 1 (only Text) 0 1 ∷ on (only BlockSequence) 6 6
    ∷ on (only Text) 6 7 ∷ on SequenceEnd 7 7 ∷ on MappingEnd 7 7 ∷ on DocumentEnd 7 7 ∷ on StreamEnd 7 7 ∷ [])
    -- "a: \n&x : "
    ∷ is_read (begins (text_at 0 1 0) ∷ colon_of 0 1 1 ∷ begins (anchor_at 4 0) ∷ colon_of 0 7 3 ∷ end_at 9 5 ∷ [])
    (on BareDocument 0 0 ∷ on (only BlockMapping) 0 0 ∷ inner 1 (only Text) 0 1 ∷ on (only Null) 1 1
    ∷ inner 1 (and_anchor Null) 6 6 ∷ on (only Null) 7 7 ∷ on MappingEnd 9 9 ∷ on DocumentEnd 9 9
    ∷ on StreamEnd 9 9 ∷ [])
    -- "a: \n!t a: "
    ∷ is_read (begins (text_at 0 1 0) ∷ colon_of 0 1 1 ∷ begins (tag_from 4 0) ∷ text_at 7 8 3 ∷ colon_of 0 8 4
    ∷ end_at 10 6 ∷ [])
    (on BareDocument 0 0 ∷ on (only BlockMapping) 0 0 ∷ inner 1 (only Text) 0 1 ∷ on (only Null) 1 1
    ∷ inner 1 (and_tag Text) 7 8 ∷ on (only Null) 8 8 ∷ on MappingEnd 10 10 ∷ on DocumentEnd 10 10
    ∷ on StreamEnd 10 10 ∷ [])
    -- "a: !t\na: "
    ∷ is_read (begins (text_at 0 1 0) ∷ colon_of 0 1 1 ∷ tag_from 3 3 ∷ begins (text_at 6 7 0) ∷ colon_of 3 7 1
    ∷ end_at 9 3 ∷ [])
    (on BareDocument 0 0 ∷ on (only BlockMapping) 0 0 ∷ inner 1 (only Text) 0 1 ∷ on (and_tag Empty) 5 5
    ∷ inner 1 (only Text) 6 7 ∷ on (only Null) 7 7 ∷ on MappingEnd 9 9 ∷ on DocumentEnd 9 9 ∷ on StreamEnd 9 9 ∷ [])
    -- "*a : "
    ∷ is_read (begins (alias_at 0 0) ∷ colon_of 0 3 3 ∷ end_at 5 5 ∷ [])
    (on BareDocument 0 0 ∷ on (only BlockMapping) 0 0 ∷ inner 1 AliasWord 0 2 ∷ on (only Null) 3 3
    ∷ on MappingEnd 5 5 ∷ on DocumentEnd 5 5 ∷ on StreamEnd 5 5 ∷ [])
    ∷ []

abbrev pub properties_in_front : List Row
properties_in_front =
    -- "!t &x "
    is_read (tag_from 0 0 ∷ anchor_at 3 3 ∷ end_at 6 6 ∷ [])
    (on BareDocument 0 2 ∷ on (and_both Empty) 5 5 ∷ on DocumentEnd 5 5 ∷ on StreamEnd 6 6 ∷ [])
    -- "&x !t "
    ∷ is_read (anchor_at 0 0 ∷ tag_from 3 3 ∷ end_at 6 6 ∷ [])
    (on BareDocument 0 2 ∷ on (and_both Empty) 5 5 ∷ on DocumentEnd 5 5 ∷ on StreamEnd 6 6 ∷ [])
    -- "&x a"
    ∷ is_read (anchor_at 0 0 ∷ text_at 3 4 3 ∷ end_at 4 4 ∷ [])
    (on BareDocument 0 2 ∷ on (and_anchor Text) 3 4 ∷ on DocumentEnd 4 4 ∷ on StreamEnd 4 4 ∷ [])
    -- "!t a"
    ∷ is_read (tag_from 0 0 ∷ text_at 3 4 3 ∷ end_at 4 4 ∷ [])
    (on BareDocument 0 2 ∷ on (and_tag Text) 3 4 ∷ on DocumentEnd 4 4 ∷ on StreamEnd 4 4 ∷ [])
    -- "&x : "
    ∷ is_read (begins (anchor_at 0 0) ∷ colon_of 0 3 3 ∷ end_at 5 5 ∷ [])
    (on BareDocument 0 0 ∷ on (only BlockMapping) 0 0 ∷ inner 1 (and_anchor Null) 2 2 ∷ on (only Null) 3 3
    ∷ on MappingEnd 5 5 ∷ on DocumentEnd 5 5 ∷ on StreamEnd 5 5 ∷ [])
    -- "!t : "
    ∷ is_read (begins (tag_from 0 0) ∷ colon_of 0 3 3 ∷ end_at 5 5 ∷ [])
    (on BareDocument 0 0 ∷ on (only BlockMapping) 0 0 ∷ inner 1 (and_tag Empty) 2 2 ∷ on (only Null) 3 3
    ∷ on MappingEnd 5 5 ∷ on DocumentEnd 5 5 ∷ on StreamEnd 5 5 ∷ [])
    -- "!t \n&x "
    ∷ is_read (tag_from 0 0 ∷ anchor_at 4 0 ∷ end_at 7 3 ∷ [])
    (on BareDocument 0 2 ∷ on (and_both Empty) 6 6 ∷ on DocumentEnd 6 6 ∷ on StreamEnd 7 7 ∷ [])
    -- "&x : !t "
    ∷ is_read (begins (anchor_at 0 0) ∷ colon_of 0 3 3 ∷ tag_from 5 5 ∷ end_at 8 8 ∷ [])
    (on BareDocument 0 0 ∷ on (only BlockMapping) 0 0 ∷ inner 1 (and_anchor Null) 2 2 ∷ on (and_tag Empty) 7 7
    ∷ on MappingEnd 8 8 ∷ on DocumentEnd 8 8 ∷ on StreamEnd 8 8 ∷ [])
    -- "!t &x a"
    ∷ is_read (tag_from 0 0 ∷ anchor_at 3 3 ∷ text_at 6 7 6 ∷ end_at 7 7 ∷ [])
    (on BareDocument 0 2 ∷ on (and_both Text) 6 7 ∷ on DocumentEnd 7 7 ∷ on StreamEnd 7 7 ∷ [])
    -- "&x : a"
    ∷ is_read (begins (anchor_at 0 0) ∷ colon_of 0 3 3 ∷ text_at 5 6 5 ∷ end_at 6 6 ∷ [])
    (on BareDocument 0 0 ∷ on (only BlockMapping) 0 0 ∷ inner 1 (and_anchor Null) 2 2 ∷ on (only Text) 5 6
    ∷ on MappingEnd 6 6 ∷ on DocumentEnd 6 6 ∷ on StreamEnd 6 6 ∷ [])
    -- "&x \n- "
    ∷ is_read (anchor_at 0 0 ∷ dash_at 4 6 0 ∷ end_at 6 2 ∷ [])
    (on BareDocument 0 2 ∷ on (and_anchor BlockSequence) 4 4 ∷ on (only Null) 6 6 ∷ on SequenceEnd 6 6
    ∷ on DocumentEnd 6 6 ∷ on StreamEnd 6 6 ∷ [])
    -- "!t \n- "
    ∷ is_read (tag_from 0 0 ∷ dash_at 4 6 0 ∷ end_at 6 2 ∷ [])
    (on BareDocument 0 2 ∷ on (and_tag BlockSequence) 4 4 ∷ on (only Null) 6 6 ∷ on SequenceEnd 6 6
    ∷ on DocumentEnd 6 6 ∷ on StreamEnd 6 6 ∷ [])
    -- "&x \n? "
    ∷ is_read (anchor_at 0 0 ∷ question_at 4 0 ∷ end_at 6 2 ∷ [])
    (on BareDocument 0 2 ∷ on (and_anchor BlockMapping) 4 4 ∷ inner 1 (only Null) 6 6 ∷ on (only Null) 6 6
    ∷ on MappingEnd 6 6 ∷ on DocumentEnd 6 6 ∷ on StreamEnd 6 6 ∷ [])
    -- "!t \n? "
    ∷ is_read (tag_from 0 0 ∷ question_at 4 0 ∷ end_at 6 2 ∷ [])
    (on BareDocument 0 2 ∷ on (and_tag BlockMapping) 4 4 ∷ inner 1 (only Null) 6 6 ∷ on (only Null) 6 6
    ∷ on MappingEnd 6 6 ∷ on DocumentEnd 6 6 ∷ on StreamEnd 6 6 ∷ [])
    -- "&x \n: "
    ∷ is_read (anchor_at 0 0 ∷ colon_at 4 0 ∷ end_at 6 2 ∷ [])
    (on BareDocument 0 2 ∷ on (and_anchor BlockMapping) 4 4 ∷ on (only Null) 4 4 ∷ on (only Null) 4 4
    ∷ on MappingEnd 6 6 ∷ on DocumentEnd 6 6 ∷ on StreamEnd 6 6 ∷ [])
    -- "!t \n: "
    ∷ is_read (tag_from 0 0 ∷ colon_at 4 0 ∷ end_at 6 2 ∷ [])
    (on BareDocument 0 2 ∷ on (and_tag BlockMapping) 4 4 ∷ on (only Null) 4 4 ∷ on (only Null) 4 4
    ∷ on MappingEnd 6 6 ∷ on DocumentEnd 6 6 ∷ on StreamEnd 6 6 ∷ [])
    -- "!t a: ...\n"
    ∷ is_read (begins (tag_from 0 0) ∷ text_at 3 4 3 ∷ colon_of 0 4 4 ∷ text_at 6 9 6 ∷ end_at 10 0 ∷ [])
    (on BareDocument 0 0 ∷ on (only BlockMapping) 0 0 ∷ inner 1 (and_tag Text) 3 4 ∷ on (only Text) 6 9
    ∷ on MappingEnd 10 10 ∷ on DocumentEnd 10 10 ∷ on StreamEnd 10 10 ∷ [])
    -- "&x \n- &x "
    ∷ is_read (anchor_at 0 0 ∷ dash_at 4 6 0 ∷ anchor_at 6 2 ∷ end_at 9 5 ∷ [])
    (on BareDocument 0 2 ∷ on (and_anchor BlockSequence) 4 4 ∷ on (and_anchor Null) 8 8 ∷ on SequenceEnd 9 9
    ∷ on DocumentEnd 9 9 ∷ on StreamEnd 9 9 ∷ [])
    -- "!t \n- &x "
    ∷ is_read (tag_from 0 0 ∷ dash_at 4 6 0 ∷ anchor_at 6 2 ∷ end_at 9 5 ∷ [])
    (on BareDocument 0 2 ∷ on (and_tag BlockSequence) 4 4 ∷ on (and_anchor Null) 8 8 ∷ on SequenceEnd 9 9
    ∷ on DocumentEnd 9 9 ∷ on StreamEnd 9 9 ∷ [])
    -- "&x \n? &x "
    ∷ is_read (anchor_at 0 0 ∷ question_at 4 0 ∷ anchor_at 6 2 ∷ end_at 9 5 ∷ [])
    (on BareDocument 0 2 ∷ on (and_anchor BlockMapping) 4 4 ∷ inner 1 (and_anchor Null) 8 8 ∷ on (only Null) 9 9
    ∷ on MappingEnd 9 9 ∷ on DocumentEnd 9 9 ∷ on StreamEnd 9 9 ∷ [])
    -- "!t \n? &x "
    ∷ is_read (tag_from 0 0 ∷ question_at 4 0 ∷ anchor_at 6 2 ∷ end_at 9 5 ∷ [])
    (on BareDocument 0 2 ∷ on (and_tag BlockMapping) 4 4 ∷ inner 1 (and_anchor Null) 8 8 ∷ on (only Null) 9 9
    ∷ on MappingEnd 9 9 ∷ on DocumentEnd 9 9 ∷ on StreamEnd 9 9 ∷ [])
    -- " !t \n&x "
    ∷ is_read (tag_from 1 1 ∷ anchor_at 5 0 ∷ end_at 8 3 ∷ [])
    (on BareDocument 1 3 ∷ on (and_both Empty) 7 7 ∷ on DocumentEnd 7 7 ∷ on StreamEnd 8 8 ∷ [])
    -- "&x \na!t "
    ∷ is_read (anchor_at 0 0 ∷ text_at 4 7 0 ∷ end_at 8 4 ∷ [])
    (on BareDocument 0 2 ∷ on (and_anchor Text) 4 7 ∷ on DocumentEnd 7 7 ∷ on StreamEnd 8 8 ∷ [])
    -- "&x \n- !t "
    ∷ is_read (anchor_at 0 0 ∷ dash_at 4 6 0 ∷ tag_from 6 2 ∷ end_at 9 5 ∷ [])
    (on BareDocument 0 2 ∷ on (and_anchor BlockSequence) 4 4 ∷ on (and_tag Empty) 8 8 ∷ on SequenceEnd 9 9
    ∷ on DocumentEnd 9 9 ∷ on StreamEnd 9 9 ∷ [])
    -- "!t \n- !t "
    ∷ is_read (tag_from 0 0 ∷ dash_at 4 6 0 ∷ tag_from 6 2 ∷ end_at 9 5 ∷ [])
    (on BareDocument 0 2 ∷ on (and_tag BlockSequence) 4 4 ∷ on (and_tag Empty) 8 8 ∷ on SequenceEnd 9 9
    ∷ on DocumentEnd 9 9 ∷ on StreamEnd 9 9 ∷ [])
    -- "&x \n? !t "
    ∷ is_read (anchor_at 0 0 ∷ question_at 4 0 ∷ tag_from 6 2 ∷ end_at 9 5 ∷ [])
    (on BareDocument 0 2 ∷ on (and_anchor BlockMapping) 4 4 ∷ inner 1 (and_tag Empty) 8 8 ∷ on (only Null) 9 9
    ∷ on MappingEnd 9 9 ∷ on DocumentEnd 9 9 ∷ on StreamEnd 9 9 ∷ [])
    -- "!t \n? !t "
    ∷ is_read (tag_from 0 0 ∷ question_at 4 0 ∷ tag_from 6 2 ∷ end_at 9 5 ∷ [])
    (on BareDocument 0 2 ∷ on (and_tag BlockMapping) 4 4 ∷ inner 1 (and_tag Empty) 8 8 ∷ on (only Null) 9 9
    ∷ on MappingEnd 9 9 ∷ on DocumentEnd 9 9 ∷ on StreamEnd 9 9 ∷ [])
    -- "&x : &x a"
    ∷ is_read (begins (anchor_at 0 0) ∷ colon_of 0 3 3 ∷ anchor_at 5 5 ∷ text_at 8 9 8 ∷ end_at 9 9 ∷ [])
    (on BareDocument 0 0 ∷ on (only BlockMapping) 0 0 ∷ inner 1 (and_anchor Null) 2 2 ∷ on (and_anchor Text) 8 9
    ∷ on MappingEnd 9 9 ∷ on DocumentEnd 9 9 ∷ on StreamEnd 9 9 ∷ [])
    -- "&x : !t a"
    ∷ is_read (begins (anchor_at 0 0) ∷ colon_of 0 3 3 ∷ tag_from 5 5 ∷ text_at 8 9 8 ∷ end_at 9 9 ∷ [])
    (on BareDocument 0 0 ∷ on (only BlockMapping) 0 0 ∷ inner 1 (and_anchor Null) 2 2 ∷ on (and_tag Text) 8 9
    ∷ on MappingEnd 9 9 ∷ on DocumentEnd 9 9 ∷ on StreamEnd 9 9 ∷ [])
    -- "&x \n- a"
    ∷ is_read (anchor_at 0 0 ∷ dash_at 4 6 0 ∷ text_at 6 7 2 ∷ end_at 7 3 ∷ [])
    (on BareDocument 0 2 ∷ on (and_anchor BlockSequence) 4 4 ∷ on (only Text) 6 7 ∷ on SequenceEnd 7 7
    ∷ on DocumentEnd 7 7 ∷ on StreamEnd 7 7 ∷ [])
    -- "!t \n- a"
    ∷ is_read (tag_from 0 0 ∷ dash_at 4 6 0 ∷ text_at 6 7 2 ∷ end_at 7 3 ∷ [])
    (on BareDocument 0 2 ∷ on (and_tag BlockSequence) 4 4 ∷ on (only Text) 6 7 ∷ on SequenceEnd 7 7
    ∷ on DocumentEnd 7 7 ∷ on StreamEnd 7 7 ∷ [])
    -- "&x \n- - "
    ∷ is_read (anchor_at 0 0 ∷ dash_at 4 6 0 ∷ dash_at 6 8 2 ∷ end_at 8 4 ∷ [])
    (on BareDocument 0 2 ∷ on (and_anchor BlockSequence) 4 4 ∷ on (only BlockSequence) 6 6 ∷ on (only Null) 8 8
    ∷ on SequenceEnd 8 8 ∷ on SequenceEnd 8 8 ∷ on DocumentEnd 8 8 ∷ on StreamEnd 8 8 ∷ [])
    -- "!t \n- - "
    ∷ is_read (tag_from 0 0 ∷ dash_at 4 6 0 ∷ dash_at 6 8 2 ∷ end_at 8 4 ∷ [])
    (on BareDocument 0 2 ∷ on (and_tag BlockSequence) 4 4 ∷ on (only BlockSequence) 6 6 ∷ on (only Null) 8 8
    ∷ on SequenceEnd 8 8 ∷ on SequenceEnd 8 8 ∷ on DocumentEnd 8 8 ∷ on StreamEnd 8 8 ∷ [])
    -- "&x \n? - "
    ∷ is_read (anchor_at 0 0 ∷ question_at 4 0 ∷ dash_at 6 8 2 ∷ end_at 8 4 ∷ [])
    (on BareDocument 0 2 ∷ on (and_anchor BlockMapping) 4 4 ∷ inner 1 (only BlockSequence) 6 6
    ∷ on (only Null) 8 8 ∷ on SequenceEnd 8 8 ∷ on (only Null) 8 8 ∷ on MappingEnd 8 8 ∷ on DocumentEnd 8 8
    ∷ on StreamEnd 8 8 ∷ [])
    -- "!t \n? - "
    ∷ is_read (tag_from 0 0 ∷ question_at 4 0 ∷ dash_at 6 8 2 ∷ end_at 8 4 ∷ [])
    (on BareDocument 0 2 ∷ on (and_tag BlockMapping) 4 4 ∷ inner 1 (only BlockSequence) 6 6 ∷ on (only Null) 8 8
    ∷ on SequenceEnd 8 8 ∷ on (only Null) 8 8 ∷ on MappingEnd 8 8 ∷ on DocumentEnd 8 8 ∷ on StreamEnd 8 8 ∷ [])
    -- "!t &x \n- "
    ∷ is_read (tag_from 0 0 ∷ anchor_at 3 3 ∷ dash_at 7 9 0 ∷ end_at 9 2 ∷ [])
    (on BareDocument 0 2 ∷ on (and_both BlockSequence) 7 7 ∷ on (only Null) 9 9 ∷ on SequenceEnd 9 9
    ∷ on DocumentEnd 9 9 ∷ on StreamEnd 9 9 ∷ [])
    -- " !t \n- "
    ∷ is_read (tag_from 1 1 ∷ dash_at 5 7 0 ∷ end_at 7 2 ∷ [])
    (on BareDocument 1 3 ∷ on (and_tag BlockSequence) 5 5 ∷ on (only Null) 7 7 ∷ on SequenceEnd 7 7
    ∷ on DocumentEnd 7 7 ∷ on StreamEnd 7 7 ∷ [])
    -- "&x : \n- "
    ∷ is_read (begins (anchor_at 0 0) ∷ colon_of 0 3 3 ∷ dash_at 6 8 0 ∷ end_at 8 2 ∷ [])
    (on BareDocument 0 0 ∷ on (only BlockMapping) 0 0 ∷ inner 1 (and_anchor Null) 2 2
    ∷ on (only BlockSequence) 8 8 ∷ on (only Null) 8 8 ∷ on SequenceEnd 8 8 ∷ on MappingEnd 8 8
    ∷ on DocumentEnd 8 8 ∷ on StreamEnd 8 8 ∷ [])
    -- "!t : \n- "
    ∷ is_read (begins (tag_from 0 0) ∷ colon_of 0 3 3 ∷ dash_at 6 8 0 ∷ end_at 8 2 ∷ [])
    (on BareDocument 0 0 ∷ on (only BlockMapping) 0 0 ∷ inner 1 (and_tag Empty) 2 2
    ∷ on (only BlockSequence) 8 8 ∷ on (only Null) 8 8 ∷ on SequenceEnd 8 8 ∷ on MappingEnd 8 8
    ∷ on DocumentEnd 8 8 ∷ on StreamEnd 8 8 ∷ [])
    -- "&x \n- ? "
    ∷ is_read (anchor_at 0 0 ∷ dash_at 4 6 0 ∷ question_at 6 2 ∷ end_at 8 4 ∷ [])
    (on BareDocument 0 2 ∷ on (and_anchor BlockSequence) 4 4 ∷ on (only BlockMapping) 6 6
    ∷ inner 3 (only Null) 8 8 ∷ on (only Null) 8 8 ∷ on MappingEnd 8 8 ∷ on SequenceEnd 8 8
    ∷ on DocumentEnd 8 8 ∷ on StreamEnd 8 8 ∷ [])
    -- "!t \n- ? "
    ∷ is_read (tag_from 0 0 ∷ dash_at 4 6 0 ∷ question_at 6 2 ∷ end_at 8 4 ∷ [])
    (on BareDocument 0 2 ∷ on (and_tag BlockSequence) 4 4 ∷ on (only BlockMapping) 6 6 ∷ inner 3 (only Null) 8 8
    ∷ on (only Null) 8 8 ∷ on MappingEnd 8 8 ∷ on SequenceEnd 8 8 ∷ on DocumentEnd 8 8 ∷ on StreamEnd 8 8 ∷ [])
    -- "&x \n? ? "
    ∷ is_read (anchor_at 0 0 ∷ question_at 4 0 ∷ question_at 6 2 ∷ end_at 8 4 ∷ [])
    (on BareDocument 0 2 ∷ on (and_anchor BlockMapping) 4 4 ∷ inner 1 (only BlockMapping) 6 6
    ∷ inner 3 (only Null) 8 8 ∷ on (only Null) 8 8 ∷ on MappingEnd 8 8 ∷ on (only Null) 8 8
    ∷ on MappingEnd 8 8 ∷ on DocumentEnd 8 8 ∷ on StreamEnd 8 8 ∷ [])
    -- "!t \n? ? "
    ∷ is_read (tag_from 0 0 ∷ question_at 4 0 ∷ question_at 6 2 ∷ end_at 8 4 ∷ [])
    (on BareDocument 0 2 ∷ on (and_tag BlockMapping) 4 4 ∷ inner 1 (only BlockMapping) 6 6
    ∷ inner 3 (only Null) 8 8 ∷ on (only Null) 8 8 ∷ on MappingEnd 8 8 ∷ on (only Null) 8 8
    ∷ on MappingEnd 8 8 ∷ on DocumentEnd 8 8 ∷ on StreamEnd 8 8 ∷ [])
    -- "!t &x \n? "
    ∷ is_read (tag_from 0 0 ∷ anchor_at 3 3 ∷ question_at 7 0 ∷ end_at 9 2 ∷ [])
    (on BareDocument 0 2 ∷ on (and_both BlockMapping) 7 7 ∷ inner 1 (only Null) 9 9 ∷ on (only Null) 9 9
    ∷ on MappingEnd 9 9 ∷ on DocumentEnd 9 9 ∷ on StreamEnd 9 9 ∷ [])
    -- "&x \n- \n"
    ∷ is_read (anchor_at 0 0 ∷ dash_at 4 6 0 ∷ end_at 7 0 ∷ [])
    (on BareDocument 0 2 ∷ on (and_anchor BlockSequence) 4 4 ∷ on (only Null) 6 6 ∷ on SequenceEnd 7 7
    ∷ on DocumentEnd 7 7 ∷ on StreamEnd 7 7 ∷ [])
    -- "!t &x : \n"
    ∷ is_read (begins (tag_from 0 0) ∷ anchor_at 3 3 ∷ colon_of 0 6 6 ∷ end_at 9 0 ∷ [])
    (on BareDocument 0 0 ∷ on (only BlockMapping) 0 0 ∷ inner 1 (and_both Empty) 5 5 ∷ on (only Null) 6 6
    ∷ on MappingEnd 9 9 ∷ on DocumentEnd 9 9 ∷ on StreamEnd 9 9 ∷ [])
    -- "!t \na}"
    ∷ is_read (tag_from 0 0 ∷ text_at 4 6 0 ∷ end_at 6 2 ∷ [])
    (on BareDocument 0 2 ∷ on (and_tag Text) 4 6 ∷ on DocumentEnd 6 6 ∷ on StreamEnd 6 6 ∷ [])
    -- "!t \naa: "
    ∷ is_read (tag_from 0 0 ∷ begins (text_at 4 6 0) ∷ colon_of 0 6 2 ∷ end_at 8 4 ∷ [])
    (on BareDocument 0 2 ∷ on (and_tag BlockMapping) 4 4 ∷ inner 1 (only Text) 4 6 ∷ on (only Null) 6 6
    ∷ on MappingEnd 8 8 ∷ on DocumentEnd 8 8 ∷ on StreamEnd 8 8 ∷ [])
    ∷ []

abbrev pub sequences : List Row
sequences =
    -- "- &x "
    is_read (dash_at 0 2 0 ∷ anchor_at 2 2 ∷ end_at 5 5 ∷ [])
    (on BareDocument 0 0 ∷ on (only BlockSequence) 0 0 ∷ on (and_anchor Null) 4 4 ∷ on SequenceEnd 5 5
    ∷ on DocumentEnd 5 5 ∷ on StreamEnd 5 5 ∷ [])
    -- "- !t "
    ∷ is_read (dash_at 0 2 0 ∷ tag_from 2 2 ∷ end_at 5 5 ∷ [])
    (on BareDocument 0 0 ∷ on (only BlockSequence) 0 0 ∷ on (and_tag Empty) 4 4 ∷ on SequenceEnd 5 5
    ∷ on DocumentEnd 5 5 ∷ on StreamEnd 5 5 ∷ [])
    -- "- a"
    ∷ is_read (dash_at 0 2 0 ∷ text_at 2 3 2 ∷ end_at 3 3 ∷ [])
    (on BareDocument 0 0 ∷ on (only BlockSequence) 0 0 ∷ on (only Text) 2 3 ∷ on SequenceEnd 3 3
    ∷ on DocumentEnd 3 3 ∷ on StreamEnd 3 3 ∷ [])
    -- "- - "
    ∷ is_read (dash_at 0 2 0 ∷ dash_at 2 4 2 ∷ end_at 4 4 ∷ [])
    (on BareDocument 0 0 ∷ on (only BlockSequence) 0 0 ∷ on (only BlockSequence) 2 2 ∷ on (only Null) 4 4
    ∷ on SequenceEnd 4 4 ∷ on SequenceEnd 4 4 ∷ on DocumentEnd 4 4 ∷ on StreamEnd 4 4 ∷ [])
    -- "- ? "
    ∷ is_read (dash_at 0 2 0 ∷ question_at 2 2 ∷ end_at 4 4 ∷ [])
    (on BareDocument 0 0 ∷ on (only BlockSequence) 0 0 ∷ on (only BlockMapping) 2 2 ∷ inner 3 (only Null) 4 4
    ∷ on (only Null) 4 4 ∷ on MappingEnd 4 4 ∷ on SequenceEnd 4 4 ∷ on DocumentEnd 4 4 ∷ on StreamEnd 4 4 ∷ [])
    -- "- : "
    ∷ is_read (dash_at 0 2 0 ∷ colon_at 2 2 ∷ end_at 4 4 ∷ [])
    (on BareDocument 0 0 ∷ on (only BlockSequence) 0 0 ∷ on (only BlockMapping) 2 2 ∷ on (only Null) 2 2
    ∷ on (only Null) 2 2 ∷ on MappingEnd 4 4 ∷ on SequenceEnd 4 4 ∷ on DocumentEnd 4 4 ∷ on StreamEnd 4 4 ∷ [])
    -- "- !t &x "
    ∷ is_read (dash_at 0 2 0 ∷ tag_from 2 2 ∷ anchor_at 5 5 ∷ end_at 8 8 ∷ [])
    (on BareDocument 0 0 ∷ on (only BlockSequence) 0 0 ∷ on (and_both Empty) 7 7 ∷ on SequenceEnd 8 8
    ∷ on DocumentEnd 8 8 ∷ on StreamEnd 8 8 ∷ [])
    -- "- &x a"
    ∷ is_read (dash_at 0 2 0 ∷ anchor_at 2 2 ∷ text_at 5 6 5 ∷ end_at 6 6 ∷ [])
    (on BareDocument 0 0 ∷ on (only BlockSequence) 0 0 ∷ on (and_anchor Text) 5 6 ∷ on SequenceEnd 6 6
    ∷ on DocumentEnd 6 6 ∷ on StreamEnd 6 6 ∷ [])
    -- "- !t a"
    ∷ is_read (dash_at 0 2 0 ∷ tag_from 2 2 ∷ text_at 5 6 5 ∷ end_at 6 6 ∷ [])
    (on BareDocument 0 0 ∷ on (only BlockSequence) 0 0 ∷ on (and_tag Text) 5 6 ∷ on SequenceEnd 6 6
    ∷ on DocumentEnd 6 6 ∷ on StreamEnd 6 6 ∷ [])
    -- "- !t a: &x "
    ∷ is_read (dash_at 0 2 0 ∷ begins (tag_from 2 2) ∷ text_at 5 6 5 ∷ colon_of 0 6 6 ∷ anchor_at 8 8 ∷ end_at 11 11
    ∷ [])
    (on BareDocument 0 0 ∷ on (only BlockSequence) 0 0 ∷ on (only BlockMapping) 2 2 ∷ inner 3 (and_tag Text) 5 6
    ∷ on (and_anchor Null) 10 10 ∷ on MappingEnd 11 11 ∷ on SequenceEnd 11 11 ∷ on DocumentEnd 11 11
    ∷ on StreamEnd 11 11 ∷ [])
    -- "- &x a: !t "
    ∷ is_read (dash_at 0 2 0 ∷ begins (anchor_at 2 2) ∷ text_at 5 6 5 ∷ colon_of 0 6 6 ∷ tag_from 8 8 ∷ end_at 11 11
    ∷ [])
    (on BareDocument 0 0 ∷ on (only BlockSequence) 0 0 ∷ on (only BlockMapping) 2 2
    ∷ inner 3 (and_anchor Text) 5 6 ∷ on (and_tag Empty) 10 10 ∷ on MappingEnd 11 11 ∷ on SequenceEnd 11 11
    ∷ on DocumentEnd 11 11 ∷ on StreamEnd 11 11 ∷ [])
    -- "- !t &x a"
    ∷ is_read (dash_at 0 2 0 ∷ tag_from 2 2 ∷ anchor_at 5 5 ∷ text_at 8 9 8 ∷ end_at 9 9 ∷ [])
    (on BareDocument 0 0 ∷ on (only BlockSequence) 0 0 ∷ on (and_both Text) 8 9 ∷ on SequenceEnd 9 9
    ∷ on DocumentEnd 9 9 ∷ on StreamEnd 9 9 ∷ [])
    -- "- a: ...\n- "
    ∷ is_read (dash_at 0 2 0 ∷ begins (text_at 2 3 2) ∷ colon_of 0 3 3 ∷ text_at 5 8 5 ∷ dash_at 9 11 0 ∷ end_at 11 2
    ∷ [])
    (on BareDocument 0 0 ∷ on (only BlockSequence) 0 0 ∷ on (only BlockMapping) 2 2 ∷ inner 3 (only Text) 2 3
    ∷ on (only Text) 5 8 ∷ on MappingEnd 9 9 ∷ on (only Null) 11 11 ∷ on SequenceEnd 11 11
    ∷ on DocumentEnd 11 11 ∷ on StreamEnd 11 11 ∷ [])
    ∷ []

abbrev pub asked_keys : List Row
asked_keys =
    -- "? &x "
    is_read (question_at 0 0 ∷ anchor_at 2 2 ∷ end_at 5 5 ∷ [])
    (on BareDocument 0 0 ∷ on (only BlockMapping) 0 0 ∷ inner 1 (and_anchor Null) 4 4 ∷ on (only Null) 5 5
    ∷ on MappingEnd 5 5 ∷ on DocumentEnd 5 5 ∷ on StreamEnd 5 5 ∷ [])
    -- "? !t "
    ∷ is_read (question_at 0 0 ∷ tag_from 2 2 ∷ end_at 5 5 ∷ [])
    (on BareDocument 0 0 ∷ on (only BlockMapping) 0 0 ∷ inner 1 (and_tag Empty) 4 4 ∷ on (only Null) 5 5
    ∷ on MappingEnd 5 5 ∷ on DocumentEnd 5 5 ∷ on StreamEnd 5 5 ∷ [])
    -- "? a"
    ∷ is_read (question_at 0 0 ∷ text_at 2 3 2 ∷ end_at 3 3 ∷ [])
    (on BareDocument 0 0 ∷ on (only BlockMapping) 0 0 ∷ inner 1 (only Text) 2 3 ∷ on (only Null) 3 3
    ∷ on MappingEnd 3 3 ∷ on DocumentEnd 3 3 ∷ on StreamEnd 3 3 ∷ [])
    -- "? - "
    ∷ is_read (question_at 0 0 ∷ dash_at 2 4 2 ∷ end_at 4 4 ∷ [])
    (on BareDocument 0 0 ∷ on (only BlockMapping) 0 0 ∷ inner 1 (only BlockSequence) 2 2 ∷ on (only Null) 4 4
    ∷ on SequenceEnd 4 4 ∷ on (only Null) 4 4 ∷ on MappingEnd 4 4 ∷ on DocumentEnd 4 4 ∷ on StreamEnd 4 4 ∷ [])
    -- "? ? "
    ∷ is_read (question_at 0 0 ∷ question_at 2 2 ∷ end_at 4 4 ∷ [])
    (on BareDocument 0 0 ∷ on (only BlockMapping) 0 0 ∷ inner 1 (only BlockMapping) 2 2
    ∷ inner 3 (only Null) 4 4 ∷ on (only Null) 4 4 ∷ on MappingEnd 4 4 ∷ on (only Null) 4 4
    ∷ on MappingEnd 4 4 ∷ on DocumentEnd 4 4 ∷ on StreamEnd 4 4 ∷ [])
    -- "? : "
    ∷ is_read (question_at 0 0 ∷ colon_at 2 2 ∷ end_at 4 4 ∷ [])
    (on BareDocument 0 0 ∷ on (only BlockMapping) 0 0 ∷ inner 1 (only BlockMapping) 2 2 ∷ on (only Null) 2 2
    ∷ on (only Null) 2 2 ∷ on MappingEnd 4 4 ∷ on (only Null) 4 4 ∷ on MappingEnd 4 4 ∷ on DocumentEnd 4 4
    ∷ on StreamEnd 4 4 ∷ [])
    -- "? !t : &x "
    ∷ is_read (question_at 0 0 ∷ begins (tag_from 2 2) ∷ colon_of 0 5 5 ∷ anchor_at 7 7 ∷ end_at 10 10 ∷ [])
    (on BareDocument 0 0 ∷ on (only BlockMapping) 0 0 ∷ inner 1 (only BlockMapping) 2 2
    ∷ inner 3 (and_tag Empty) 4 4 ∷ on (and_anchor Null) 9 9 ∷ on MappingEnd 10 10 ∷ on (only Null) 10 10
    ∷ on MappingEnd 10 10 ∷ on DocumentEnd 10 10 ∷ on StreamEnd 10 10 ∷ [])
    -- "? \n: !t "
    ∷ is_read (question_at 0 0 ∷ colon_at 3 0 ∷ tag_from 5 2 ∷ end_at 8 5 ∷ [])
    (on BareDocument 0 0 ∷ on (only BlockMapping) 0 0 ∷ inner 1 (only Null) 3 3 ∷ on (and_tag Empty) 7 7
    ∷ on MappingEnd 8 8 ∷ on DocumentEnd 8 8 ∷ on StreamEnd 8 8 ∷ [])
    -- "? \n- a"
    ∷ is_read (question_at 0 0 ∷ dash_at 3 5 0 ∷ text_at 5 6 2 ∷ end_at 6 3 ∷ [])
    (on BareDocument 0 0 ∷ on (only BlockMapping) 0 0 ∷ inner 1 (only BlockSequence) 5 5 ∷ on (only Text) 5 6
    ∷ on SequenceEnd 6 6 ∷ on (only Null) 6 6 ∷ on MappingEnd 6 6 ∷ on DocumentEnd 6 6 ∷ on StreamEnd 6 6 ∷ [])
    -- "? &x \n- "
    ∷ is_read (question_at 0 0 ∷ anchor_at 2 2 ∷ dash_at 6 8 0 ∷ end_at 8 2 ∷ [])
    (on BareDocument 0 0 ∷ on (only BlockMapping) 0 0 ∷ inner 1 (and_anchor BlockSequence) 8 8
    ∷ on (only Null) 8 8 ∷ on SequenceEnd 8 8 ∷ on (only Null) 8 8 ∷ on MappingEnd 8 8 ∷ on DocumentEnd 8 8
    ∷ on StreamEnd 8 8 ∷ [])
    -- "? !t \n- "
    ∷ is_read (question_at 0 0 ∷ tag_from 2 2 ∷ dash_at 6 8 0 ∷ end_at 8 2 ∷ [])
    (on BareDocument 0 0 ∷ on (only BlockMapping) 0 0 ∷ inner 1 (and_tag BlockSequence) 8 8 ∷ on (only Null) 8 8
    ∷ on SequenceEnd 8 8 ∷ on (only Null) 8 8 ∷ on MappingEnd 8 8 ∷ on DocumentEnd 8 8 ∷ on StreamEnd 8 8 ∷ [])
    -- "? ...\n: ? "
    ∷ is_read (question_at 0 0 ∷ text_at 2 5 2 ∷ colon_at 6 0 ∷ question_at 8 2 ∷ end_at 10 4 ∷ [])
    (on BareDocument 0 0 ∷ on (only BlockMapping) 0 0 ∷ inner 1 (only Text) 2 5 ∷ on (only BlockMapping) 8 8
    ∷ inner 3 (only Null) 10 10 ∷ on (only Null) 10 10 ∷ on MappingEnd 10 10 ∷ on MappingEnd 10 10
    ∷ on DocumentEnd 10 10 ∷ on StreamEnd 10 10 ∷ [])
    -- "? &x !t a: "
    ∷ is_read (question_at 0 0 ∷ begins (anchor_at 2 2) ∷ tag_from 5 5 ∷ text_at 8 9 8 ∷ colon_of 0 9 9 ∷ end_at 11 11
    ∷ [])
    (on BareDocument 0 0 ∷ on (only BlockMapping) 0 0 ∷ inner 1 (only BlockMapping) 2 2
    ∷ inner 3 (and_both Text) 8 9 ∷ on (only Null) 9 9 ∷ on MappingEnd 11 11 ∷ on (only Null) 11 11
    ∷ on MappingEnd 11 11 ∷ on DocumentEnd 11 11 ∷ on StreamEnd 11 11 ∷ [])
    ∷ []

abbrev pub empty_keys : List Row
empty_keys =
    -- ": &x "
    is_read (colon_at 0 0 ∷ anchor_at 2 2 ∷ end_at 5 5 ∷ [])
    (on BareDocument 0 0 ∷ on (only BlockMapping) 0 0 ∷ on (only Null) 0 0 ∷ on (and_anchor Null) 4 4
    ∷ on MappingEnd 5 5 ∷ on DocumentEnd 5 5 ∷ on StreamEnd 5 5 ∷ [])
    -- ": !t "
    ∷ is_read (colon_at 0 0 ∷ tag_from 2 2 ∷ end_at 5 5 ∷ [])
    (on BareDocument 0 0 ∷ on (only BlockMapping) 0 0 ∷ on (only Null) 0 0 ∷ on (and_tag Empty) 4 4
    ∷ on MappingEnd 5 5 ∷ on DocumentEnd 5 5 ∷ on StreamEnd 5 5 ∷ [])
    -- ": a"
    ∷ is_read (colon_at 0 0 ∷ text_at 2 3 2 ∷ end_at 3 3 ∷ [])
    (on BareDocument 0 0 ∷ on (only BlockMapping) 0 0 ∷ on (only Null) 0 0 ∷ on (only Text) 2 3
    ∷ on MappingEnd 3 3 ∷ on DocumentEnd 3 3 ∷ on StreamEnd 3 3 ∷ [])
    -- ": - "
    ∷ is_read (colon_at 0 0 ∷ dash_at 2 4 2 ∷ end_at 4 4 ∷ [])
    (on BareDocument 0 0 ∷ on (only BlockMapping) 0 0 ∷ on (only Null) 0 0 ∷ on (only BlockSequence) 2 2
    ∷ on (only Null) 4 4 ∷ on SequenceEnd 4 4 ∷ on MappingEnd 4 4 ∷ on DocumentEnd 4 4 ∷ on StreamEnd 4 4 ∷ [])
    -- ": ? "
    ∷ is_read (colon_at 0 0 ∷ question_at 2 2 ∷ end_at 4 4 ∷ [])
    (on BareDocument 0 0 ∷ on (only BlockMapping) 0 0 ∷ on (only Null) 0 0 ∷ on (only BlockMapping) 2 2
    ∷ inner 3 (only Null) 4 4 ∷ on (only Null) 4 4 ∷ on MappingEnd 4 4 ∷ on MappingEnd 4 4
    ∷ on DocumentEnd 4 4 ∷ on StreamEnd 4 4 ∷ [])
    -- ": : "
    ∷ is_read (colon_at 0 0 ∷ colon_at 2 2 ∷ end_at 4 4 ∷ [])
    (on BareDocument 0 0 ∷ on (only BlockMapping) 0 0 ∷ on (only Null) 0 0 ∷ on (only BlockMapping) 2 2
    ∷ on (only Null) 2 2 ∷ on (only Null) 2 2 ∷ on MappingEnd 4 4 ∷ on MappingEnd 4 4 ∷ on DocumentEnd 4 4
    ∷ on StreamEnd 4 4 ∷ [])
    -- ": - \n"
    ∷ is_read (colon_at 0 0 ∷ dash_at 2 4 2 ∷ end_at 5 0 ∷ [])
    (on BareDocument 0 0 ∷ on (only BlockMapping) 0 0 ∷ on (only Null) 0 0 ∷ on (only BlockSequence) 2 2
    ∷ on (only Null) 4 4 ∷ on SequenceEnd 5 5 ∷ on MappingEnd 5 5 ∷ on DocumentEnd 5 5 ∷ on StreamEnd 5 5 ∷ [])
    -- ": \n: &x "
    ∷ is_read (colon_at 0 0 ∷ colon_at 3 0 ∷ anchor_at 5 2 ∷ end_at 8 5 ∷ [])
    (on BareDocument 0 0 ∷ on (only BlockMapping) 0 0 ∷ on (only Null) 0 0 ∷ on (only Null) 0 0
    ∷ on (only Null) 3 3 ∷ on (and_anchor Null) 7 7 ∷ on MappingEnd 8 8 ∷ on DocumentEnd 8 8
    ∷ on StreamEnd 8 8 ∷ [])
    -- ": \n- !t "
    ∷ is_read (colon_at 0 0 ∷ dash_at 3 5 0 ∷ tag_from 5 2 ∷ end_at 8 5 ∷ [])
    (on BareDocument 0 0 ∷ on (only BlockMapping) 0 0 ∷ on (only Null) 0 0 ∷ on (only BlockSequence) 5 5
    ∷ on (and_tag Empty) 7 7 ∷ on SequenceEnd 8 8 ∷ on MappingEnd 8 8 ∷ on DocumentEnd 8 8 ∷ on StreamEnd 8 8
    ∷ [])
    -- ": ...\n? !t "
    ∷ is_read (colon_at 0 0 ∷ text_at 2 5 2 ∷ question_at 6 0 ∷ tag_from 8 2 ∷ end_at 11 5 ∷ [])
    (on BareDocument 0 0 ∷ on (only BlockMapping) 0 0 ∷ on (only Null) 0 0 ∷ on (only Text) 2 5
    ∷ inner 1 (and_tag Empty) 10 10 ∷ on (only Null) 11 11 ∷ on MappingEnd 11 11 ∷ on DocumentEnd 11 11
    ∷ on StreamEnd 11 11 ∷ [])
    -- ": !t : !t "
    ∷ is_read (colon_at 0 0 ∷ begins (tag_from 2 2) ∷ colon_of 0 5 5 ∷ tag_from 7 7 ∷ end_at 10 10 ∷ [])
    (on BareDocument 0 0 ∷ on (only BlockMapping) 0 0 ∷ on (only Null) 0 0 ∷ on (only BlockMapping) 2 2
    ∷ inner 3 (and_tag Empty) 4 4 ∷ on (and_tag Empty) 9 9 ∷ on MappingEnd 10 10 ∷ on MappingEnd 10 10
    ∷ on DocumentEnd 10 10 ∷ on StreamEnd 10 10 ∷ [])
    -- ": !t &x a"
    ∷ is_read (colon_at 0 0 ∷ tag_from 2 2 ∷ anchor_at 5 5 ∷ text_at 8 9 8 ∷ end_at 9 9 ∷ [])
    (on BareDocument 0 0 ∷ on (only BlockMapping) 0 0 ∷ on (only Null) 0 0 ∷ on (and_both Text) 8 9
    ∷ on MappingEnd 9 9 ∷ on DocumentEnd 9 9 ∷ on StreamEnd 9 9 ∷ [])
    -- ": \n? a"
    ∷ is_read (colon_at 0 0 ∷ question_at 3 0 ∷ text_at 5 6 2 ∷ end_at 6 3 ∷ [])
    (on BareDocument 0 0 ∷ on (only BlockMapping) 0 0 ∷ on (only Null) 0 0 ∷ on (only Null) 0 0
    ∷ inner 1 (only Text) 5 6 ∷ on (only Null) 6 6 ∷ on MappingEnd 6 6 ∷ on DocumentEnd 6 6 ∷ on StreamEnd 6 6
    ∷ [])
    -- ": &x \n- "
    ∷ is_read (colon_at 0 0 ∷ anchor_at 2 2 ∷ dash_at 6 8 0 ∷ end_at 8 2 ∷ [])
    (on BareDocument 0 0 ∷ on (only BlockMapping) 0 0 ∷ on (only Null) 0 0 ∷ on (and_anchor BlockSequence) 8 8
    ∷ on (only Null) 8 8 ∷ on SequenceEnd 8 8 ∷ on MappingEnd 8 8 ∷ on DocumentEnd 8 8 ∷ on StreamEnd 8 8 ∷ [])
    -- ": !t \n- "
    ∷ is_read (colon_at 0 0 ∷ tag_from 2 2 ∷ dash_at 6 8 0 ∷ end_at 8 2 ∷ [])
    (on BareDocument 0 0 ∷ on (only BlockMapping) 0 0 ∷ on (only Null) 0 0 ∷ on (and_tag BlockSequence) 8 8
    ∷ on (only Null) 8 8 ∷ on SequenceEnd 8 8 ∷ on MappingEnd 8 8 ∷ on DocumentEnd 8 8 ∷ on StreamEnd 8 8 ∷ [])
    -- ": - \n? "
    ∷ is_read (colon_at 0 0 ∷ dash_at 2 4 2 ∷ question_at 5 0 ∷ end_at 7 2 ∷ [])
    (on BareDocument 0 0 ∷ on (only BlockMapping) 0 0 ∷ on (only Null) 0 0 ∷ on (only BlockSequence) 2 2
    ∷ on (only Null) 4 4 ∷ on SequenceEnd 5 5 ∷ inner 1 (only Null) 7 7 ∷ on (only Null) 7 7
    ∷ on MappingEnd 7 7 ∷ on DocumentEnd 7 7 ∷ on StreamEnd 7 7 ∷ [])
    -- ": &x !t : "
    ∷ is_read (colon_at 0 0 ∷ begins (anchor_at 2 2) ∷ tag_from 5 5 ∷ colon_of 0 8 8 ∷ end_at 10 10 ∷ [])
    (on BareDocument 0 0 ∷ on (only BlockMapping) 0 0 ∷ on (only Null) 0 0 ∷ on (only BlockMapping) 2 2
    ∷ inner 3 (and_both Empty) 7 7 ∷ on (only Null) 8 8 ∷ on MappingEnd 10 10 ∷ on MappingEnd 10 10
    ∷ on DocumentEnd 10 10 ∷ on StreamEnd 10 10 ∷ [])
    -- ": &x !t \n"
    ∷ is_read (colon_at 0 0 ∷ anchor_at 2 2 ∷ tag_from 5 5 ∷ end_at 9 0 ∷ [])
    (on BareDocument 0 0 ∷ on (only BlockMapping) 0 0 ∷ on (only Null) 0 0 ∷ on (and_both Empty) 7 7
    ∷ on MappingEnd 9 9 ∷ on DocumentEnd 9 9 ∷ on StreamEnd 9 9 ∷ [])
    -- " : ? \n"
    ∷ is_read (colon_at 1 1 ∷ question_at 3 3 ∷ end_at 6 0 ∷ [])
    (on BareDocument 1 1 ∷ on (only BlockMapping) 1 1 ∷ on (only Null) 1 1 ∷ on (only BlockMapping) 3 3
    ∷ inner 4 (only Null) 6 6 ∷ on (only Null) 6 6 ∷ on MappingEnd 6 6 ∷ on MappingEnd 6 6
    ∷ on DocumentEnd 6 6 ∷ on StreamEnd 6 6 ∷ [])
    -- ": ...\n&x a: "
    ∷ is_read (colon_at 0 0 ∷ text_at 2 5 2 ∷ begins (anchor_at 6 0) ∷ text_at 9 10 3 ∷ colon_of 0 10 4 ∷ end_at 12 6
    ∷ [])
    (on BareDocument 0 0 ∷ on (only BlockMapping) 0 0 ∷ on (only Null) 0 0 ∷ on (only Text) 2 5
    ∷ inner 1 (and_anchor Text) 9 10 ∷ on (only Null) 10 10 ∷ on MappingEnd 12 12 ∷ on DocumentEnd 12 12
    ∷ on StreamEnd 12 12 ∷ [])
    -- ": ...\n!t a: "
    ∷ is_read (colon_at 0 0 ∷ text_at 2 5 2 ∷ begins (tag_from 6 0) ∷ text_at 9 10 3 ∷ colon_of 0 10 4 ∷ end_at 12 6
    ∷ [])
    (on BareDocument 0 0 ∷ on (only BlockMapping) 0 0 ∷ on (only Null) 0 0 ∷ on (only Text) 2 5
    ∷ inner 1 (and_tag Text) 9 10 ∷ on (only Null) 10 10 ∷ on MappingEnd 12 12 ∷ on DocumentEnd 12 12
    ∷ on StreamEnd 12 12 ∷ [])
    -- ": a: \na: "
    ∷ is_read (colon_at 0 0 ∷ begins (text_at 2 3 2) ∷ colon_of 0 3 3 ∷ begins (text_at 6 7 0) ∷ colon_of 0 7 1
    ∷ end_at 9 3 ∷ [])
    (on BareDocument 0 0 ∷ on (only BlockMapping) 0 0 ∷ on (only Null) 0 0 ∷ on (only BlockMapping) 2 2
    ∷ inner 3 (only Text) 2 3 ∷ on (only Null) 3 3 ∷ on MappingEnd 6 6 ∷ inner 1 (only Text) 6 7
    ∷ on (only Null) 7 7 ∷ on MappingEnd 9 9 ∷ on DocumentEnd 9 9 ∷ on StreamEnd 9 9 ∷ [])
    -- ": &x ...\na: "
    ∷ is_read (colon_at 0 0 ∷ anchor_at 2 2 ∷ text_at 5 8 5 ∷ begins (text_at 9 10 0) ∷ colon_of 0 10 1 ∷ end_at 12 3
    ∷ [])
    (on BareDocument 0 0 ∷ on (only BlockMapping) 0 0 ∷ on (only Null) 0 0 ∷ on (and_anchor Text) 5 8
    ∷ inner 1 (only Text) 9 10 ∷ on (only Null) 10 10 ∷ on MappingEnd 12 12 ∷ on DocumentEnd 12 12
    ∷ on StreamEnd 12 12 ∷ [])
    ∷ []
