-- Keys behind sequences in the column of their mapping, and their events. Above each stands a text that has these
-- lexemes.
use Rattle.std.specs.Prelude.{List, [], ◌∷◌}
use Rattle.granit_grammar_rows.specs.Row.{Row, is_read, anchor_at, text_at, dash_at, question_at, colon_at, colon_of}
use Rattle.granit_grammar_rows.specs.Row.{end_at, begins, on, inner, only, and_anchor, StreamEnd, BareDocument}
use Rattle.granit_grammar_rows.specs.Row.{DocumentEnd, SequenceEnd, MappingEnd, Text, Null, BlockSequence, BlockMapping}

abbrev pub keys_behind_sequences : List Row
keys_behind_sequences =
    -- "a:\n- a\na: "
    is_read (begins (text_at 0 1 0) ∷ colon_of 0 1 1 ∷ dash_at 3 5 0 ∷ text_at 5 6 2 ∷ begins (text_at 7 8 0)
    ∷ colon_of 4 8 1 ∷ end_at 10 3 ∷ [])
    (on BareDocument 0 0 ∷ on (only BlockMapping) 0 0 ∷ inner 1 (only Text) 0 1 ∷ on (only BlockSequence) 5 5
    ∷ on (only Text) 5 6 ∷ on SequenceEnd 7 7 ∷ inner 1 (only Text) 7 8 ∷ on (only Null) 8 8 ∷ on MappingEnd 10 10
    ∷ on DocumentEnd 10 10 ∷ on StreamEnd 10 10 ∷ [])
    -- "a:\n-\na: "
    ∷ is_read (begins (text_at 0 1 0) ∷ colon_of 0 1 1 ∷ dash_at 3 4 0 ∷ begins (text_at 5 6 0) ∷ colon_of 3 6 1
    ∷ end_at 8 3 ∷ [])
    (on BareDocument 0 0 ∷ on (only BlockMapping) 0 0 ∷ inner 1 (only Text) 0 1 ∷ on (only BlockSequence) 4 4
    ∷ on (only Null) 4 4 ∷ on SequenceEnd 5 5 ∷ inner 1 (only Text) 5 6 ∷ on (only Null) 6 6 ∷ on MappingEnd 8 8
    ∷ on DocumentEnd 8 8 ∷ on StreamEnd 8 8 ∷ [])
    -- "a: \n- - a\na: "
    ∷ is_read (begins (text_at 0 1 0) ∷ colon_of 0 1 1 ∷ dash_at 4 6 0 ∷ dash_at 6 8 2 ∷ text_at 8 9 4
    ∷ begins (text_at 10 11 0) ∷ colon_of 5 11 1 ∷ end_at 13 3 ∷ [])
    (on BareDocument 0 0 ∷ on (only BlockMapping) 0 0 ∷ inner 1 (only Text) 0 1 ∷ on (only BlockSequence) 6 6
    ∷ on (only BlockSequence) 6 6 ∷ on (only Text) 8 9 ∷ on SequenceEnd 10 10 ∷ on SequenceEnd 10 10
    ∷ inner 1 (only Text) 10 11 ∷ on (only Null) 11 11 ∷ on MappingEnd 13 13 ∷ on DocumentEnd 13 13
    ∷ on StreamEnd 13 13 ∷ [])
    -- "a: \n- \n- \na: "
    ∷ is_read (begins (text_at 0 1 0) ∷ colon_of 0 1 1 ∷ dash_at 4 6 0 ∷ dash_at 7 9 0 ∷ begins (text_at 10 11 0)
    ∷ colon_of 4 11 1 ∷ end_at 13 3 ∷ [])
    (on BareDocument 0 0 ∷ on (only BlockMapping) 0 0 ∷ inner 1 (only Text) 0 1 ∷ on (only BlockSequence) 6 6
    ∷ on (only Null) 6 6 ∷ on (only Null) 9 9 ∷ on SequenceEnd 10 10 ∷ inner 1 (only Text) 10 11
    ∷ on (only Null) 11 11 ∷ on MappingEnd 13 13 ∷ on DocumentEnd 13 13 ∷ on StreamEnd 13 13 ∷ [])
    -- "a: \n- \n&x a: "
    ∷ is_read (begins (text_at 0 1 0) ∷ colon_of 0 1 1 ∷ dash_at 4 6 0 ∷ begins (anchor_at 7 0) ∷ text_at 10 11 3
    ∷ colon_of 3 11 4 ∷ end_at 13 6 ∷ [])
    (on BareDocument 0 0 ∷ on (only BlockMapping) 0 0 ∷ inner 1 (only Text) 0 1 ∷ on (only BlockSequence) 6 6
    ∷ on (only Null) 6 6 ∷ on SequenceEnd 7 7 ∷ inner 1 (and_anchor Text) 10 11 ∷ on (only Null) 11 11
    ∷ on MappingEnd 13 13 ∷ on DocumentEnd 13 13 ∷ on StreamEnd 13 13 ∷ [])
    -- "a: \n- \n? "
    ∷ is_read (begins (text_at 0 1 0) ∷ colon_of 0 1 1 ∷ dash_at 4 6 0 ∷ question_at 7 0 ∷ end_at 9 2 ∷ [])
    (on BareDocument 0 0 ∷ on (only BlockMapping) 0 0 ∷ inner 1 (only Text) 0 1 ∷ on (only BlockSequence) 6 6
    ∷ on (only Null) 6 6 ∷ on SequenceEnd 7 7 ∷ inner 1 (only Null) 9 9 ∷ on (only Null) 9 9 ∷ on MappingEnd 9 9
    ∷ on DocumentEnd 9 9 ∷ on StreamEnd 9 9 ∷ [])
    -- "a: \n- \n: "
    ∷ is_read (begins (text_at 0 1 0) ∷ colon_of 0 1 1 ∷ dash_at 4 6 0 ∷ colon_at 7 0 ∷ end_at 9 2 ∷ [])
    (on BareDocument 0 0 ∷ on (only BlockMapping) 0 0 ∷ inner 1 (only Text) 0 1 ∷ on (only BlockSequence) 6 6
    ∷ on (only Null) 6 6 ∷ on SequenceEnd 7 7 ∷ on (only Null) 7 7 ∷ on (only Null) 7 7 ∷ on MappingEnd 9 9
    ∷ on DocumentEnd 9 9 ∷ on StreamEnd 9 9 ∷ [])
    -- "? \n- \n: "
    ∷ is_read (question_at 0 0 ∷ dash_at 3 5 0 ∷ colon_at 6 0 ∷ end_at 8 2 ∷ [])
    (on BareDocument 0 0 ∷ on (only BlockMapping) 0 0 ∷ inner 1 (only BlockSequence) 5 5 ∷ on (only Null) 5 5
    ∷ on SequenceEnd 6 6 ∷ on (only Null) 6 6 ∷ on MappingEnd 8 8 ∷ on DocumentEnd 8 8 ∷ on StreamEnd 8 8 ∷ [])
    ∷ []
