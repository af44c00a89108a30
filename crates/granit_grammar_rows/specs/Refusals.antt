-- Refused lists of lexemes, by kind. Above each stands a text that has these lexemes.
use Rattle.std.specs.Prelude.{List, [], ◌∷◌}
use Rattle.granit_lexemes.specs.declared.layout.Bracket.TheVariants.{Square, Curly}
use Rattle.granit_language.specs.GrammarFault.{ExpectedDocumentStart, MissingDocumentEndBeforeDirective}
use Rattle.granit_language.specs.GrammarFault.{UnexpectedEofBlockSequence, UnexpectedEofBlockMapping}
use Rattle.granit_language.specs.GrammarFault.{UnexpectedEofImplicitFlowMapping, ExpectedBlockMappingKey}
use Rattle.granit_language.specs.GrammarFault.{ExpectedBlockSequenceEntry, ExpectedFlowMappingSeparator}
use Rattle.granit_language.specs.GrammarFault.{ExpectedFlowSequenceSeparator}
use Rattle.granit_grammar_rows.specs.Row.{Row, is_refused, anchor_at, tag_from, text_at, dash_at, question_at, colon_at}
use Rattle.granit_grammar_rows.specs.Row.{colon_of, comma_at, start_mark_at, end_mark_at, directive_from, opener_at}
use Rattle.granit_grammar_rows.specs.Row.{closer_at, end_at, begins}

abbrev pub no_root_or_entry : List Row
no_root_or_entry =
    -- ", "
    is_refused (comma_at 0 0 ∷ end_at 2 2 ∷ []) UnexpectedEofBlockSequence 0
    -- ", &x "
    ∷ is_refused (comma_at 0 0 ∷ anchor_at 2 2 ∷ end_at 5 5 ∷ []) UnexpectedEofBlockSequence 0
    -- ", !t "
    ∷ is_refused (comma_at 0 0 ∷ tag_from 2 2 ∷ end_at 5 5 ∷ []) UnexpectedEofBlockSequence 0
    -- ", a"
    ∷ is_refused (comma_at 0 0 ∷ text_at 2 3 2 ∷ end_at 3 3 ∷ []) UnexpectedEofBlockSequence 0
    -- "- , "
    ∷ is_refused (dash_at 0 2 0 ∷ comma_at 2 2 ∷ end_at 4 4 ∷ []) UnexpectedEofBlockSequence 1
    -- ", , "
    ∷ is_refused (comma_at 0 0 ∷ comma_at 2 2 ∷ end_at 4 4 ∷ []) UnexpectedEofBlockSequence 0
    -- "--- , "
    ∷ is_refused (start_mark_at 0 ∷ comma_at 4 4 ∷ end_at 6 6 ∷ []) UnexpectedEofBlockSequence 1
    -- "...\n, "
    ∷ is_refused (end_mark_at 0 ∷ comma_at 4 0 ∷ end_at 6 2 ∷ []) UnexpectedEofBlockSequence 1
    -- ", \na"
    ∷ is_refused (comma_at 0 0 ∷ text_at 3 4 0 ∷ end_at 4 1 ∷ []) UnexpectedEofBlockSequence 0
    -- ", \n- "
    ∷ is_refused (comma_at 0 0 ∷ dash_at 3 5 0 ∷ end_at 5 2 ∷ []) UnexpectedEofBlockSequence 0
    -- ", \n? "
    ∷ is_refused (comma_at 0 0 ∷ question_at 3 0 ∷ end_at 5 2 ∷ []) UnexpectedEofBlockSequence 0
    -- ", \n: "
    ∷ is_refused (comma_at 0 0 ∷ colon_at 3 0 ∷ end_at 5 2 ∷ []) UnexpectedEofBlockSequence 0
    -- ", \n--- "
    ∷ is_refused (comma_at 0 0 ∷ start_mark_at 3 ∷ end_at 7 4 ∷ []) UnexpectedEofBlockSequence 0
    -- ", \n...\n"
    ∷ is_refused (comma_at 0 0 ∷ end_mark_at 3 ∷ end_at 7 0 ∷ []) UnexpectedEofBlockSequence 0
    -- ", \n%A\n"
    ∷ is_refused (comma_at 0 0 ∷ directive_from 3 ∷ end_at 6 0 ∷ []) UnexpectedEofBlockSequence 0
    -- "- \n: a"
    ∷ is_refused (dash_at 0 2 0 ∷ colon_at 3 0 ∷ text_at 5 6 2 ∷ end_at 6 3 ∷ []) UnexpectedEofBlockSequence 1
    -- "- \na: a"
    ∷ is_refused (dash_at 0 2 0 ∷ begins (text_at 3 4 0) ∷ colon_of 0 4 1 ∷ text_at 6 7 3 ∷ end_at 7 4 ∷ [])
    UnexpectedEofBlockSequence 1
    -- "...\n , \n"
    ∷ is_refused (end_mark_at 0 ∷ comma_at 5 1 ∷ end_at 8 0 ∷ []) UnexpectedEofBlockSequence 1
    ∷ []

abbrev pub where_a_document_must_start : List Row
where_a_document_must_start =
    -- "%A\n"
    is_refused (directive_from 0 ∷ end_at 3 0 ∷ []) ExpectedDocumentStart 1
    -- "&x &x "
    ∷ is_refused (anchor_at 0 0 ∷ anchor_at 3 3 ∷ end_at 6 6 ∷ []) ExpectedDocumentStart 1
    -- "%A\n&x "
    ∷ is_refused (directive_from 0 ∷ anchor_at 3 0 ∷ end_at 6 3 ∷ []) ExpectedDocumentStart 1
    -- "!t !t "
    ∷ is_refused (tag_from 0 0 ∷ tag_from 3 3 ∷ end_at 6 6 ∷ []) ExpectedDocumentStart 1
    -- "%A\n!t "
    ∷ is_refused (directive_from 0 ∷ tag_from 3 0 ∷ end_at 6 3 ∷ []) ExpectedDocumentStart 1
    -- "%A\na"
    ∷ is_refused (directive_from 0 ∷ text_at 3 4 0 ∷ end_at 4 1 ∷ []) ExpectedDocumentStart 1
    -- "%A\n- "
    ∷ is_refused (directive_from 0 ∷ dash_at 3 5 0 ∷ end_at 5 2 ∷ []) ExpectedDocumentStart 1
    -- "%A\n? "
    ∷ is_refused (directive_from 0 ∷ question_at 3 0 ∷ end_at 5 2 ∷ []) ExpectedDocumentStart 1
    -- "%A\n: "
    ∷ is_refused (directive_from 0 ∷ colon_at 3 0 ∷ end_at 5 2 ∷ []) ExpectedDocumentStart 1
    -- "&x , "
    ∷ is_refused (anchor_at 0 0 ∷ comma_at 3 3 ∷ end_at 5 5 ∷ []) ExpectedDocumentStart 1
    -- "!t , "
    ∷ is_refused (tag_from 0 0 ∷ comma_at 3 3 ∷ end_at 5 5 ∷ []) ExpectedDocumentStart 1
    -- "%A\n, "
    ∷ is_refused (directive_from 0 ∷ comma_at 3 0 ∷ end_at 5 2 ∷ []) ExpectedDocumentStart 1
    -- "%A\na: "
    ∷ is_refused (directive_from 0 ∷ begins (text_at 3 4 0) ∷ colon_of 0 4 1 ∷ end_at 6 3 ∷ []) ExpectedDocumentStart 1
    -- "%A\n...\n"
    ∷ is_refused (directive_from 0 ∷ end_mark_at 3 ∷ end_at 7 0 ∷ []) ExpectedDocumentStart 1
    -- "...\n%A\n"
    ∷ is_refused (end_mark_at 0 ∷ directive_from 4 ∷ end_at 7 0 ∷ []) ExpectedDocumentStart 2
    -- "%A\n%A\n"
    ∷ is_refused (directive_from 0 ∷ directive_from 3 ∷ end_at 6 0 ∷ []) ExpectedDocumentStart 2
    -- "&x !t &x "
    ∷ is_refused (anchor_at 0 0 ∷ tag_from 3 3 ∷ anchor_at 6 6 ∷ end_at 9 9 ∷ []) ExpectedDocumentStart 2
    -- "!t &x !t "
    ∷ is_refused (tag_from 0 0 ∷ anchor_at 3 3 ∷ tag_from 6 6 ∷ end_at 9 9 ∷ []) ExpectedDocumentStart 2
    -- "[]!t "
    ∷ is_refused (opener_at Square 0 0 ∷ closer_at Square 1 1 ∷ tag_from 2 2 ∷ end_at 5 5 ∷ []) ExpectedDocumentStart 2
    -- "{}!t "
    ∷ is_refused (opener_at Curly 0 0 ∷ closer_at Curly 1 1 ∷ tag_from 2 2 ∷ end_at 5 5 ∷ []) ExpectedDocumentStart 2
    -- "[]a"
    ∷ is_refused (opener_at Square 0 0 ∷ closer_at Square 1 1 ∷ text_at 2 3 2 ∷ end_at 3 3 ∷ []) ExpectedDocumentStart 2
    -- "{}a"
    ∷ is_refused (opener_at Curly 0 0 ∷ closer_at Curly 1 1 ∷ text_at 2 3 2 ∷ end_at 3 3 ∷ []) ExpectedDocumentStart 2
    -- "%A\n&x : "
    ∷ is_refused (directive_from 0 ∷ begins (anchor_at 3 0) ∷ colon_of 0 6 3 ∷ end_at 8 5 ∷ []) ExpectedDocumentStart 1
    -- "%A\n!t : "
    ∷ is_refused (directive_from 0 ∷ begins (tag_from 3 0) ∷ colon_of 0 6 3 ∷ end_at 8 5 ∷ []) ExpectedDocumentStart 1
    -- "a\n: "
    ∷ is_refused (text_at 0 1 0 ∷ colon_at 2 0 ∷ end_at 4 2 ∷ []) ExpectedDocumentStart 1
    -- "%A\n[]"
    ∷ is_refused (directive_from 0 ∷ opener_at Square 3 0 ∷ closer_at Square 4 1 ∷ end_at 5 2 ∷ [])
    ExpectedDocumentStart 1
    -- "!t \n, "
    ∷ is_refused (tag_from 0 0 ∷ comma_at 4 0 ∷ end_at 6 2 ∷ []) ExpectedDocumentStart 1
    -- "[], "
    ∷ is_refused (opener_at Square 0 0 ∷ closer_at Square 1 1 ∷ comma_at 2 2 ∷ end_at 4 4 ∷ []) ExpectedDocumentStart 2
    -- "{}, "
    ∷ is_refused (opener_at Curly 0 0 ∷ closer_at Curly 1 1 ∷ comma_at 2 2 ∷ end_at 4 4 ∷ []) ExpectedDocumentStart 2
    -- "%A\n{}"
    ∷ is_refused (directive_from 0 ∷ opener_at Curly 3 0 ∷ closer_at Curly 4 1 ∷ end_at 5 2 ∷ [])
    ExpectedDocumentStart 1
    -- "...\n[]&x "
    ∷ is_refused (end_mark_at 0 ∷ opener_at Square 4 0 ∷ closer_at Square 5 1 ∷ anchor_at 6 2 ∷ end_at 9 5 ∷ [])
    ExpectedDocumentStart 3
    -- "...\n{}&x "
    ∷ is_refused (end_mark_at 0 ∷ opener_at Curly 4 0 ∷ closer_at Curly 5 1 ∷ anchor_at 6 2 ∷ end_at 9 5 ∷ [])
    ExpectedDocumentStart 3
    -- " - ...\n&x "
    ∷ is_refused (dash_at 1 3 1 ∷ text_at 3 6 3 ∷ anchor_at 7 0 ∷ end_at 10 3 ∷ []) ExpectedDocumentStart 2
    -- " - ...\n!t "
    ∷ is_refused (dash_at 1 3 1 ∷ text_at 3 6 3 ∷ tag_from 7 0 ∷ end_at 10 3 ∷ []) ExpectedDocumentStart 2
    -- " - ...\na"
    ∷ is_refused (dash_at 1 3 1 ∷ text_at 3 6 3 ∷ text_at 7 8 0 ∷ end_at 8 1 ∷ []) ExpectedDocumentStart 2
    -- "%A\n a- "
    ∷ is_refused (directive_from 0 ∷ text_at 4 6 1 ∷ end_at 7 4 ∷ []) ExpectedDocumentStart 1
    -- " - \n- "
    ∷ is_refused (dash_at 1 3 1 ∷ dash_at 4 6 0 ∷ end_at 6 2 ∷ []) ExpectedDocumentStart 1
    -- "[]\n- "
    ∷ is_refused (opener_at Square 0 0 ∷ closer_at Square 1 1 ∷ dash_at 3 5 0 ∷ end_at 5 2 ∷ []) ExpectedDocumentStart 2
    -- "{}\n- "
    ∷ is_refused (opener_at Curly 0 0 ∷ closer_at Curly 1 1 ∷ dash_at 3 5 0 ∷ end_at 5 2 ∷ []) ExpectedDocumentStart 2
    -- "[]\n? "
    ∷ is_refused (opener_at Square 0 0 ∷ closer_at Square 1 1 ∷ question_at 3 0 ∷ end_at 5 2 ∷ [])
    ExpectedDocumentStart 2
    -- "{}\n? "
    ∷ is_refused (opener_at Curly 0 0 ∷ closer_at Curly 1 1 ∷ question_at 3 0 ∷ end_at 5 2 ∷ []) ExpectedDocumentStart 2
    -- " a\n: "
    ∷ is_refused (text_at 1 2 1 ∷ colon_at 3 0 ∷ end_at 5 2 ∷ []) ExpectedDocumentStart 1
    -- "%A\n[]: "
    ∷ is_refused (directive_from 0 ∷ begins (opener_at Square 3 0) ∷ closer_at Square 4 1 ∷ colon_of 0 5 2
    ∷ end_at 7 4 ∷ []) ExpectedDocumentStart 1
    -- "%A\n{}: "
    ∷ is_refused (directive_from 0 ∷ begins (opener_at Curly 3 0) ∷ closer_at Curly 4 1 ∷ colon_of 0 5 2 ∷ end_at 7 4
    ∷ []) ExpectedDocumentStart 1
    -- "!t \n!t \n"
    ∷ is_refused (tag_from 0 0 ∷ tag_from 4 0 ∷ end_at 8 0 ∷ []) ExpectedDocumentStart 1
    -- "%A\n ? \n"
    ∷ is_refused (directive_from 0 ∷ question_at 4 1 ∷ end_at 7 0 ∷ []) ExpectedDocumentStart 1
    -- "%A\n : \n"
    ∷ is_refused (directive_from 0 ∷ colon_at 4 1 ∷ end_at 7 0 ∷ []) ExpectedDocumentStart 1
    -- "&x \n, \n"
    ∷ is_refused (anchor_at 0 0 ∷ comma_at 4 0 ∷ end_at 7 0 ∷ []) ExpectedDocumentStart 1
    ∷ []

abbrev pub no_key_or_value : List Row
no_key_or_value =
    -- "? , "
    is_refused (question_at 0 0 ∷ comma_at 2 2 ∷ end_at 4 4 ∷ []) UnexpectedEofBlockMapping 1
    -- ": , "
    ∷ is_refused (colon_at 0 0 ∷ comma_at 2 2 ∷ end_at 4 4 ∷ []) UnexpectedEofBlockMapping 1
    -- "--- \na: , "
    ∷ is_refused (start_mark_at 0 ∷ begins (text_at 5 6 0) ∷ colon_of 0 6 1 ∷ comma_at 8 3 ∷ end_at 10 5 ∷ [])
    UnexpectedEofBlockMapping 3
    -- "  &x a: " where the key's text, and no other lexeme, stands in column 0, no text
    ∷ is_refused (begins (anchor_at 0 2) ∷ text_at 3 4 0 ∷ colon_of 0 4 1 ∷ end_at 6 3 ∷ []) ExpectedBlockMappingKey 1
    ∷ []

abbrev pub no_entry_of_a_sequence : List Row
no_entry_of_a_sequence =
    -- "- &x &x "
    is_refused (dash_at 0 2 0 ∷ anchor_at 2 2 ∷ anchor_at 5 5 ∷ end_at 8 8 ∷ []) ExpectedBlockSequenceEntry 2
    -- "- !t !t "
    ∷ is_refused (dash_at 0 2 0 ∷ tag_from 2 2 ∷ tag_from 5 5 ∷ end_at 8 8 ∷ []) ExpectedBlockSequenceEntry 2
    -- "- ...\n? "
    ∷ is_refused (dash_at 0 2 0 ∷ text_at 2 5 2 ∷ question_at 6 0 ∷ end_at 8 2 ∷ []) ExpectedBlockSequenceEntry 2
    -- "- ...\n: "
    ∷ is_refused (dash_at 0 2 0 ∷ text_at 2 5 2 ∷ colon_at 6 0 ∷ end_at 8 2 ∷ []) ExpectedBlockSequenceEntry 2
    -- "- &x , "
    ∷ is_refused (dash_at 0 2 0 ∷ anchor_at 2 2 ∷ comma_at 5 5 ∷ end_at 7 7 ∷ []) ExpectedBlockSequenceEntry 2
    -- "- !t , "
    ∷ is_refused (dash_at 0 2 0 ∷ tag_from 2 2 ∷ comma_at 5 5 ∷ end_at 7 7 ∷ []) ExpectedBlockSequenceEntry 2
    -- "- ...\n, "
    ∷ is_refused (dash_at 0 2 0 ∷ text_at 2 5 2 ∷ comma_at 6 0 ∷ end_at 8 2 ∷ []) ExpectedBlockSequenceEntry 2
    -- "- ...\na: "
    ∷ is_refused (dash_at 0 2 0 ∷ text_at 2 5 2 ∷ begins (text_at 6 7 0) ∷ colon_of 0 7 1 ∷ end_at 9 3 ∷ [])
    ExpectedBlockSequenceEntry 2
    -- "- []a"
    ∷ is_refused (dash_at 0 2 0 ∷ opener_at Square 2 2 ∷ closer_at Square 3 3 ∷ text_at 4 5 4 ∷ end_at 5 5 ∷ [])
    ExpectedBlockSequenceEntry 3
    -- "- &x \n? "
    ∷ is_refused (dash_at 0 2 0 ∷ anchor_at 2 2 ∷ question_at 6 0 ∷ end_at 8 2 ∷ []) ExpectedBlockSequenceEntry 2
    -- "- !t \n? "
    ∷ is_refused (dash_at 0 2 0 ∷ tag_from 2 2 ∷ question_at 6 0 ∷ end_at 8 2 ∷ []) ExpectedBlockSequenceEntry 2
    -- "- ...\n&x : "
    ∷ is_refused (dash_at 0 2 0 ∷ text_at 2 5 2 ∷ begins (anchor_at 6 0) ∷ colon_of 0 9 3 ∷ end_at 11 5 ∷ [])
    ExpectedBlockSequenceEntry 2
    -- "- ...\n!t : "
    ∷ is_refused (dash_at 0 2 0 ∷ text_at 2 5 2 ∷ begins (tag_from 6 0) ∷ colon_of 0 9 3 ∷ end_at 11 5 ∷ [])
    ExpectedBlockSequenceEntry 2
    -- "- a: \n: "
    ∷ is_refused (dash_at 0 2 0 ∷ begins (text_at 2 3 2) ∷ colon_of 0 3 3 ∷ colon_at 6 0 ∷ end_at 8 2 ∷ [])
    ExpectedBlockSequenceEntry 3
    -- "- {}, "
    ∷ is_refused (dash_at 0 2 0 ∷ opener_at Curly 2 2 ∷ closer_at Curly 3 3 ∷ comma_at 4 4 ∷ end_at 6 6 ∷ [])
    ExpectedBlockSequenceEntry 3
    ∷ []

abbrev pub no_entry_of_a_mapping : List Row
no_entry_of_a_mapping =
    -- "? &x &x "
    is_refused (question_at 0 0 ∷ anchor_at 2 2 ∷ anchor_at 5 5 ∷ end_at 8 8 ∷ []) ExpectedBlockMappingKey 2
    -- "? !t !t "
    ∷ is_refused (question_at 0 0 ∷ tag_from 2 2 ∷ tag_from 5 5 ∷ end_at 8 8 ∷ []) ExpectedBlockMappingKey 2
    -- "? ...\n- "
    ∷ is_refused (question_at 0 0 ∷ text_at 2 5 2 ∷ dash_at 6 8 0 ∷ end_at 8 2 ∷ []) ExpectedBlockMappingKey 2
    -- "&x &x : "
    ∷ is_refused (begins (anchor_at 0 0) ∷ anchor_at 3 3 ∷ colon_of 0 6 6 ∷ end_at 8 8 ∷ []) ExpectedBlockMappingKey 1
    -- "? &x , "
    ∷ is_refused (question_at 0 0 ∷ anchor_at 2 2 ∷ comma_at 5 5 ∷ end_at 7 7 ∷ []) ExpectedBlockMappingKey 2
    -- "? !t , "
    ∷ is_refused (question_at 0 0 ∷ tag_from 2 2 ∷ comma_at 5 5 ∷ end_at 7 7 ∷ []) ExpectedBlockMappingKey 2
    -- "? ...\n, "
    ∷ is_refused (question_at 0 0 ∷ text_at 2 5 2 ∷ comma_at 6 0 ∷ end_at 8 2 ∷ []) ExpectedBlockMappingKey 2
    -- "? {}&x "
    ∷ is_refused (question_at 0 0 ∷ opener_at Curly 2 2 ∷ closer_at Curly 3 3 ∷ anchor_at 4 4 ∷ end_at 7 7 ∷ [])
    ExpectedBlockMappingKey 3
    -- "? a: \n- "
    ∷ is_refused (question_at 0 0 ∷ begins (text_at 2 3 2) ∷ colon_of 0 3 3 ∷ dash_at 6 8 0 ∷ end_at 8 2 ∷ [])
    ExpectedBlockMappingKey 3
    -- "- !t !t : "
    ∷ is_refused (dash_at 0 2 0 ∷ begins (tag_from 2 2) ∷ tag_from 5 5 ∷ colon_of 0 8 8 ∷ end_at 10 10 ∷ [])
    ExpectedBlockMappingKey 2
    -- ": - \n, "
    ∷ is_refused (colon_at 0 0 ∷ dash_at 2 4 2 ∷ comma_at 5 0 ∷ end_at 7 2 ∷ []) ExpectedBlockMappingKey 2
    -- "- []a: "
    ∷ is_refused (dash_at 0 2 0 ∷ begins (opener_at Square 2 2) ∷ closer_at Square 3 3 ∷ text_at 4 5 4
    ∷ colon_of 0 5 5 ∷ end_at 7 7 ∷ []) ExpectedBlockMappingKey 3
    ∷ []

abbrev pub no_node_in_flow : List Row
no_node_in_flow =
    -- "{, }"
    is_refused (opener_at Curly 0 0 ∷ comma_at 1 1 ∷ closer_at Curly 3 3 ∷ end_at 4 4 ∷ [])
    UnexpectedEofImplicitFlowMapping 1
    -- "[, ]: "
    ∷ is_refused (begins (opener_at Square 0 0) ∷ comma_at 1 1 ∷ closer_at Square 3 3 ∷ colon_of 0 4 4 ∷ end_at 6 6
    ∷ []) UnexpectedEofImplicitFlowMapping 1
    -- "{, }: "
    ∷ is_refused (begins (opener_at Curly 0 0) ∷ comma_at 1 1 ∷ closer_at Curly 3 3 ∷ colon_of 0 4 4 ∷ end_at 6 6 ∷ [])
    UnexpectedEofImplicitFlowMapping 1
    -- "[: ? ]"
    ∷ is_refused (opener_at Square 0 0 ∷ colon_at 1 1 ∷ question_at 3 3 ∷ closer_at Square 5 5 ∷ end_at 6 6 ∷ [])
    UnexpectedEofImplicitFlowMapping 2
    -- "[a: ? ]"
    ∷ is_refused (opener_at Square 0 0 ∷ begins (text_at 1 2 1) ∷ colon_of 0 2 2 ∷ question_at 4 4
    ∷ closer_at Square 6 6 ∷ end_at 7 7 ∷ []) UnexpectedEofImplicitFlowMapping 3
    -- "[? : ]"
    ∷ is_refused (opener_at Square 0 0 ∷ question_at 1 1 ∷ colon_at 3 3 ∷ closer_at Square 5 5 ∷ end_at 6 6 ∷ [])
    UnexpectedEofImplicitFlowMapping 2
    -- "? [, ]"
    ∷ is_refused (question_at 0 0 ∷ opener_at Square 2 2 ∷ comma_at 3 3 ∷ closer_at Square 5 5 ∷ end_at 6 6 ∷ [])
    UnexpectedEofImplicitFlowMapping 2
    -- "{\n%A\n}"
    ∷ is_refused (opener_at Curly 0 0 ∷ directive_from 2 ∷ closer_at Curly 5 0 ∷ end_at 6 1 ∷ [])
    UnexpectedEofImplicitFlowMapping 1
    ∷ []

abbrev pub directives_without_document_end : List Row
directives_without_document_end =
    -- "&x \n%A\n"
    is_refused (anchor_at 0 0 ∷ directive_from 4 ∷ end_at 7 0 ∷ []) MissingDocumentEndBeforeDirective 1
    -- "!t \n%A\n"
    ∷ is_refused (tag_from 0 0 ∷ directive_from 4 ∷ end_at 7 0 ∷ []) MissingDocumentEndBeforeDirective 1
    -- "- \n%A\n"
    ∷ is_refused (dash_at 0 2 0 ∷ directive_from 3 ∷ end_at 6 0 ∷ []) MissingDocumentEndBeforeDirective 1
    -- "? \n%A\n"
    ∷ is_refused (question_at 0 0 ∷ directive_from 3 ∷ end_at 6 0 ∷ []) MissingDocumentEndBeforeDirective 1
    -- ": \n%A\n"
    ∷ is_refused (colon_at 0 0 ∷ directive_from 3 ∷ end_at 6 0 ∷ []) MissingDocumentEndBeforeDirective 1
    -- "a: \n%A\n"
    ∷ is_refused (begins (text_at 0 1 0) ∷ colon_of 0 1 1 ∷ directive_from 4 ∷ end_at 7 0 ∷ [])
    MissingDocumentEndBeforeDirective 2
    -- "--- \n%A\n"
    ∷ is_refused (start_mark_at 0 ∷ directive_from 5 ∷ end_at 8 0 ∷ []) MissingDocumentEndBeforeDirective 1
    -- "- ...\n%A\n"
    ∷ is_refused (dash_at 0 2 0 ∷ text_at 2 5 2 ∷ directive_from 6 ∷ end_at 9 0 ∷ [])
    MissingDocumentEndBeforeDirective 2
    -- "[]\n%A\n"
    ∷ is_refused (opener_at Square 0 0 ∷ closer_at Square 1 1 ∷ directive_from 3 ∷ end_at 6 0 ∷ [])
    MissingDocumentEndBeforeDirective 2
    -- "{}\n%A\n"
    ∷ is_refused (opener_at Curly 0 0 ∷ closer_at Curly 1 1 ∷ directive_from 3 ∷ end_at 6 0 ∷ [])
    MissingDocumentEndBeforeDirective 2
    ∷ []

abbrev pub no_separator_in_a_sequence : List Row
no_separator_in_a_sequence =
    -- "[&x &x ]"
    is_refused (opener_at Square 0 0 ∷ anchor_at 1 1 ∷ anchor_at 4 4 ∷ closer_at Square 7 7 ∷ end_at 8 8 ∷ [])
    ExpectedFlowSequenceSeparator 2
    -- "[!t !t ]"
    ∷ is_refused (opener_at Square 0 0 ∷ tag_from 1 1 ∷ tag_from 4 4 ∷ closer_at Square 7 7 ∷ end_at 8 8 ∷ [])
    ExpectedFlowSequenceSeparator 2
    -- "[&x ? ]"
    ∷ is_refused (opener_at Square 0 0 ∷ anchor_at 1 1 ∷ question_at 4 4 ∷ closer_at Square 6 6 ∷ end_at 7 7 ∷ [])
    ExpectedFlowSequenceSeparator 2
    -- "[? a : a []]"
    ∷ is_refused (opener_at Square 0 0 ∷ question_at 1 1 ∷ text_at 3 4 3 ∷ colon_at 5 5 ∷ text_at 7 8 7
    ∷ opener_at Square 9 9 ∷ closer_at Square 10 10 ∷ closer_at Square 11 11 ∷ end_at 12 12 ∷ [])
    ExpectedFlowSequenceSeparator 5
    ∷ []

abbrev pub no_separator_in_a_mapping : List Row
no_separator_in_a_mapping =
    -- "[: a: ]"
    is_refused (opener_at Square 0 0 ∷ colon_at 1 1 ∷ text_at 3 4 3 ∷ colon_at 4 4 ∷ closer_at Square 6 6
    ∷ end_at 7 7 ∷ []) ExpectedFlowMappingSeparator 3
    -- "{&x &x }"
    ∷ is_refused (opener_at Curly 0 0 ∷ anchor_at 1 1 ∷ anchor_at 4 4 ∷ closer_at Curly 7 7 ∷ end_at 8 8 ∷ [])
    ExpectedFlowMappingSeparator 2
    -- "{!t !t }"
    ∷ is_refused (opener_at Curly 0 0 ∷ tag_from 1 1 ∷ tag_from 4 4 ∷ closer_at Curly 7 7 ∷ end_at 8 8 ∷ [])
    ExpectedFlowMappingSeparator 2
    -- "{&x ? }"
    ∷ is_refused (opener_at Curly 0 0 ∷ anchor_at 1 1 ∷ question_at 4 4 ∷ closer_at Curly 6 6 ∷ end_at 7 7 ∷ [])
    ExpectedFlowMappingSeparator 2
    ∷ []
