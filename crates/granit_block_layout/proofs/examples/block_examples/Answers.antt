-- Each example is a computation.
use Rattle.std.proofs.Common.{arith, refl}
use lib.Utf8.{encode}
use Rattle.std.specs.Fmt.{digits}
use Rattle.std.specs.Str.{chars}
use Rattle.granit_base.specs.Classes.{is_z, is_break, is_breakz, is_blank, is_blank_or_breakz, is_digit, is_hex}
use Rattle.granit_base.specs.Classes.{hex_value, is_word_char, is_alpha, is_flow, is_bom, is_printable}
use Rattle.granit_base.specs.Classes.{is_yaml_non_break, is_yaml_non_space, is_anchor_char, is_uri_sign, is_uri_char}
use Rattle.granit_base.specs.Classes.{is_tag_char, is_gap}
use Rattle.granit_lexemes.specs.Here.{begins_behind, tab_behind, step, past}
use Rattle.granit_lexemes.specs.Moves.{steps, past_prefix_mark}
use Rattle.granit_lexemes.specs.Basics.{past_break}
use Rattle.granit_lexemes.specs.Pieces.{turns, pieces}
use Rattle.granit_lexemes.specs.Decoding.{letter_value, digit_count, is_high, is_low}
use Rattle.granit_lexemes.specs.Line.{quoted_char, event_line}
use Rattle.granit_lexemes.specs.Tail.{tail_behind}
use Rattle.granit_lexemes.specs.QuotedScalar.{is_closing, digits_or, second_half_or, numbered_or, escape_or}
use Rattle.granit_lexemes.specs.QuotedScalar.{is_strictly_left, is_loosely_left, over_blank, over_break, quoted_content}
use Rattle.granit_lexemes.specs.QuotedScalar.{quoted_turn, may_trail, behind_quoted, quoted_tail, quoted_scalar}
use Rattle.granit_lexemes.specs.Tags.{escaped_byte, bytes_behind, trailing_bytes, uri_turn, tag_ends, tag_at, name_at}
use Rattle.granit_machine.specs.BlockSteps.{in_sequence, behind_indicator}
use Rattle.granit_machine.specs.Closing.{goes_on_with, close_turn}
use Rattle.granit_machine.specs.Columns.{refuse_column, entered_columns}
use Rattle.granit_machine.specs.FlowLexemes.{opener, closes}
use Rattle.granit_machine.specs.Gaps.{refuse_tab_at, past_gap, over_break_if, goes_on_behind, noted_gap, ready_gap}
use Rattle.granit_machine.specs.Gaps.{gap_ends}
use Rattle.granit_machine.specs.Giving.{node_event}
use Rattle.granit_machine.specs.IndicatorLexemes.{is_tabbed_dash, behind_dash, dash_up_to, dash, question_up_to}
use Rattle.granit_machine.specs.IndicatorLexemes.{question_by, question, keyed_colon, bare_colon, colon_tail, colon}
use Rattle.granit_machine.specs.LexemeSort.{sort_of, sort_at}
use Rattle.granit_machine.specs.NodeEnds.{end_node, end_properties, begin_block}
use Rattle.granit_machine.specs.NodeSteps.{take_dash}
use Rattle.granit_machine.specs.Parser.{feed}
use Rattle.granit_machine.specs.PossibleKeys.{is_stale, is_allowed, node_key, is_far_below}
use Rattle.granit_machine.specs.Reader.{lexeme_of, is_strict_outside, lexeme_in_column, lexeme_by, read, lex_turn}
use Rattle.granit_machine.specs.ReaderState.{tailed}
use Rattle.granit_machine.specs.StreamLexemes.{end_mark_up_to}
use Rattle.granit_model.proofs.FittingLemmas.{told_documents}
use Rattle.granit_model.specs.WorkedTrees.{names_tree}
use Rattle.granit_model.specs.FlowText.{upper_digit, tag_byte, quoted_character}
use Rattle.granit_block_layout.proofs.examples.block_examples.Goals as goal

pub returns-clause-pairs_text : goal.returns-clause-pairs_text
unfolding upper_digit tag_byte is_word_char is_digit quoted_character encode
returns-clause-pairs_text c = refl

pub returns-clause-documents_text : goal.returns-clause-documents_text
unfolding upper_digit tag_byte is_word_char is_digit quoted_character encode
returns-clause-documents_text c = refl

pub returns-clause-worked_text : goal.returns-clause-worked_text
unfolding upper_digit tag_byte is_word_char is_digit quoted_character encode
returns-clause-worked_text c = refl

pub returns-clause-names_text : goal.returns-clause-names_text
unfolding upper_digit tag_byte is_word_char is_digit quoted_character encode
returns-clause-names_text c = refl

pub returns-clause-nothing : goal.returns-clause-nothing
unfolding encode digits chars is_z is_break is_breakz is_blank is_blank_or_breakz is_digit is_hex hex_value
    is_word_char is_alpha is_flow is_bom is_printable is_yaml_non_break is_yaml_non_space is_anchor_char is_uri_sign
    is_uri_char is_tag_char is_gap begins_behind tab_behind step past steps past_prefix_mark past_break turns pieces
    letter_value digit_count is_high is_low quoted_char event_line tail_behind is_closing digits_or second_half_or
    numbered_or escape_or is_strictly_left is_loosely_left over_blank over_break quoted_content quoted_turn may_trail
    behind_quoted quoted_tail quoted_scalar escaped_byte bytes_behind trailing_bytes uri_turn tag_ends tag_at name_at
    in_sequence behind_indicator goes_on_with close_turn refuse_column entered_columns opener closes refuse_tab_at
    past_gap over_break_if goes_on_behind noted_gap ready_gap gap_ends node_event is_tabbed_dash behind_dash
    dash_up_to dash question_up_to question_by question keyed_colon bare_colon colon_tail colon sort_of sort_at
    end_node end_properties begin_block take_dash feed is_stale is_allowed node_key is_far_below lexeme_of
    is_strict_outside lexeme_in_column lexeme_by read lex_turn tailed end_mark_up_to upper_digit tag_byte
    quoted_character
returns-clause-nothing c = refl

pub returns-clause-pairs : goal.returns-clause-pairs
unfolding encode digits chars is_z is_break is_breakz is_blank is_blank_or_breakz is_digit is_hex hex_value
    is_word_char is_alpha is_flow is_bom is_printable is_yaml_non_break is_yaml_non_space is_anchor_char is_uri_sign
    is_uri_char is_tag_char is_gap begins_behind tab_behind step past steps past_prefix_mark past_break turns pieces
    letter_value digit_count is_high is_low quoted_char event_line tail_behind is_closing digits_or second_half_or
    numbered_or escape_or is_strictly_left is_loosely_left over_blank over_break quoted_content quoted_turn may_trail
    behind_quoted quoted_tail quoted_scalar escaped_byte bytes_behind trailing_bytes uri_turn tag_ends tag_at name_at
    in_sequence behind_indicator goes_on_with close_turn refuse_column entered_columns opener closes refuse_tab_at
    past_gap over_break_if goes_on_behind noted_gap ready_gap gap_ends node_event is_tabbed_dash behind_dash
    dash_up_to dash question_up_to question_by question keyed_colon bare_colon colon_tail colon sort_of sort_at
    end_node end_properties begin_block take_dash feed is_stale is_allowed node_key is_far_below lexeme_of
    is_strict_outside lexeme_in_column lexeme_by read lex_turn tailed end_mark_up_to upper_digit tag_byte
    quoted_character
returns-clause-pairs c = refl

pub returns-clause-documents : goal.returns-clause-documents
unfolding encode digits chars is_z is_break is_breakz is_blank is_blank_or_breakz is_digit is_hex hex_value
    is_word_char is_alpha is_flow is_bom is_printable is_yaml_non_break is_yaml_non_space is_anchor_char is_uri_sign
    is_uri_char is_tag_char is_gap begins_behind tab_behind step past steps past_prefix_mark past_break turns pieces
    letter_value digit_count is_high is_low quoted_char event_line tail_behind is_closing digits_or second_half_or
    numbered_or escape_or is_strictly_left is_loosely_left over_blank over_break quoted_content quoted_turn may_trail
    behind_quoted quoted_tail quoted_scalar escaped_byte bytes_behind trailing_bytes uri_turn tag_ends tag_at name_at
    in_sequence behind_indicator goes_on_with close_turn refuse_column entered_columns opener closes refuse_tab_at
    past_gap over_break_if goes_on_behind noted_gap ready_gap gap_ends node_event is_tabbed_dash behind_dash
    dash_up_to dash question_up_to question_by question keyed_colon bare_colon colon_tail colon sort_of sort_at
    end_node end_properties begin_block take_dash feed is_stale is_allowed node_key is_far_below lexeme_of
    is_strict_outside lexeme_in_column lexeme_by read lex_turn tailed end_mark_up_to upper_digit tag_byte
    quoted_character
returns-clause-documents c = refl

pub returns-clause-worked : goal.returns-clause-worked
unfolding encode digits chars is_z is_break is_breakz is_blank is_blank_or_breakz is_digit is_hex hex_value
    is_word_char is_alpha is_flow is_bom is_printable is_yaml_non_break is_yaml_non_space is_anchor_char is_uri_sign
    is_uri_char is_tag_char is_gap begins_behind tab_behind step past steps past_prefix_mark past_break turns pieces
    letter_value digit_count is_high is_low quoted_char event_line tail_behind is_closing digits_or second_half_or
    numbered_or escape_or is_strictly_left is_loosely_left over_blank over_break quoted_content quoted_turn may_trail
    behind_quoted quoted_tail quoted_scalar escaped_byte bytes_behind trailing_bytes uri_turn tag_ends tag_at name_at
    in_sequence behind_indicator goes_on_with close_turn refuse_column entered_columns opener closes refuse_tab_at
    past_gap over_break_if goes_on_behind noted_gap ready_gap gap_ends node_event is_tabbed_dash behind_dash
    dash_up_to dash question_up_to question_by question keyed_colon bare_colon colon_tail colon sort_of sort_at
    end_node end_properties begin_block take_dash feed is_stale is_allowed node_key is_far_below lexeme_of
    is_strict_outside lexeme_in_column lexeme_by read lex_turn tailed end_mark_up_to upper_digit tag_byte
    quoted_character
returns-clause-worked c = refl

pub returns-clause-names : goal.returns-clause-names
unfolding encode digits chars is_z is_break is_breakz is_blank is_blank_or_breakz is_digit is_hex hex_value
    is_word_char is_alpha is_flow is_bom is_printable is_yaml_non_break is_yaml_non_space is_anchor_char is_uri_sign
    is_uri_char is_tag_char is_gap begins_behind tab_behind step past steps past_prefix_mark past_break turns pieces
    letter_value digit_count is_high is_low quoted_char event_line tail_behind is_closing digits_or second_half_or
    numbered_or escape_or is_strictly_left is_loosely_left over_blank over_break quoted_content quoted_turn may_trail
    behind_quoted quoted_tail quoted_scalar escaped_byte bytes_behind trailing_bytes uri_turn tag_ends tag_at name_at
    in_sequence behind_indicator goes_on_with close_turn refuse_column entered_columns opener closes refuse_tab_at
    past_gap over_break_if goes_on_behind noted_gap ready_gap gap_ends node_event is_tabbed_dash behind_dash
    dash_up_to dash question_up_to question_by question keyed_colon bare_colon colon_tail colon sort_of sort_at
    end_node end_properties begin_block take_dash feed is_stale is_allowed node_key is_far_below lexeme_of
    is_strict_outside lexeme_in_column lexeme_by read lex_turn tailed end_mark_up_to upper_digit tag_byte
    quoted_character
returns-clause-names c = refl

pub returns-clause-can_be_met : goal.returns-clause-can_be_met
unfolding is_anchor_char is_yaml_non_space is_yaml_non_break is_printable is_break is_blank is_flow is_bom
returns-clause-can_be_met c = (
  told_documents names_tree refl,
  (
    (tt, ((tt, refl), ((((tt, refl), ((refl, refl), refl)), refl), ((tt, refl), (tt, refl, ((refl, tt), tt)))))),
    ((tt, refl), (((tt, ((tt, refl), refl)), refl), refl)),
  ),
  omega arith,
  omega arith,
)
