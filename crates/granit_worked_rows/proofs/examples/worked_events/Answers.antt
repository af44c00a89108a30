-- Each row is a computation.
use Rattle.std.proofs.Common.{refl}
use lib.Utf8.{encode}
use Rattle.std.specs.Fmt.{digits}
use Rattle.std.specs.Str.{chars}
use Rattle.granit_base.specs.Classes.{is_z, is_break, is_breakz, is_blank, is_blank_or_breakz, is_digit, is_hex}
use Rattle.granit_base.specs.Classes.{hex_value, is_word_char, is_alpha, is_flow, is_bom, is_printable}
use Rattle.granit_base.specs.Classes.{is_yaml_non_break, is_yaml_non_space, is_anchor_char, is_uri_sign, is_uri_char}
use Rattle.granit_base.specs.Classes.{is_tag_char, is_gap}
use Rattle.granit_lexemes.specs.Here.{begins_behind, tab_behind, step, past}
use Rattle.granit_lexemes.specs.Moves.{steps, past_prefix_mark}
use Rattle.granit_lexemes.specs.Basics.{past_break}
use Rattle.granit_lexemes.specs.Pieces.{turns, pieces}
use Rattle.granit_lexemes.specs.Decoding.{letter_value, digit_count, is_high, is_low}
use Rattle.granit_lexemes.specs.Line.{quoted_char, event_line}
use Rattle.granit_lexemes.specs.Comment.{behind_comment, skipped_comment, comment}
use Rattle.granit_lexemes.specs.Tail.{tail_behind}
use Rattle.granit_lexemes.specs.PlainScalar.{on_content, on_blank, on_break, plain_turn, behind_plain, plain_scalar}
use Rattle.granit_lexemes.specs.QuotedScalar.{is_closing, digits_or, second_half_or, numbered_or, escape_or}
use Rattle.granit_lexemes.specs.QuotedScalar.{is_strictly_left, is_loosely_left, over_blank, over_break, quoted_content}
use Rattle.granit_lexemes.specs.QuotedScalar.{quoted_turn, may_trail, behind_quoted, quoted_tail, quoted_scalar}
use Rattle.granit_lexemes.specs.Tags.{escaped_byte, bytes_behind, trailing_bytes, uri_turn, tag_ends, tag_at, name_at}
use Rattle.granit_lexemes.specs.Directive.{version_number, minor_number, handle_by, handle_at, prefix_at}
use Rattle.granit_lexemes.specs.Directive.{parameter_behind, directive_of, directive_at, directive_tail}
use Rattle.granit_lexemes.specs.Directive.{directive_up_to, directive}
use Rattle.granit_lexemes.specs.BlockHeader.{header_sign, block_header, leading_turn, content_column}
use Rattle.granit_lexemes.specs.BlockScalar.{over_spaces, empty_turn, line_up_to, block_turn, is_white, behind_block}
use Rattle.granit_lexemes.specs.BlockScalar.{content_lines, block_lines, block_body, block_scalar}
use Rattle.granit_machine.specs.BlockSteps.{in_sequence, behind_indicator}
use Rattle.granit_machine.specs.Closing.{goes_on_with, close_turn}
use Rattle.granit_machine.specs.Columns.{refuse_column, entered_columns}
use Rattle.granit_machine.specs.Events.{wide_line}
use Rattle.granit_machine.specs.FlowLexemes.{opener, closes}
use Rattle.granit_machine.specs.Gaps.{refuse_tab_at, past_gap, over_break_if, goes_on_behind, noted_gap, ready_gap}
use Rattle.granit_machine.specs.Gaps.{gap_ends}
use Rattle.granit_machine.specs.Giving.{node_event}
use Rattle.granit_machine.specs.IndicatorLexemes.{is_tabbed_dash, behind_dash, dash_up_to, dash, question_up_to}
use Rattle.granit_machine.specs.IndicatorLexemes.{question_by, question, keyed_colon, bare_colon, colon_tail, colon}
use Rattle.granit_machine.specs.ItemFlags.{flag_line, byte_line}
use Rattle.granit_machine.specs.Items.{lexeme_line}
use Rattle.granit_machine.specs.LexemeSort.{sort_of, sort_at}
use Rattle.granit_machine.specs.NodeEnds.{end_node, end_properties, begin_block}
use Rattle.granit_machine.specs.NodeSteps.{take_dash}
use Rattle.granit_machine.specs.Parser.{feed}
use Rattle.granit_machine.specs.PossibleKeys.{is_stale, is_allowed, node_key, is_far_below}
use Rattle.granit_machine.specs.Reader.{lexeme_of, is_strict_outside, lexeme_in_column, lexeme_by, read, lex_turn}
use Rattle.granit_machine.specs.ReaderState.{tailed}
use Rattle.granit_machine.specs.StreamLexemes.{end_mark_up_to}
use Rattle.granit_worked_rows.proofs.examples.worked_events.Goals as goal

pub returns-clause-nothing : goal.returns-clause-nothing
unfolding is_z is_break is_breakz is_blank is_blank_or_breakz is_digit is_hex hex_value is_word_char is_alpha is_flow
    is_bom is_printable is_yaml_non_break is_yaml_non_space is_anchor_char is_uri_sign is_uri_char is_tag_char is_gap
    begins_behind tab_behind step past steps past_prefix_mark past_break turns pieces letter_value digit_count is_high
    is_low quoted_char event_line behind_comment skipped_comment comment tail_behind on_content on_blank on_break
    plain_turn behind_plain plain_scalar is_closing digits_or second_half_or numbered_or escape_or is_strictly_left
    is_loosely_left over_blank over_break quoted_content quoted_turn may_trail behind_quoted quoted_tail quoted_scalar
    escaped_byte bytes_behind trailing_bytes uri_turn tag_ends tag_at name_at version_number minor_number handle_by
    handle_at prefix_at parameter_behind directive_of directive_at directive_tail directive_up_to directive header_sign
    block_header leading_turn content_column over_spaces empty_turn line_up_to block_turn is_white behind_block
    content_lines block_lines block_body block_scalar in_sequence behind_indicator goes_on_with close_turn refuse_column
    entered_columns wide_line opener closes refuse_tab_at past_gap over_break_if goes_on_behind noted_gap ready_gap
    gap_ends node_event is_tabbed_dash behind_dash dash_up_to dash question_up_to question_by question keyed_colon
    bare_colon colon_tail colon flag_line byte_line lexeme_line sort_of sort_at end_node end_properties begin_block
    take_dash feed is_stale is_allowed node_key is_far_below lexeme_of is_strict_outside lexeme_in_column lexeme_by read
    lex_turn tailed end_mark_up_to digits encode chars
returns-clause-nothing c = refl

pub returns-clause-question_in_flow : goal.returns-clause-question_in_flow
unfolding is_z is_break is_breakz is_blank is_blank_or_breakz is_digit is_hex hex_value is_word_char is_alpha is_flow
    is_bom is_printable is_yaml_non_break is_yaml_non_space is_anchor_char is_uri_sign is_uri_char is_tag_char is_gap
    begins_behind tab_behind step past steps past_prefix_mark past_break turns pieces letter_value digit_count is_high
    is_low quoted_char event_line behind_comment skipped_comment comment tail_behind on_content on_blank on_break
    plain_turn behind_plain plain_scalar is_closing digits_or second_half_or numbered_or escape_or is_strictly_left
    is_loosely_left over_blank over_break quoted_content quoted_turn may_trail behind_quoted quoted_tail quoted_scalar
    escaped_byte bytes_behind trailing_bytes uri_turn tag_ends tag_at name_at version_number minor_number handle_by
    handle_at prefix_at parameter_behind directive_of directive_at directive_tail directive_up_to directive header_sign
    block_header leading_turn content_column over_spaces empty_turn line_up_to block_turn is_white behind_block
    content_lines block_lines block_body block_scalar in_sequence behind_indicator goes_on_with close_turn refuse_column
    entered_columns wide_line opener closes refuse_tab_at past_gap over_break_if goes_on_behind noted_gap ready_gap
    gap_ends node_event is_tabbed_dash behind_dash dash_up_to dash question_up_to question_by question keyed_colon
    bare_colon colon_tail colon flag_line byte_line lexeme_line sort_of sort_at end_node end_properties begin_block
    take_dash feed is_stale is_allowed node_key is_far_below lexeme_of is_strict_outside lexeme_in_column lexeme_by read
    lex_turn tailed end_mark_up_to digits encode chars
returns-clause-question_in_flow c = refl

pub returns-clause-nested : goal.returns-clause-nested
unfolding is_z is_break is_breakz is_blank is_blank_or_breakz is_digit is_hex hex_value is_word_char is_alpha is_flow
    is_bom is_printable is_yaml_non_break is_yaml_non_space is_anchor_char is_uri_sign is_uri_char is_tag_char is_gap
    begins_behind tab_behind step past steps past_prefix_mark past_break turns pieces letter_value digit_count is_high
    is_low quoted_char event_line behind_comment skipped_comment comment tail_behind on_content on_blank on_break
    plain_turn behind_plain plain_scalar is_closing digits_or second_half_or numbered_or escape_or is_strictly_left
    is_loosely_left over_blank over_break quoted_content quoted_turn may_trail behind_quoted quoted_tail quoted_scalar
    escaped_byte bytes_behind trailing_bytes uri_turn tag_ends tag_at name_at version_number minor_number handle_by
    handle_at prefix_at parameter_behind directive_of directive_at directive_tail directive_up_to directive header_sign
    block_header leading_turn content_column over_spaces empty_turn line_up_to block_turn is_white behind_block
    content_lines block_lines block_body block_scalar in_sequence behind_indicator goes_on_with close_turn refuse_column
    entered_columns wide_line opener closes refuse_tab_at past_gap over_break_if goes_on_behind noted_gap ready_gap
    gap_ends node_event is_tabbed_dash behind_dash dash_up_to dash question_up_to question_by question keyed_colon
    bare_colon colon_tail colon flag_line byte_line lexeme_line sort_of sort_at end_node end_properties begin_block
    take_dash feed is_stale is_allowed node_key is_far_below lexeme_of is_strict_outside lexeme_in_column lexeme_by read
    lex_turn tailed end_mark_up_to digits encode chars
returns-clause-nested c = refl

pub returns-clause-indentless : goal.returns-clause-indentless
unfolding is_z is_break is_breakz is_blank is_blank_or_breakz is_digit is_hex hex_value is_word_char is_alpha is_flow
    is_bom is_printable is_yaml_non_break is_yaml_non_space is_anchor_char is_uri_sign is_uri_char is_tag_char is_gap
    begins_behind tab_behind step past steps past_prefix_mark past_break turns pieces letter_value digit_count is_high
    is_low quoted_char event_line behind_comment skipped_comment comment tail_behind on_content on_blank on_break
    plain_turn behind_plain plain_scalar is_closing digits_or second_half_or numbered_or escape_or is_strictly_left
    is_loosely_left over_blank over_break quoted_content quoted_turn may_trail behind_quoted quoted_tail quoted_scalar
    escaped_byte bytes_behind trailing_bytes uri_turn tag_ends tag_at name_at version_number minor_number handle_by
    handle_at prefix_at parameter_behind directive_of directive_at directive_tail directive_up_to directive header_sign
    block_header leading_turn content_column over_spaces empty_turn line_up_to block_turn is_white behind_block
    content_lines block_lines block_body block_scalar in_sequence behind_indicator goes_on_with close_turn refuse_column
    entered_columns wide_line opener closes refuse_tab_at past_gap over_break_if goes_on_behind noted_gap ready_gap
    gap_ends node_event is_tabbed_dash behind_dash dash_up_to dash question_up_to question_by question keyed_colon
    bare_colon colon_tail colon flag_line byte_line lexeme_line sort_of sort_at end_node end_properties begin_block
    take_dash feed is_stale is_allowed node_key is_far_below lexeme_of is_strict_outside lexeme_in_column lexeme_by read
    lex_turn tailed end_mark_up_to digits encode chars
returns-clause-indentless c = refl

pub returns-clause-adjacent_colon : goal.returns-clause-adjacent_colon
unfolding is_z is_break is_breakz is_blank is_blank_or_breakz is_digit is_hex hex_value is_word_char is_alpha is_flow
    is_bom is_printable is_yaml_non_break is_yaml_non_space is_anchor_char is_uri_sign is_uri_char is_tag_char is_gap
    begins_behind tab_behind step past steps past_prefix_mark past_break turns pieces letter_value digit_count is_high
    is_low quoted_char event_line behind_comment skipped_comment comment tail_behind on_content on_blank on_break
    plain_turn behind_plain plain_scalar is_closing digits_or second_half_or numbered_or escape_or is_strictly_left
    is_loosely_left over_blank over_break quoted_content quoted_turn may_trail behind_quoted quoted_tail quoted_scalar
    escaped_byte bytes_behind trailing_bytes uri_turn tag_ends tag_at name_at version_number minor_number handle_by
    handle_at prefix_at parameter_behind directive_of directive_at directive_tail directive_up_to directive header_sign
    block_header leading_turn content_column over_spaces empty_turn line_up_to block_turn is_white behind_block
    content_lines block_lines block_body block_scalar in_sequence behind_indicator goes_on_with close_turn refuse_column
    entered_columns wide_line opener closes refuse_tab_at past_gap over_break_if goes_on_behind noted_gap ready_gap
    gap_ends node_event is_tabbed_dash behind_dash dash_up_to dash question_up_to question_by question keyed_colon
    bare_colon colon_tail colon flag_line byte_line lexeme_line sort_of sort_at end_node end_properties begin_block
    take_dash feed is_stale is_allowed node_key is_far_below lexeme_of is_strict_outside lexeme_in_column lexeme_by read
    lex_turn tailed end_mark_up_to digits encode chars
returns-clause-adjacent_colon c = refl

pub returns-clause-folded : goal.returns-clause-folded
unfolding is_z is_break is_breakz is_blank is_blank_or_breakz is_digit is_hex hex_value is_word_char is_alpha is_flow
    is_bom is_printable is_yaml_non_break is_yaml_non_space is_anchor_char is_uri_sign is_uri_char is_tag_char is_gap
    begins_behind tab_behind step past steps past_prefix_mark past_break turns pieces letter_value digit_count is_high
    is_low quoted_char event_line behind_comment skipped_comment comment tail_behind on_content on_blank on_break
    plain_turn behind_plain plain_scalar is_closing digits_or second_half_or numbered_or escape_or is_strictly_left
    is_loosely_left over_blank over_break quoted_content quoted_turn may_trail behind_quoted quoted_tail quoted_scalar
    escaped_byte bytes_behind trailing_bytes uri_turn tag_ends tag_at name_at version_number minor_number handle_by
    handle_at prefix_at parameter_behind directive_of directive_at directive_tail directive_up_to directive header_sign
    block_header leading_turn content_column over_spaces empty_turn line_up_to block_turn is_white behind_block
    content_lines block_lines block_body block_scalar in_sequence behind_indicator goes_on_with close_turn refuse_column
    entered_columns wide_line opener closes refuse_tab_at past_gap over_break_if goes_on_behind noted_gap ready_gap
    gap_ends node_event is_tabbed_dash behind_dash dash_up_to dash question_up_to question_by question keyed_colon
    bare_colon colon_tail colon flag_line byte_line lexeme_line sort_of sort_at end_node end_properties begin_block
    take_dash feed is_stale is_allowed node_key is_far_below lexeme_of is_strict_outside lexeme_in_column lexeme_by read
    lex_turn tailed end_mark_up_to digits encode chars
returns-clause-folded c = refl

pub returns-clause-no_last_break : goal.returns-clause-no_last_break
unfolding is_z is_break is_breakz is_blank is_blank_or_breakz is_digit is_hex hex_value is_word_char is_alpha is_flow
    is_bom is_printable is_yaml_non_break is_yaml_non_space is_anchor_char is_uri_sign is_uri_char is_tag_char is_gap
    begins_behind tab_behind step past steps past_prefix_mark past_break turns pieces letter_value digit_count is_high
    is_low quoted_char event_line behind_comment skipped_comment comment tail_behind on_content on_blank on_break
    plain_turn behind_plain plain_scalar is_closing digits_or second_half_or numbered_or escape_or is_strictly_left
    is_loosely_left over_blank over_break quoted_content quoted_turn may_trail behind_quoted quoted_tail quoted_scalar
    escaped_byte bytes_behind trailing_bytes uri_turn tag_ends tag_at name_at version_number minor_number handle_by
    handle_at prefix_at parameter_behind directive_of directive_at directive_tail directive_up_to directive header_sign
    block_header leading_turn content_column over_spaces empty_turn line_up_to block_turn is_white behind_block
    content_lines block_lines block_body block_scalar in_sequence behind_indicator goes_on_with close_turn refuse_column
    entered_columns wide_line opener closes refuse_tab_at past_gap over_break_if goes_on_behind noted_gap ready_gap
    gap_ends node_event is_tabbed_dash behind_dash dash_up_to dash question_up_to question_by question keyed_colon
    bare_colon colon_tail colon flag_line byte_line lexeme_line sort_of sort_at end_node end_properties begin_block
    take_dash feed is_stale is_allowed node_key is_far_below lexeme_of is_strict_outside lexeme_in_column lexeme_by read
    lex_turn tailed end_mark_up_to digits encode chars
returns-clause-no_last_break c = refl

pub returns-clause-both_halves : goal.returns-clause-both_halves
unfolding is_z is_break is_breakz is_blank is_blank_or_breakz is_digit is_hex hex_value is_word_char is_alpha is_flow
    is_bom is_printable is_yaml_non_break is_yaml_non_space is_anchor_char is_uri_sign is_uri_char is_tag_char is_gap
    begins_behind tab_behind step past steps past_prefix_mark past_break turns pieces letter_value digit_count is_high
    is_low quoted_char event_line behind_comment skipped_comment comment tail_behind on_content on_blank on_break
    plain_turn behind_plain plain_scalar is_closing digits_or second_half_or numbered_or escape_or is_strictly_left
    is_loosely_left over_blank over_break quoted_content quoted_turn may_trail behind_quoted quoted_tail quoted_scalar
    escaped_byte bytes_behind trailing_bytes uri_turn tag_ends tag_at name_at version_number minor_number handle_by
    handle_at prefix_at parameter_behind directive_of directive_at directive_tail directive_up_to directive header_sign
    block_header leading_turn content_column over_spaces empty_turn line_up_to block_turn is_white behind_block
    content_lines block_lines block_body block_scalar in_sequence behind_indicator goes_on_with close_turn refuse_column
    entered_columns wide_line opener closes refuse_tab_at past_gap over_break_if goes_on_behind noted_gap ready_gap
    gap_ends node_event is_tabbed_dash behind_dash dash_up_to dash question_up_to question_by question keyed_colon
    bare_colon colon_tail colon flag_line byte_line lexeme_line sort_of sort_at end_node end_properties begin_block
    take_dash feed is_stale is_allowed node_key is_far_below lexeme_of is_strict_outside lexeme_in_column lexeme_by read
    lex_turn tailed end_mark_up_to digits encode chars
returns-clause-both_halves c = refl

pub returns-clause-own_alias : goal.returns-clause-own_alias
unfolding is_z is_break is_breakz is_blank is_blank_or_breakz is_digit is_hex hex_value is_word_char is_alpha is_flow
    is_bom is_printable is_yaml_non_break is_yaml_non_space is_anchor_char is_uri_sign is_uri_char is_tag_char is_gap
    begins_behind tab_behind step past steps past_prefix_mark past_break turns pieces letter_value digit_count is_high
    is_low quoted_char event_line behind_comment skipped_comment comment tail_behind on_content on_blank on_break
    plain_turn behind_plain plain_scalar is_closing digits_or second_half_or numbered_or escape_or is_strictly_left
    is_loosely_left over_blank over_break quoted_content quoted_turn may_trail behind_quoted quoted_tail quoted_scalar
    escaped_byte bytes_behind trailing_bytes uri_turn tag_ends tag_at name_at version_number minor_number handle_by
    handle_at prefix_at parameter_behind directive_of directive_at directive_tail directive_up_to directive header_sign
    block_header leading_turn content_column over_spaces empty_turn line_up_to block_turn is_white behind_block
    content_lines block_lines block_body block_scalar in_sequence behind_indicator goes_on_with close_turn refuse_column
    entered_columns wide_line opener closes refuse_tab_at past_gap over_break_if goes_on_behind noted_gap ready_gap
    gap_ends node_event is_tabbed_dash behind_dash dash_up_to dash question_up_to question_by question keyed_colon
    bare_colon colon_tail colon flag_line byte_line lexeme_line sort_of sort_at end_node end_properties begin_block
    take_dash feed is_stale is_allowed node_key is_far_below lexeme_of is_strict_outside lexeme_in_column lexeme_by read
    lex_turn tailed end_mark_up_to digits encode chars
returns-clause-own_alias c = refl

pub returns-clause-handle : goal.returns-clause-handle
unfolding is_z is_break is_breakz is_blank is_blank_or_breakz is_digit is_hex hex_value is_word_char is_alpha is_flow
    is_bom is_printable is_yaml_non_break is_yaml_non_space is_anchor_char is_uri_sign is_uri_char is_tag_char is_gap
    begins_behind tab_behind step past steps past_prefix_mark past_break turns pieces letter_value digit_count is_high
    is_low quoted_char event_line behind_comment skipped_comment comment tail_behind on_content on_blank on_break
    plain_turn behind_plain plain_scalar is_closing digits_or second_half_or numbered_or escape_or is_strictly_left
    is_loosely_left over_blank over_break quoted_content quoted_turn may_trail behind_quoted quoted_tail quoted_scalar
    escaped_byte bytes_behind trailing_bytes uri_turn tag_ends tag_at name_at version_number minor_number handle_by
    handle_at prefix_at parameter_behind directive_of directive_at directive_tail directive_up_to directive header_sign
    block_header leading_turn content_column over_spaces empty_turn line_up_to block_turn is_white behind_block
    content_lines block_lines block_body block_scalar in_sequence behind_indicator goes_on_with close_turn refuse_column
    entered_columns wide_line opener closes refuse_tab_at past_gap over_break_if goes_on_behind noted_gap ready_gap
    gap_ends node_event is_tabbed_dash behind_dash dash_up_to dash question_up_to question_by question keyed_colon
    bare_colon colon_tail colon flag_line byte_line lexeme_line sort_of sort_at end_node end_properties begin_block
    take_dash feed is_stale is_allowed node_key is_far_below lexeme_of is_strict_outside lexeme_in_column lexeme_by read
    lex_turn tailed end_mark_up_to digits encode chars
returns-clause-handle c = refl

pub returns-clause-empty_documents : goal.returns-clause-empty_documents
unfolding is_z is_break is_breakz is_blank is_blank_or_breakz is_digit is_hex hex_value is_word_char is_alpha is_flow
    is_bom is_printable is_yaml_non_break is_yaml_non_space is_anchor_char is_uri_sign is_uri_char is_tag_char is_gap
    begins_behind tab_behind step past steps past_prefix_mark past_break turns pieces letter_value digit_count is_high
    is_low quoted_char event_line behind_comment skipped_comment comment tail_behind on_content on_blank on_break
    plain_turn behind_plain plain_scalar is_closing digits_or second_half_or numbered_or escape_or is_strictly_left
    is_loosely_left over_blank over_break quoted_content quoted_turn may_trail behind_quoted quoted_tail quoted_scalar
    escaped_byte bytes_behind trailing_bytes uri_turn tag_ends tag_at name_at version_number minor_number handle_by
    handle_at prefix_at parameter_behind directive_of directive_at directive_tail directive_up_to directive header_sign
    block_header leading_turn content_column over_spaces empty_turn line_up_to block_turn is_white behind_block
    content_lines block_lines block_body block_scalar in_sequence behind_indicator goes_on_with close_turn refuse_column
    entered_columns wide_line opener closes refuse_tab_at past_gap over_break_if goes_on_behind noted_gap ready_gap
    gap_ends node_event is_tabbed_dash behind_dash dash_up_to dash question_up_to question_by question keyed_colon
    bare_colon colon_tail colon flag_line byte_line lexeme_line sort_of sort_at end_node end_properties begin_block
    take_dash feed is_stale is_allowed node_key is_far_below lexeme_of is_strict_outside lexeme_in_column lexeme_by read
    lex_turn tailed end_mark_up_to digits encode chars
returns-clause-empty_documents c = refl

pub returns-clause-entry_below_key : goal.returns-clause-entry_below_key
unfolding is_z is_break is_breakz is_blank is_blank_or_breakz is_digit is_hex hex_value is_word_char is_alpha is_flow
    is_bom is_printable is_yaml_non_break is_yaml_non_space is_anchor_char is_uri_sign is_uri_char is_tag_char is_gap
    begins_behind tab_behind step past steps past_prefix_mark past_break turns pieces letter_value digit_count is_high
    is_low quoted_char event_line behind_comment skipped_comment comment tail_behind on_content on_blank on_break
    plain_turn behind_plain plain_scalar is_closing digits_or second_half_or numbered_or escape_or is_strictly_left
    is_loosely_left over_blank over_break quoted_content quoted_turn may_trail behind_quoted quoted_tail quoted_scalar
    escaped_byte bytes_behind trailing_bytes uri_turn tag_ends tag_at name_at version_number minor_number handle_by
    handle_at prefix_at parameter_behind directive_of directive_at directive_tail directive_up_to directive header_sign
    block_header leading_turn content_column over_spaces empty_turn line_up_to block_turn is_white behind_block
    content_lines block_lines block_body block_scalar in_sequence behind_indicator goes_on_with close_turn refuse_column
    entered_columns wide_line opener closes refuse_tab_at past_gap over_break_if goes_on_behind noted_gap ready_gap
    gap_ends node_event is_tabbed_dash behind_dash dash_up_to dash question_up_to question_by question keyed_colon
    bare_colon colon_tail colon flag_line byte_line lexeme_line sort_of sort_at end_node end_properties begin_block
    take_dash feed is_stale is_allowed node_key is_far_below lexeme_of is_strict_outside lexeme_in_column lexeme_by read
    lex_turn tailed end_mark_up_to digits encode chars
returns-clause-entry_below_key c = refl

pub returns-clause-mapping_in_mapping : goal.returns-clause-mapping_in_mapping
unfolding is_z is_break is_breakz is_blank is_blank_or_breakz is_digit is_hex hex_value is_word_char is_alpha is_flow
    is_bom is_printable is_yaml_non_break is_yaml_non_space is_anchor_char is_uri_sign is_uri_char is_tag_char is_gap
    begins_behind tab_behind step past steps past_prefix_mark past_break turns pieces letter_value digit_count is_high
    is_low quoted_char event_line behind_comment skipped_comment comment tail_behind on_content on_blank on_break
    plain_turn behind_plain plain_scalar is_closing digits_or second_half_or numbered_or escape_or is_strictly_left
    is_loosely_left over_blank over_break quoted_content quoted_turn may_trail behind_quoted quoted_tail quoted_scalar
    escaped_byte bytes_behind trailing_bytes uri_turn tag_ends tag_at name_at version_number minor_number handle_by
    handle_at prefix_at parameter_behind directive_of directive_at directive_tail directive_up_to directive header_sign
    block_header leading_turn content_column over_spaces empty_turn line_up_to block_turn is_white behind_block
    content_lines block_lines block_body block_scalar in_sequence behind_indicator goes_on_with close_turn refuse_column
    entered_columns wide_line opener closes refuse_tab_at past_gap over_break_if goes_on_behind noted_gap ready_gap
    gap_ends node_event is_tabbed_dash behind_dash dash_up_to dash question_up_to question_by question keyed_colon
    bare_colon colon_tail colon flag_line byte_line lexeme_line sort_of sort_at end_node end_properties begin_block
    take_dash feed is_stale is_allowed node_key is_far_below lexeme_of is_strict_outside lexeme_in_column lexeme_by read
    lex_turn tailed end_mark_up_to digits encode chars
returns-clause-mapping_in_mapping c = refl

pub returns-clause-comment_behind_pair : goal.returns-clause-comment_behind_pair
unfolding is_z is_break is_breakz is_blank is_blank_or_breakz is_digit is_hex hex_value is_word_char is_alpha is_flow
    is_bom is_printable is_yaml_non_break is_yaml_non_space is_anchor_char is_uri_sign is_uri_char is_tag_char is_gap
    begins_behind tab_behind step past steps past_prefix_mark past_break turns pieces letter_value digit_count is_high
    is_low quoted_char event_line behind_comment skipped_comment comment tail_behind on_content on_blank on_break
    plain_turn behind_plain plain_scalar is_closing digits_or second_half_or numbered_or escape_or is_strictly_left
    is_loosely_left over_blank over_break quoted_content quoted_turn may_trail behind_quoted quoted_tail quoted_scalar
    escaped_byte bytes_behind trailing_bytes uri_turn tag_ends tag_at name_at version_number minor_number handle_by
    handle_at prefix_at parameter_behind directive_of directive_at directive_tail directive_up_to directive header_sign
    block_header leading_turn content_column over_spaces empty_turn line_up_to block_turn is_white behind_block
    content_lines block_lines block_body block_scalar in_sequence behind_indicator goes_on_with close_turn refuse_column
    entered_columns wide_line opener closes refuse_tab_at past_gap over_break_if goes_on_behind noted_gap ready_gap
    gap_ends node_event is_tabbed_dash behind_dash dash_up_to dash question_up_to question_by question keyed_colon
    bare_colon colon_tail colon flag_line byte_line lexeme_line sort_of sort_at end_node end_properties begin_block
    take_dash feed is_stale is_allowed node_key is_far_below lexeme_of is_strict_outside lexeme_in_column lexeme_by read
    lex_turn tailed end_mark_up_to digits encode chars
returns-clause-comment_behind_pair c = refl

pub returns-clause-comment_alone : goal.returns-clause-comment_alone
unfolding is_z is_break is_breakz is_blank is_blank_or_breakz is_digit is_hex hex_value is_word_char is_alpha is_flow
    is_bom is_printable is_yaml_non_break is_yaml_non_space is_anchor_char is_uri_sign is_uri_char is_tag_char is_gap
    begins_behind tab_behind step past steps past_prefix_mark past_break turns pieces letter_value digit_count is_high
    is_low quoted_char event_line behind_comment skipped_comment comment tail_behind on_content on_blank on_break
    plain_turn behind_plain plain_scalar is_closing digits_or second_half_or numbered_or escape_or is_strictly_left
    is_loosely_left over_blank over_break quoted_content quoted_turn may_trail behind_quoted quoted_tail quoted_scalar
    escaped_byte bytes_behind trailing_bytes uri_turn tag_ends tag_at name_at version_number minor_number handle_by
    handle_at prefix_at parameter_behind directive_of directive_at directive_tail directive_up_to directive header_sign
    block_header leading_turn content_column over_spaces empty_turn line_up_to block_turn is_white behind_block
    content_lines block_lines block_body block_scalar in_sequence behind_indicator goes_on_with close_turn refuse_column
    entered_columns wide_line opener closes refuse_tab_at past_gap over_break_if goes_on_behind noted_gap ready_gap
    gap_ends node_event is_tabbed_dash behind_dash dash_up_to dash question_up_to question_by question keyed_colon
    bare_colon colon_tail colon flag_line byte_line lexeme_line sort_of sort_at end_node end_properties begin_block
    take_dash feed is_stale is_allowed node_key is_far_below lexeme_of is_strict_outside lexeme_in_column lexeme_by read
    lex_turn tailed end_mark_up_to digits encode chars
returns-clause-comment_alone c = refl

pub returns-clause-two_comments : goal.returns-clause-two_comments
unfolding is_z is_break is_breakz is_blank is_blank_or_breakz is_digit is_hex hex_value is_word_char is_alpha is_flow
    is_bom is_printable is_yaml_non_break is_yaml_non_space is_anchor_char is_uri_sign is_uri_char is_tag_char is_gap
    begins_behind tab_behind step past steps past_prefix_mark past_break turns pieces letter_value digit_count is_high
    is_low quoted_char event_line behind_comment skipped_comment comment tail_behind on_content on_blank on_break
    plain_turn behind_plain plain_scalar is_closing digits_or second_half_or numbered_or escape_or is_strictly_left
    is_loosely_left over_blank over_break quoted_content quoted_turn may_trail behind_quoted quoted_tail quoted_scalar
    escaped_byte bytes_behind trailing_bytes uri_turn tag_ends tag_at name_at version_number minor_number handle_by
    handle_at prefix_at parameter_behind directive_of directive_at directive_tail directive_up_to directive header_sign
    block_header leading_turn content_column over_spaces empty_turn line_up_to block_turn is_white behind_block
    content_lines block_lines block_body block_scalar in_sequence behind_indicator goes_on_with close_turn refuse_column
    entered_columns wide_line opener closes refuse_tab_at past_gap over_break_if goes_on_behind noted_gap ready_gap
    gap_ends node_event is_tabbed_dash behind_dash dash_up_to dash question_up_to question_by question keyed_colon
    bare_colon colon_tail colon flag_line byte_line lexeme_line sort_of sort_at end_node end_properties begin_block
    take_dash feed is_stale is_allowed node_key is_far_below lexeme_of is_strict_outside lexeme_in_column lexeme_by read
    lex_turn tailed end_mark_up_to digits encode chars
returns-clause-two_comments c = refl

pub returns-clause-both_held : goal.returns-clause-both_held
unfolding is_z is_break is_breakz is_blank is_blank_or_breakz is_digit is_hex hex_value is_word_char is_alpha is_flow
    is_bom is_printable is_yaml_non_break is_yaml_non_space is_anchor_char is_uri_sign is_uri_char is_tag_char is_gap
    begins_behind tab_behind step past steps past_prefix_mark past_break turns pieces letter_value digit_count is_high
    is_low quoted_char event_line behind_comment skipped_comment comment tail_behind on_content on_blank on_break
    plain_turn behind_plain plain_scalar is_closing digits_or second_half_or numbered_or escape_or is_strictly_left
    is_loosely_left over_blank over_break quoted_content quoted_turn may_trail behind_quoted quoted_tail quoted_scalar
    escaped_byte bytes_behind trailing_bytes uri_turn tag_ends tag_at name_at version_number minor_number handle_by
    handle_at prefix_at parameter_behind directive_of directive_at directive_tail directive_up_to directive header_sign
    block_header leading_turn content_column over_spaces empty_turn line_up_to block_turn is_white behind_block
    content_lines block_lines block_body block_scalar in_sequence behind_indicator goes_on_with close_turn refuse_column
    entered_columns wide_line opener closes refuse_tab_at past_gap over_break_if goes_on_behind noted_gap ready_gap
    gap_ends node_event is_tabbed_dash behind_dash dash_up_to dash question_up_to question_by question keyed_colon
    bare_colon colon_tail colon flag_line byte_line lexeme_line sort_of sort_at end_node end_properties begin_block
    take_dash feed is_stale is_allowed node_key is_far_below lexeme_of is_strict_outside lexeme_in_column lexeme_by read
    lex_turn tailed end_mark_up_to digits encode chars
returns-clause-both_held c = refl

pub returns-clause-escape_in_flow : goal.returns-clause-escape_in_flow
unfolding is_z is_break is_breakz is_blank is_blank_or_breakz is_digit is_hex hex_value is_word_char is_alpha is_flow
    is_bom is_printable is_yaml_non_break is_yaml_non_space is_anchor_char is_uri_sign is_uri_char is_tag_char is_gap
    begins_behind tab_behind step past steps past_prefix_mark past_break turns pieces letter_value digit_count is_high
    is_low quoted_char event_line behind_comment skipped_comment comment tail_behind on_content on_blank on_break
    plain_turn behind_plain plain_scalar is_closing digits_or second_half_or numbered_or escape_or is_strictly_left
    is_loosely_left over_blank over_break quoted_content quoted_turn may_trail behind_quoted quoted_tail quoted_scalar
    escaped_byte bytes_behind trailing_bytes uri_turn tag_ends tag_at name_at version_number minor_number handle_by
    handle_at prefix_at parameter_behind directive_of directive_at directive_tail directive_up_to directive header_sign
    block_header leading_turn content_column over_spaces empty_turn line_up_to block_turn is_white behind_block
    content_lines block_lines block_body block_scalar in_sequence behind_indicator goes_on_with close_turn refuse_column
    entered_columns wide_line opener closes refuse_tab_at past_gap over_break_if goes_on_behind noted_gap ready_gap
    gap_ends node_event is_tabbed_dash behind_dash dash_up_to dash question_up_to question_by question keyed_colon
    bare_colon colon_tail colon flag_line byte_line lexeme_line sort_of sort_at end_node end_properties begin_block
    take_dash feed is_stale is_allowed node_key is_far_below lexeme_of is_strict_outside lexeme_in_column lexeme_by read
    lex_turn tailed end_mark_up_to digits encode chars
returns-clause-escape_in_flow c = refl

pub returns-clause-single_lines : goal.returns-clause-single_lines
unfolding is_z is_break is_breakz is_blank is_blank_or_breakz is_digit is_hex hex_value is_word_char is_alpha is_flow
    is_bom is_printable is_yaml_non_break is_yaml_non_space is_anchor_char is_uri_sign is_uri_char is_tag_char is_gap
    begins_behind tab_behind step past steps past_prefix_mark past_break turns pieces letter_value digit_count is_high
    is_low quoted_char event_line behind_comment skipped_comment comment tail_behind on_content on_blank on_break
    plain_turn behind_plain plain_scalar is_closing digits_or second_half_or numbered_or escape_or is_strictly_left
    is_loosely_left over_blank over_break quoted_content quoted_turn may_trail behind_quoted quoted_tail quoted_scalar
    escaped_byte bytes_behind trailing_bytes uri_turn tag_ends tag_at name_at version_number minor_number handle_by
    handle_at prefix_at parameter_behind directive_of directive_at directive_tail directive_up_to directive header_sign
    block_header leading_turn content_column over_spaces empty_turn line_up_to block_turn is_white behind_block
    content_lines block_lines block_body block_scalar in_sequence behind_indicator goes_on_with close_turn refuse_column
    entered_columns wide_line opener closes refuse_tab_at past_gap over_break_if goes_on_behind noted_gap ready_gap
    gap_ends node_event is_tabbed_dash behind_dash dash_up_to dash question_up_to question_by question keyed_colon
    bare_colon colon_tail colon flag_line byte_line lexeme_line sort_of sort_at end_node end_properties begin_block
    take_dash feed is_stale is_allowed node_key is_far_below lexeme_of is_strict_outside lexeme_in_column lexeme_by read
    lex_turn tailed end_mark_up_to digits encode chars
returns-clause-single_lines c = refl

pub returns-clause-prefix_mark : goal.returns-clause-prefix_mark
unfolding is_z is_break is_breakz is_blank is_blank_or_breakz is_digit is_hex hex_value is_word_char is_alpha is_flow
    is_bom is_printable is_yaml_non_break is_yaml_non_space is_anchor_char is_uri_sign is_uri_char is_tag_char is_gap
    begins_behind tab_behind step past steps past_prefix_mark past_break turns pieces letter_value digit_count is_high
    is_low quoted_char event_line behind_comment skipped_comment comment tail_behind on_content on_blank on_break
    plain_turn behind_plain plain_scalar is_closing digits_or second_half_or numbered_or escape_or is_strictly_left
    is_loosely_left over_blank over_break quoted_content quoted_turn may_trail behind_quoted quoted_tail quoted_scalar
    escaped_byte bytes_behind trailing_bytes uri_turn tag_ends tag_at name_at version_number minor_number handle_by
    handle_at prefix_at parameter_behind directive_of directive_at directive_tail directive_up_to directive header_sign
    block_header leading_turn content_column over_spaces empty_turn line_up_to block_turn is_white behind_block
    content_lines block_lines block_body block_scalar in_sequence behind_indicator goes_on_with close_turn refuse_column
    entered_columns wide_line opener closes refuse_tab_at past_gap over_break_if goes_on_behind noted_gap ready_gap
    gap_ends node_event is_tabbed_dash behind_dash dash_up_to dash question_up_to question_by question keyed_colon
    bare_colon colon_tail colon flag_line byte_line lexeme_line sort_of sort_at end_node end_properties begin_block
    take_dash feed is_stale is_allowed node_key is_far_below lexeme_of is_strict_outside lexeme_in_column lexeme_by read
    lex_turn tailed end_mark_up_to digits encode chars
returns-clause-prefix_mark c = refl

pub returns-clause-closer_allowed : goal.returns-clause-closer_allowed
unfolding is_z is_break is_breakz is_blank is_blank_or_breakz is_digit is_hex hex_value is_word_char is_alpha is_flow
    is_bom is_printable is_yaml_non_break is_yaml_non_space is_anchor_char is_uri_sign is_uri_char is_tag_char is_gap
    begins_behind tab_behind step past steps past_prefix_mark past_break turns pieces letter_value digit_count is_high
    is_low quoted_char event_line behind_comment skipped_comment comment tail_behind on_content on_blank on_break
    plain_turn behind_plain plain_scalar is_closing digits_or second_half_or numbered_or escape_or is_strictly_left
    is_loosely_left over_blank over_break quoted_content quoted_turn may_trail behind_quoted quoted_tail quoted_scalar
    escaped_byte bytes_behind trailing_bytes uri_turn tag_ends tag_at name_at version_number minor_number handle_by
    handle_at prefix_at parameter_behind directive_of directive_at directive_tail directive_up_to directive header_sign
    block_header leading_turn content_column over_spaces empty_turn line_up_to block_turn is_white behind_block
    content_lines block_lines block_body block_scalar in_sequence behind_indicator goes_on_with close_turn refuse_column
    entered_columns wide_line opener closes refuse_tab_at past_gap over_break_if goes_on_behind noted_gap ready_gap
    gap_ends node_event is_tabbed_dash behind_dash dash_up_to dash question_up_to question_by question keyed_colon
    bare_colon colon_tail colon flag_line byte_line lexeme_line sort_of sort_at end_node end_properties begin_block
    take_dash feed is_stale is_allowed node_key is_far_below lexeme_of is_strict_outside lexeme_in_column lexeme_by read
    lex_turn tailed end_mark_up_to digits encode chars
returns-clause-closer_allowed c = refl

pub returns-clause-same_keys : goal.returns-clause-same_keys
unfolding is_z is_break is_breakz is_blank is_blank_or_breakz is_digit is_hex hex_value is_word_char is_alpha is_flow
    is_bom is_printable is_yaml_non_break is_yaml_non_space is_anchor_char is_uri_sign is_uri_char is_tag_char is_gap
    begins_behind tab_behind step past steps past_prefix_mark past_break turns pieces letter_value digit_count is_high
    is_low quoted_char event_line behind_comment skipped_comment comment tail_behind on_content on_blank on_break
    plain_turn behind_plain plain_scalar is_closing digits_or second_half_or numbered_or escape_or is_strictly_left
    is_loosely_left over_blank over_break quoted_content quoted_turn may_trail behind_quoted quoted_tail quoted_scalar
    escaped_byte bytes_behind trailing_bytes uri_turn tag_ends tag_at name_at version_number minor_number handle_by
    handle_at prefix_at parameter_behind directive_of directive_at directive_tail directive_up_to directive header_sign
    block_header leading_turn content_column over_spaces empty_turn line_up_to block_turn is_white behind_block
    content_lines block_lines block_body block_scalar in_sequence behind_indicator goes_on_with close_turn refuse_column
    entered_columns wide_line opener closes refuse_tab_at past_gap over_break_if goes_on_behind noted_gap ready_gap
    gap_ends node_event is_tabbed_dash behind_dash dash_up_to dash question_up_to question_by question keyed_colon
    bare_colon colon_tail colon flag_line byte_line lexeme_line sort_of sort_at end_node end_properties begin_block
    take_dash feed is_stale is_allowed node_key is_far_below lexeme_of is_strict_outside lexeme_in_column lexeme_by read
    lex_turn tailed end_mark_up_to digits encode chars
returns-clause-same_keys c = refl

pub returns-clause-services : goal.returns-clause-services
unfolding is_z is_break is_breakz is_blank is_blank_or_breakz is_digit is_hex hex_value is_word_char is_alpha is_flow
    is_bom is_printable is_yaml_non_break is_yaml_non_space is_anchor_char is_uri_sign is_uri_char is_tag_char is_gap
    begins_behind tab_behind step past steps past_prefix_mark past_break turns pieces letter_value digit_count is_high
    is_low quoted_char event_line behind_comment skipped_comment comment tail_behind on_content on_blank on_break
    plain_turn behind_plain plain_scalar is_closing digits_or second_half_or numbered_or escape_or is_strictly_left
    is_loosely_left over_blank over_break quoted_content quoted_turn may_trail behind_quoted quoted_tail quoted_scalar
    escaped_byte bytes_behind trailing_bytes uri_turn tag_ends tag_at name_at version_number minor_number handle_by
    handle_at prefix_at parameter_behind directive_of directive_at directive_tail directive_up_to directive header_sign
    block_header leading_turn content_column over_spaces empty_turn line_up_to block_turn is_white behind_block
    content_lines block_lines block_body block_scalar in_sequence behind_indicator goes_on_with close_turn refuse_column
    entered_columns wide_line opener closes refuse_tab_at past_gap over_break_if goes_on_behind noted_gap ready_gap
    gap_ends node_event is_tabbed_dash behind_dash dash_up_to dash question_up_to question_by question keyed_colon
    bare_colon colon_tail colon flag_line byte_line lexeme_line sort_of sort_at end_node end_properties begin_block
    take_dash feed is_stale is_allowed node_key is_far_below lexeme_of is_strict_outside lexeme_in_column lexeme_by read
    lex_turn tailed end_mark_up_to digits encode chars
returns-clause-services c = refl

pub returns-clause-marked_sequence : goal.returns-clause-marked_sequence
unfolding is_z is_break is_breakz is_blank is_blank_or_breakz is_digit is_hex hex_value is_word_char is_alpha is_flow
    is_bom is_printable is_yaml_non_break is_yaml_non_space is_anchor_char is_uri_sign is_uri_char is_tag_char is_gap
    begins_behind tab_behind step past steps past_prefix_mark past_break turns pieces letter_value digit_count is_high
    is_low quoted_char event_line behind_comment skipped_comment comment tail_behind on_content on_blank on_break
    plain_turn behind_plain plain_scalar is_closing digits_or second_half_or numbered_or escape_or is_strictly_left
    is_loosely_left over_blank over_break quoted_content quoted_turn may_trail behind_quoted quoted_tail quoted_scalar
    escaped_byte bytes_behind trailing_bytes uri_turn tag_ends tag_at name_at version_number minor_number handle_by
    handle_at prefix_at parameter_behind directive_of directive_at directive_tail directive_up_to directive header_sign
    block_header leading_turn content_column over_spaces empty_turn line_up_to block_turn is_white behind_block
    content_lines block_lines block_body block_scalar in_sequence behind_indicator goes_on_with close_turn refuse_column
    entered_columns wide_line opener closes refuse_tab_at past_gap over_break_if goes_on_behind noted_gap ready_gap
    gap_ends node_event is_tabbed_dash behind_dash dash_up_to dash question_up_to question_by question keyed_colon
    bare_colon colon_tail colon flag_line byte_line lexeme_line sort_of sort_at end_node end_properties begin_block
    take_dash feed is_stale is_allowed node_key is_far_below lexeme_of is_strict_outside lexeme_in_column lexeme_by read
    lex_turn tailed end_mark_up_to digits encode chars
returns-clause-marked_sequence c = refl

pub returns-clause-marked_alias : goal.returns-clause-marked_alias
unfolding is_z is_break is_breakz is_blank is_blank_or_breakz is_digit is_hex hex_value is_word_char is_alpha is_flow
    is_bom is_printable is_yaml_non_break is_yaml_non_space is_anchor_char is_uri_sign is_uri_char is_tag_char is_gap
    begins_behind tab_behind step past steps past_prefix_mark past_break turns pieces letter_value digit_count is_high
    is_low quoted_char event_line behind_comment skipped_comment comment tail_behind on_content on_blank on_break
    plain_turn behind_plain plain_scalar is_closing digits_or second_half_or numbered_or escape_or is_strictly_left
    is_loosely_left over_blank over_break quoted_content quoted_turn may_trail behind_quoted quoted_tail quoted_scalar
    escaped_byte bytes_behind trailing_bytes uri_turn tag_ends tag_at name_at version_number minor_number handle_by
    handle_at prefix_at parameter_behind directive_of directive_at directive_tail directive_up_to directive header_sign
    block_header leading_turn content_column over_spaces empty_turn line_up_to block_turn is_white behind_block
    content_lines block_lines block_body block_scalar in_sequence behind_indicator goes_on_with close_turn refuse_column
    entered_columns wide_line opener closes refuse_tab_at past_gap over_break_if goes_on_behind noted_gap ready_gap
    gap_ends node_event is_tabbed_dash behind_dash dash_up_to dash question_up_to question_by question keyed_colon
    bare_colon colon_tail colon flag_line byte_line lexeme_line sort_of sort_at end_node end_properties begin_block
    take_dash feed is_stale is_allowed node_key is_far_below lexeme_of is_strict_outside lexeme_in_column lexeme_by read
    lex_turn tailed end_mark_up_to digits encode chars
returns-clause-marked_alias c = refl

pub returns-clause-returns_and_feeds : goal.returns-clause-returns_and_feeds
unfolding is_z is_break is_breakz is_blank is_blank_or_breakz is_digit is_hex hex_value is_word_char is_alpha is_flow
    is_bom is_printable is_yaml_non_break is_yaml_non_space is_anchor_char is_uri_sign is_uri_char is_tag_char is_gap
    begins_behind tab_behind step past steps past_prefix_mark past_break turns pieces letter_value digit_count is_high
    is_low quoted_char event_line behind_comment skipped_comment comment tail_behind on_content on_blank on_break
    plain_turn behind_plain plain_scalar is_closing digits_or second_half_or numbered_or escape_or is_strictly_left
    is_loosely_left over_blank over_break quoted_content quoted_turn may_trail behind_quoted quoted_tail quoted_scalar
    escaped_byte bytes_behind trailing_bytes uri_turn tag_ends tag_at name_at version_number minor_number handle_by
    handle_at prefix_at parameter_behind directive_of directive_at directive_tail directive_up_to directive header_sign
    block_header leading_turn content_column over_spaces empty_turn line_up_to block_turn is_white behind_block
    content_lines block_lines block_body block_scalar in_sequence behind_indicator goes_on_with close_turn refuse_column
    entered_columns wide_line opener closes refuse_tab_at past_gap over_break_if goes_on_behind noted_gap ready_gap
    gap_ends node_event is_tabbed_dash behind_dash dash_up_to dash question_up_to question_by question keyed_colon
    bare_colon colon_tail colon flag_line byte_line lexeme_line sort_of sort_at end_node end_properties begin_block
    take_dash feed is_stale is_allowed node_key is_far_below lexeme_of is_strict_outside lexeme_in_column lexeme_by read
    lex_turn tailed end_mark_up_to digits encode chars
returns-clause-returns_and_feeds c = refl
