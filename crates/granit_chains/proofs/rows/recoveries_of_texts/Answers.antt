-- Each row is a computation.
use Rattle.std.proofs.Common.{refl}
use Rattle.std.specs.Prelude.{codes, false, true}
use Rattle.granit_chains.specs.ChainRows.{stops_of}
use Rattle.granit_chains.specs.Chains.{chain_ends, chain_goes, nothing_given}
use Rattle.granit_error.specs.OptionsData.{default_options}
use Rattle.granit_restart.specs.Calls.{calls_start, next_call}
use Rattle.granit_alone.specs.Behind.{looked_at}
use lib.Utf8.{encode}
use Rattle.std.specs.Fmt.{digits}
use Rattle.std.specs.Str.{chars}
use Rattle.granit_base.specs.Classes.{is_z, is_break, is_breakz, is_blank, is_blank_or_breakz, is_digit, is_hex}
use Rattle.granit_base.specs.Classes.{hex_value, is_word_char, is_alpha, is_flow, is_bom, is_printable}
use Rattle.granit_base.specs.Classes.{is_yaml_non_break, is_yaml_non_space, is_anchor_char, is_uri_sign, is_uri_char}
use Rattle.granit_base.specs.Classes.{is_tag_char, is_gap}
use Rattle.granit_lexemes.specs.Here.{begins_behind, tab_behind, step, past}
use Rattle.granit_lexemes.specs.Moves.{steps, past_prefix_mark}
use Rattle.granit_lexemes.specs.Basics.{past_break}
use Rattle.granit_lexemes.specs.Pieces.{turns, pieces}
use Rattle.granit_lexemes.specs.Decoding.{letter_value, digit_count, is_high, is_low}
use Rattle.granit_lexemes.specs.Line.{quoted_char, event_line}
use Rattle.granit_lexemes.specs.Comment.{behind_comment, skipped_comment, comment}
use Rattle.granit_lexemes.specs.Tail.{tail_behind}
use Rattle.granit_lexemes.specs.PlainScalar.{on_content, on_blank, on_break, plain_turn, behind_plain, plain_scalar}
use Rattle.granit_lexemes.specs.QuotedScalar.{is_closing, digits_or, second_half_or, numbered_or, escape_or}
use Rattle.granit_lexemes.specs.QuotedScalar.{is_strictly_left, is_loosely_left, over_blank, over_break}
use Rattle.granit_lexemes.specs.QuotedScalar.{quoted_content, quoted_turn, may_trail, behind_quoted, quoted_tail}
use Rattle.granit_lexemes.specs.QuotedScalar.{quoted_scalar}
use Rattle.granit_lexemes.specs.Tags.{escaped_byte, bytes_behind, trailing_bytes, uri_turn, tag_ends, tag_at, name_at}
use Rattle.granit_lexemes.specs.Directive.{version_number, minor_number, handle_by, handle_at, prefix_at}
use Rattle.granit_lexemes.specs.Directive.{parameter_behind, directive_of, directive_at, directive_tail}
use Rattle.granit_lexemes.specs.Directive.{directive_up_to, directive}
use Rattle.granit_lexemes.specs.BlockHeader.{header_sign, block_header, leading_turn, content_column}
use Rattle.granit_lexemes.specs.BlockScalar.{over_spaces, empty_turn, line_up_to, block_turn, is_white, behind_block}
use Rattle.granit_lexemes.specs.BlockScalar.{content_lines, block_lines, block_body, block_scalar}
use Rattle.granit_machine.specs.BlockSteps.{in_sequence, behind_indicator}
use Rattle.granit_machine.specs.Closing.{goes_on_with, close_turn}
use Rattle.granit_machine.specs.Columns.{refuse_column, entered_columns}
use Rattle.granit_machine.specs.Events.{wide_line}
use Rattle.granit_machine.specs.FlowLexemes.{opener, closes}
use Rattle.granit_machine.specs.Gaps.{refuse_tab_at, past_gap, over_break_if, goes_on_behind, noted_gap, ready_gap}
use Rattle.granit_machine.specs.Gaps.{gap_ends}
use Rattle.granit_machine.specs.Giving.{node_event}
use Rattle.granit_machine.specs.IndicatorLexemes.{is_tabbed_dash, behind_dash, dash_up_to, dash, question_up_to}
use Rattle.granit_machine.specs.IndicatorLexemes.{question_by, question, keyed_colon, bare_colon, colon_tail, colon}
use Rattle.granit_machine.specs.Items.{lexeme_line}
use Rattle.granit_machine.specs.LexemeSort.{sort_of, sort_at}
use Rattle.granit_machine.specs.NodeEnds.{end_node, end_properties, begin_block}
use Rattle.granit_machine.specs.NodeSteps.{take_dash}
use Rattle.granit_machine.specs.Parser.{feed}
use Rattle.granit_machine.specs.PossibleKeys.{is_stale, is_allowed, node_key, is_far_below}
use Rattle.granit_machine.specs.Reader.{lexeme_of, is_strict_outside, lexeme_in_column, lexeme_by, read, lex_turn}
use Rattle.granit_machine.specs.ReaderState.{tailed}
use Rattle.granit_machine.specs.StreamLexemes.{end_mark_up_to}
use Rattle.granit_steps.specs.Steps.{step_turn, next_event}
use Rattle.granit_restart.specs.Boundary.{next_boundary}
use Rattle.granit_restart.specs.Following.{document_follows}
use Rattle.granit_restart.specs.Recovery.{recover}
use Rattle.granit_restart.specs.Restart.{behind_fault_at}
use Rattle.granit_chains.proofs.rows.recoveries_of_texts.Goals as goal

pub returns-clause-none : goal.returns-clause-none
unfolding is_z is_break is_breakz is_blank is_blank_or_breakz is_digit is_hex hex_value is_word_char is_alpha is_flow
    is_bom is_printable is_yaml_non_break is_yaml_non_space is_anchor_char is_uri_sign is_uri_char is_tag_char is_gap
    begins_behind tab_behind step past steps past_prefix_mark past_break turns pieces letter_value digit_count is_high
    is_low quoted_char event_line behind_comment skipped_comment comment tail_behind on_content on_blank on_break
    plain_turn behind_plain plain_scalar is_closing digits_or second_half_or numbered_or escape_or is_strictly_left
    is_loosely_left over_blank over_break quoted_content quoted_turn may_trail behind_quoted quoted_tail quoted_scalar
    escaped_byte bytes_behind trailing_bytes uri_turn tag_ends tag_at name_at version_number minor_number handle_by
    handle_at prefix_at parameter_behind directive_of directive_at directive_tail directive_up_to directive header_sign
    block_header leading_turn content_column over_spaces empty_turn line_up_to block_turn is_white behind_block
    content_lines block_lines block_body block_scalar in_sequence behind_indicator goes_on_with close_turn refuse_column
    entered_columns wide_line opener closes refuse_tab_at past_gap over_break_if goes_on_behind noted_gap ready_gap
    gap_ends node_event is_tabbed_dash behind_dash dash_up_to dash question_up_to question_by question keyed_colon
    bare_colon colon_tail colon lexeme_line sort_of sort_at end_node end_properties begin_block take_dash feed is_stale
    is_allowed node_key is_far_below lexeme_of is_strict_outside lexeme_in_column lexeme_by read lex_turn tailed
    end_mark_up_to step_turn next_event digits encode chars next_boundary next_call behind_fault_at
    document_follows recover
returns-clause-none c = refl

pub returns-clause-one : goal.returns-clause-one
unfolding is_z is_break is_breakz is_blank is_blank_or_breakz is_digit is_hex hex_value is_word_char is_alpha is_flow
    is_bom is_printable is_yaml_non_break is_yaml_non_space is_anchor_char is_uri_sign is_uri_char is_tag_char is_gap
    begins_behind tab_behind step past steps past_prefix_mark past_break turns pieces letter_value digit_count is_high
    is_low quoted_char event_line behind_comment skipped_comment comment tail_behind on_content on_blank on_break
    plain_turn behind_plain plain_scalar is_closing digits_or second_half_or numbered_or escape_or is_strictly_left
    is_loosely_left over_blank over_break quoted_content quoted_turn may_trail behind_quoted quoted_tail quoted_scalar
    escaped_byte bytes_behind trailing_bytes uri_turn tag_ends tag_at name_at version_number minor_number handle_by
    handle_at prefix_at parameter_behind directive_of directive_at directive_tail directive_up_to directive header_sign
    block_header leading_turn content_column over_spaces empty_turn line_up_to block_turn is_white behind_block
    content_lines block_lines block_body block_scalar in_sequence behind_indicator goes_on_with close_turn refuse_column
    entered_columns wide_line opener closes refuse_tab_at past_gap over_break_if goes_on_behind noted_gap ready_gap
    gap_ends node_event is_tabbed_dash behind_dash dash_up_to dash question_up_to question_by question keyed_colon
    bare_colon colon_tail colon lexeme_line sort_of sort_at end_node end_properties begin_block take_dash feed is_stale
    is_allowed node_key is_far_below lexeme_of is_strict_outside lexeme_in_column lexeme_by read lex_turn tailed
    end_mark_up_to step_turn next_event digits encode chars next_boundary next_call behind_fault_at
    document_follows recover
returns-clause-one c = refl

pub returns-clause-two : goal.returns-clause-two
unfolding is_z is_break is_breakz is_blank is_blank_or_breakz is_digit is_hex hex_value is_word_char is_alpha is_flow
    is_bom is_printable is_yaml_non_break is_yaml_non_space is_anchor_char is_uri_sign is_uri_char is_tag_char is_gap
    begins_behind tab_behind step past steps past_prefix_mark past_break turns pieces letter_value digit_count is_high
    is_low quoted_char event_line behind_comment skipped_comment comment tail_behind on_content on_blank on_break
    plain_turn behind_plain plain_scalar is_closing digits_or second_half_or numbered_or escape_or is_strictly_left
    is_loosely_left over_blank over_break quoted_content quoted_turn may_trail behind_quoted quoted_tail quoted_scalar
    escaped_byte bytes_behind trailing_bytes uri_turn tag_ends tag_at name_at version_number minor_number handle_by
    handle_at prefix_at parameter_behind directive_of directive_at directive_tail directive_up_to directive header_sign
    block_header leading_turn content_column over_spaces empty_turn line_up_to block_turn is_white behind_block
    content_lines block_lines block_body block_scalar in_sequence behind_indicator goes_on_with close_turn refuse_column
    entered_columns wide_line opener closes refuse_tab_at past_gap over_break_if goes_on_behind noted_gap ready_gap
    gap_ends node_event is_tabbed_dash behind_dash dash_up_to dash question_up_to question_by question keyed_colon
    bare_colon colon_tail colon lexeme_line sort_of sort_at end_node end_properties begin_block take_dash feed is_stale
    is_allowed node_key is_far_below lexeme_of is_strict_outside lexeme_in_column lexeme_by read lex_turn tailed
    end_mark_up_to step_turn next_event digits encode chars next_boundary next_call behind_fault_at
    document_follows recover
returns-clause-two c = refl

pub returns-clause-marks : goal.returns-clause-marks
unfolding is_z is_break is_breakz is_blank is_blank_or_breakz is_digit is_hex hex_value is_word_char is_alpha is_flow
    is_bom is_printable is_yaml_non_break is_yaml_non_space is_anchor_char is_uri_sign is_uri_char is_tag_char is_gap
    begins_behind tab_behind step past steps past_prefix_mark past_break turns pieces letter_value digit_count is_high
    is_low quoted_char event_line behind_comment skipped_comment comment tail_behind on_content on_blank on_break
    plain_turn behind_plain plain_scalar is_closing digits_or second_half_or numbered_or escape_or is_strictly_left
    is_loosely_left over_blank over_break quoted_content quoted_turn may_trail behind_quoted quoted_tail quoted_scalar
    escaped_byte bytes_behind trailing_bytes uri_turn tag_ends tag_at name_at version_number minor_number handle_by
    handle_at prefix_at parameter_behind directive_of directive_at directive_tail directive_up_to directive header_sign
    block_header leading_turn content_column over_spaces empty_turn line_up_to block_turn is_white behind_block
    content_lines block_lines block_body block_scalar in_sequence behind_indicator goes_on_with close_turn refuse_column
    entered_columns wide_line opener closes refuse_tab_at past_gap over_break_if goes_on_behind noted_gap ready_gap
    gap_ends node_event is_tabbed_dash behind_dash dash_up_to dash question_up_to question_by question keyed_colon
    bare_colon colon_tail colon lexeme_line sort_of sort_at end_node end_properties begin_block take_dash feed is_stale
    is_allowed node_key is_far_below lexeme_of is_strict_outside lexeme_in_column lexeme_by read lex_turn tailed
    end_mark_up_to step_turn next_event digits encode chars next_boundary next_call behind_fault_at
    document_follows recover
returns-clause-marks c = refl

pub returns-clause-brackets : goal.returns-clause-brackets
unfolding is_z is_break is_breakz is_blank is_blank_or_breakz is_digit is_hex hex_value is_word_char is_alpha is_flow
    is_bom is_printable is_yaml_non_break is_yaml_non_space is_anchor_char is_uri_sign is_uri_char is_tag_char is_gap
    begins_behind tab_behind step past steps past_prefix_mark past_break turns pieces letter_value digit_count is_high
    is_low quoted_char event_line behind_comment skipped_comment comment tail_behind on_content on_blank on_break
    plain_turn behind_plain plain_scalar is_closing digits_or second_half_or numbered_or escape_or is_strictly_left
    is_loosely_left over_blank over_break quoted_content quoted_turn may_trail behind_quoted quoted_tail quoted_scalar
    escaped_byte bytes_behind trailing_bytes uri_turn tag_ends tag_at name_at version_number minor_number handle_by
    handle_at prefix_at parameter_behind directive_of directive_at directive_tail directive_up_to directive header_sign
    block_header leading_turn content_column over_spaces empty_turn line_up_to block_turn is_white behind_block
    content_lines block_lines block_body block_scalar in_sequence behind_indicator goes_on_with close_turn refuse_column
    entered_columns wide_line opener closes refuse_tab_at past_gap over_break_if goes_on_behind noted_gap ready_gap
    gap_ends node_event is_tabbed_dash behind_dash dash_up_to dash question_up_to question_by question keyed_colon
    bare_colon colon_tail colon lexeme_line sort_of sort_at end_node end_properties begin_block take_dash feed is_stale
    is_allowed node_key is_far_below lexeme_of is_strict_outside lexeme_in_column lexeme_by read lex_turn tailed
    end_mark_up_to step_turn next_event digits encode chars next_boundary next_call behind_fault_at
    document_follows recover
returns-clause-brackets c = refl

pub returns-clause-behind : goal.returns-clause-behind
unfolding is_z is_break is_breakz is_blank is_blank_or_breakz is_digit is_hex hex_value is_word_char is_alpha is_flow
    is_bom is_printable is_yaml_non_break is_yaml_non_space is_anchor_char is_uri_sign is_uri_char is_tag_char is_gap
    begins_behind tab_behind step past steps past_prefix_mark past_break turns pieces letter_value digit_count is_high
    is_low quoted_char event_line behind_comment skipped_comment comment tail_behind on_content on_blank on_break
    plain_turn behind_plain plain_scalar is_closing digits_or second_half_or numbered_or escape_or is_strictly_left
    is_loosely_left over_blank over_break quoted_content quoted_turn may_trail behind_quoted quoted_tail quoted_scalar
    escaped_byte bytes_behind trailing_bytes uri_turn tag_ends tag_at name_at version_number minor_number handle_by
    handle_at prefix_at parameter_behind directive_of directive_at directive_tail directive_up_to directive header_sign
    block_header leading_turn content_column over_spaces empty_turn line_up_to block_turn is_white behind_block
    content_lines block_lines block_body block_scalar in_sequence behind_indicator goes_on_with close_turn refuse_column
    entered_columns wide_line opener closes refuse_tab_at past_gap over_break_if goes_on_behind noted_gap ready_gap
    gap_ends node_event is_tabbed_dash behind_dash dash_up_to dash question_up_to question_by question keyed_colon
    bare_colon colon_tail colon lexeme_line sort_of sort_at end_node end_properties begin_block take_dash feed is_stale
    is_allowed node_key is_far_below lexeme_of is_strict_outside lexeme_in_column lexeme_by read lex_turn tailed
    end_mark_up_to step_turn next_event digits encode chars next_boundary next_call behind_fault_at
    document_follows recover
returns-clause-behind c = refl

pub returns-clause-left : goal.returns-clause-left
unfolding is_z is_break is_breakz is_blank is_blank_or_breakz is_digit is_hex hex_value is_word_char is_alpha is_flow
    is_bom is_printable is_yaml_non_break is_yaml_non_space is_anchor_char is_uri_sign is_uri_char is_tag_char is_gap
    begins_behind tab_behind step past steps past_prefix_mark past_break turns pieces letter_value digit_count is_high
    is_low quoted_char event_line behind_comment skipped_comment comment tail_behind on_content on_blank on_break
    plain_turn behind_plain plain_scalar is_closing digits_or second_half_or numbered_or escape_or is_strictly_left
    is_loosely_left over_blank over_break quoted_content quoted_turn may_trail behind_quoted quoted_tail quoted_scalar
    escaped_byte bytes_behind trailing_bytes uri_turn tag_ends tag_at name_at version_number minor_number handle_by
    handle_at prefix_at parameter_behind directive_of directive_at directive_tail directive_up_to directive header_sign
    block_header leading_turn content_column over_spaces empty_turn line_up_to block_turn is_white behind_block
    content_lines block_lines block_body block_scalar in_sequence behind_indicator goes_on_with close_turn refuse_column
    entered_columns wide_line opener closes refuse_tab_at past_gap over_break_if goes_on_behind noted_gap ready_gap
    gap_ends node_event is_tabbed_dash behind_dash dash_up_to dash question_up_to question_by question keyed_colon
    bare_colon colon_tail colon lexeme_line sort_of sort_at end_node end_properties begin_block take_dash feed is_stale
    is_allowed node_key is_far_below lexeme_of is_strict_outside lexeme_in_column lexeme_by read lex_turn tailed
    end_mark_up_to step_turn next_event digits encode chars next_boundary next_call behind_fault_at
    document_follows recover
returns-clause-left c = refl

pub returns-clause-chain : goal.returns-clause-chain
unfolding is_z is_break is_breakz is_blank is_blank_or_breakz is_digit is_hex hex_value is_word_char is_alpha is_flow
    is_bom is_printable is_yaml_non_break is_yaml_non_space is_anchor_char is_uri_sign is_uri_char is_tag_char is_gap
    begins_behind tab_behind step past steps past_prefix_mark past_break turns pieces letter_value digit_count is_high
    is_low quoted_char event_line behind_comment skipped_comment comment tail_behind on_content on_blank on_break
    plain_turn behind_plain plain_scalar is_closing digits_or second_half_or numbered_or escape_or is_strictly_left
    is_loosely_left over_blank over_break quoted_content quoted_turn may_trail behind_quoted quoted_tail quoted_scalar
    escaped_byte bytes_behind trailing_bytes uri_turn tag_ends tag_at name_at version_number minor_number handle_by
    handle_at prefix_at parameter_behind directive_of directive_at directive_tail directive_up_to directive header_sign
    block_header leading_turn content_column over_spaces empty_turn line_up_to block_turn is_white behind_block
    content_lines block_lines block_body block_scalar in_sequence behind_indicator goes_on_with close_turn refuse_column
    entered_columns wide_line opener closes refuse_tab_at past_gap over_break_if goes_on_behind noted_gap ready_gap
    gap_ends node_event is_tabbed_dash behind_dash dash_up_to dash question_up_to question_by question keyed_colon
    bare_colon colon_tail colon lexeme_line sort_of sort_at end_node end_properties begin_block take_dash feed is_stale
    is_allowed node_key is_far_below lexeme_of is_strict_outside lexeme_in_column lexeme_by read lex_turn tailed
    end_mark_up_to step_turn next_event digits encode chars next_boundary next_call behind_fault_at
    document_follows recover
returns-clause-chain c =
    let start = calls_start (codes "a\n---\nb\n") in
    chain_goes (record {
      keep = false;
      stops = stops_of default_options (looked_at default_options true start);
      looked = true;
      given = false;
      calls = start;
      between = nothing_given;
      asks = refl;
      fits = λ refusal over. tt;
      tells = refl;
    }) chain_ends
