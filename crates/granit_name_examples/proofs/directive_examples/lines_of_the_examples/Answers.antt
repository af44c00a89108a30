-- Each example is a computation.
use Rattle.std.proofs.Common.{refl}
use lib.Utf8.{encode}
use Rattle.std.specs.Str.{chars}
use Rattle.granit_base.specs.Classes.{is_z, is_break, is_breakz, is_blank, is_blank_or_breakz, is_digit, is_hex}
use Rattle.granit_base.specs.Classes.{hex_value, is_word_char, is_alpha, is_flow, is_bom, is_printable}
use Rattle.granit_base.specs.Classes.{is_yaml_non_break, is_yaml_non_space, is_uri_sign, is_uri_char, is_tag_char}
use Rattle.granit_lexemes.specs.Comment.{behind_comment, skipped_comment, comment}
use Rattle.granit_lexemes.specs.Directive.{version_number, minor_number, handle_by, handle_at, prefix_at}
use Rattle.granit_lexemes.specs.Directive.{parameter_behind, directive_of, directive_at, directive_tail}
use Rattle.granit_lexemes.specs.Directive.{directive_up_to, directive}
use Rattle.granit_lexemes.specs.Here.{step, past, begins_behind, tab_behind}
use Rattle.granit_lexemes.specs.Moves.{steps}
use Rattle.granit_lexemes.specs.Pieces.{turns, pieces}
use Rattle.granit_lexemes.specs.Tags.{escaped_byte, bytes_behind, trailing_bytes, uri_turn}
use Rattle.granit_lexemes.specs.Tail.{tail_behind}
use Rattle.granit_name_examples.proofs.directive_examples.lines_of_the_examples.Goals as goal

pub returns-clause-comment : goal.returns-clause-comment
unfolding encode chars is_z is_break is_breakz is_blank is_blank_or_breakz is_digit is_hex hex_value is_word_char
    is_alpha is_flow is_bom is_printable is_yaml_non_break is_yaml_non_space is_uri_sign is_uri_char is_tag_char step
    past steps turns pieces escaped_byte bytes_behind trailing_bytes uri_turn version_number minor_number handle_by
    handle_at prefix_at parameter_behind directive_of directive_at begins_behind tab_behind behind_comment
    skipped_comment comment tail_behind directive_tail directive_up_to directive
returns-clause-comment c = refl

pub returns-clause-nothing : goal.returns-clause-nothing
unfolding encode chars is_z is_break is_breakz is_blank is_blank_or_breakz is_digit is_hex hex_value is_word_char
    is_alpha is_flow is_bom is_printable is_yaml_non_break is_yaml_non_space is_uri_sign is_uri_char is_tag_char step
    past steps turns pieces escaped_byte bytes_behind trailing_bytes uri_turn version_number minor_number handle_by
    handle_at prefix_at parameter_behind directive_of directive_at begins_behind tab_behind behind_comment
    skipped_comment comment tail_behind directive_tail directive_up_to directive
returns-clause-nothing c = refl

pub returns-clause-end : goal.returns-clause-end
unfolding encode chars is_z is_break is_breakz is_blank is_blank_or_breakz is_digit is_hex hex_value is_word_char
    is_alpha is_flow is_bom is_printable is_yaml_non_break is_yaml_non_space is_uri_sign is_uri_char is_tag_char step
    past steps turns pieces escaped_byte bytes_behind trailing_bytes uri_turn version_number minor_number handle_by
    handle_at prefix_at parameter_behind directive_of directive_at begins_behind tab_behind behind_comment
    skipped_comment comment tail_behind directive_tail directive_up_to directive
returns-clause-end c = refl

pub returns-clause-tab : goal.returns-clause-tab
unfolding encode chars is_z is_break is_breakz is_blank is_blank_or_breakz is_digit is_hex hex_value is_word_char
    is_alpha is_flow is_bom is_printable is_yaml_non_break is_yaml_non_space is_uri_sign is_uri_char is_tag_char step
    past steps turns pieces escaped_byte bytes_behind trailing_bytes uri_turn version_number minor_number handle_by
    handle_at prefix_at parameter_behind directive_of directive_at begins_behind tab_behind behind_comment
    skipped_comment comment tail_behind directive_tail directive_up_to directive
returns-clause-tab c = refl

pub returns-clause-handle : goal.returns-clause-handle
unfolding encode chars is_z is_break is_breakz is_blank is_blank_or_breakz is_digit is_hex hex_value is_word_char
    is_alpha is_flow is_bom is_printable is_yaml_non_break is_yaml_non_space is_uri_sign is_uri_char is_tag_char step
    past steps turns pieces escaped_byte bytes_behind trailing_bytes uri_turn version_number minor_number handle_by
    handle_at prefix_at parameter_behind directive_of directive_at begins_behind tab_behind behind_comment
    skipped_comment comment tail_behind directive_tail directive_up_to directive
returns-clause-handle c = refl

pub returns-clause-hash_inside : goal.returns-clause-hash_inside
unfolding encode chars is_z is_break is_breakz is_blank is_blank_or_breakz is_digit is_hex hex_value is_word_char
    is_alpha is_flow is_bom is_printable is_yaml_non_break is_yaml_non_space is_uri_sign is_uri_char is_tag_char step
    past steps turns pieces escaped_byte bytes_behind trailing_bytes uri_turn version_number minor_number handle_by
    handle_at prefix_at parameter_behind directive_of directive_at begins_behind tab_behind behind_comment
    skipped_comment comment tail_behind directive_tail directive_up_to directive
returns-clause-hash_inside c = refl

pub returns-clause-at_once : goal.returns-clause-at_once
unfolding encode chars is_z is_break is_breakz is_blank is_blank_or_breakz is_digit is_hex hex_value is_word_char
    is_alpha is_flow is_bom is_printable is_yaml_non_break is_yaml_non_space is_uri_sign is_uri_char is_tag_char step
    past steps turns pieces escaped_byte bytes_behind trailing_bytes uri_turn version_number minor_number handle_by
    handle_at prefix_at parameter_behind directive_of directive_at begins_behind tab_behind behind_comment
    skipped_comment comment tail_behind directive_tail directive_up_to directive
returns-clause-at_once c = refl

pub returns-clause-empty : goal.returns-clause-empty
unfolding encode chars is_z is_break is_breakz is_blank is_blank_or_breakz is_digit is_hex hex_value is_word_char
    is_alpha is_flow is_bom is_printable is_yaml_non_break is_yaml_non_space is_uri_sign is_uri_char is_tag_char step
    past steps turns pieces escaped_byte bytes_behind trailing_bytes uri_turn version_number minor_number handle_by
    handle_at prefix_at parameter_behind directive_of directive_at begins_behind tab_behind behind_comment
    skipped_comment comment tail_behind directive_tail directive_up_to directive
returns-clause-empty c = refl

pub returns-clause-nul : goal.returns-clause-nul
unfolding encode chars is_z is_break is_breakz is_blank is_blank_or_breakz is_digit is_hex hex_value is_word_char
    is_alpha is_flow is_bom is_printable is_yaml_non_break is_yaml_non_space is_uri_sign is_uri_char is_tag_char step
    past steps turns pieces escaped_byte bytes_behind trailing_bytes uri_turn version_number minor_number handle_by
    handle_at prefix_at parameter_behind directive_of directive_at begins_behind tab_behind behind_comment
    skipped_comment comment tail_behind directive_tail directive_up_to directive
returns-clause-nul c = refl

pub returns-clause-touching : goal.returns-clause-touching
unfolding encode chars is_z is_break is_breakz is_blank is_blank_or_breakz is_digit is_hex hex_value is_word_char
    is_alpha is_flow is_bom is_printable is_yaml_non_break is_yaml_non_space is_uri_sign is_uri_char is_tag_char step
    past steps turns pieces escaped_byte bytes_behind trailing_bytes uri_turn version_number minor_number handle_by
    handle_at prefix_at parameter_behind directive_of directive_at begins_behind tab_behind behind_comment
    skipped_comment comment tail_behind directive_tail directive_up_to directive
returns-clause-touching c = refl

pub returns-clause-word : goal.returns-clause-word
unfolding encode chars is_z is_break is_breakz is_blank is_blank_or_breakz is_digit is_hex hex_value is_word_char
    is_alpha is_flow is_bom is_printable is_yaml_non_break is_yaml_non_space is_uri_sign is_uri_char is_tag_char step
    past steps turns pieces escaped_byte bytes_behind trailing_bytes uri_turn version_number minor_number handle_by
    handle_at prefix_at parameter_behind directive_of directive_at begins_behind tab_behind behind_comment
    skipped_comment comment tail_behind directive_tail directive_up_to directive
returns-clause-word c = refl

pub returns-clause-quote : goal.returns-clause-quote
unfolding encode chars is_z is_break is_breakz is_blank is_blank_or_breakz is_digit is_hex hex_value is_word_char
    is_alpha is_flow is_bom is_printable is_yaml_non_break is_yaml_non_space is_uri_sign is_uri_char is_tag_char step
    past steps turns pieces escaped_byte bytes_behind trailing_bytes uri_turn version_number minor_number handle_by
    handle_at prefix_at parameter_behind directive_of directive_at begins_behind tab_behind behind_comment
    skipped_comment comment tail_behind directive_tail directive_up_to directive
returns-clause-quote c = refl

pub returns-clause-no_word : goal.returns-clause-no_word
unfolding encode chars is_z is_break is_breakz is_blank is_blank_or_breakz is_digit is_hex hex_value is_word_char
    is_alpha is_flow is_bom is_printable is_yaml_non_break is_yaml_non_space is_uri_sign is_uri_char is_tag_char step
    past steps turns pieces escaped_byte bytes_behind trailing_bytes uri_turn version_number minor_number handle_by
    handle_at prefix_at parameter_behind directive_of directive_at begins_behind tab_behind behind_comment
    skipped_comment comment tail_behind directive_tail directive_up_to directive
returns-clause-no_word c = refl

pub returns-clause-spoiled : goal.returns-clause-spoiled
unfolding encode chars is_z is_break is_breakz is_blank is_blank_or_breakz is_digit is_hex hex_value is_word_char
    is_alpha is_flow is_bom is_printable is_yaml_non_break is_yaml_non_space is_uri_sign is_uri_char is_tag_char step
    past steps turns pieces escaped_byte bytes_behind trailing_bytes uri_turn version_number minor_number handle_by
    handle_at prefix_at parameter_behind directive_of directive_at begins_behind tab_behind behind_comment
    skipped_comment comment tail_behind directive_tail directive_up_to directive
returns-clause-spoiled c = refl

pub returns-clause-spoiled_at_once : goal.returns-clause-spoiled_at_once
unfolding encode chars is_z is_break is_breakz is_blank is_blank_or_breakz is_digit is_hex hex_value is_word_char
    is_alpha is_flow is_bom is_printable is_yaml_non_break is_yaml_non_space is_uri_sign is_uri_char is_tag_char step
    past steps turns pieces escaped_byte bytes_behind trailing_bytes uri_turn version_number minor_number handle_by
    handle_at prefix_at parameter_behind directive_of directive_at begins_behind tab_behind behind_comment
    skipped_comment comment tail_behind directive_tail directive_up_to directive
returns-clause-spoiled_at_once c = refl

pub returns-clause-disallowed : goal.returns-clause-disallowed
unfolding encode chars is_z is_break is_breakz is_blank is_blank_or_breakz is_digit is_hex hex_value is_word_char
    is_alpha is_flow is_bom is_printable is_yaml_non_break is_yaml_non_space is_uri_sign is_uri_char is_tag_char step
    past steps turns pieces escaped_byte bytes_behind trailing_bytes uri_turn version_number minor_number handle_by
    handle_at prefix_at parameter_behind directive_of directive_at begins_behind tab_behind behind_comment
    skipped_comment comment tail_behind directive_tail directive_up_to directive
returns-clause-disallowed c = refl

pub returns-clause-disallowed_first : goal.returns-clause-disallowed_first
unfolding encode chars is_z is_break is_breakz is_blank is_blank_or_breakz is_digit is_hex hex_value is_word_char
    is_alpha is_flow is_bom is_printable is_yaml_non_break is_yaml_non_space is_uri_sign is_uri_char is_tag_char step
    past steps turns pieces escaped_byte bytes_behind trailing_bytes uri_turn version_number minor_number handle_by
    handle_at prefix_at parameter_behind directive_of directive_at begins_behind tab_behind behind_comment
    skipped_comment comment tail_behind directive_tail directive_up_to directive
returns-clause-disallowed_first c = refl
