-- Each example is a computation.
use Rattle.std.proofs.Common.{refl}
use lib.Utf8.{encode}
use Rattle.std.specs.Str.{chars}
use Rattle.granit_base.specs.Classes.{is_z, is_break, is_breakz, is_blank, is_blank_or_breakz, is_digit, is_hex}
use Rattle.granit_base.specs.Classes.{hex_value, is_word_char, is_alpha, is_flow, is_bom, is_printable}
use Rattle.granit_base.specs.Classes.{is_yaml_non_break, is_yaml_non_space, is_uri_sign, is_uri_char, is_tag_char}
use Rattle.granit_lexemes.specs.Directive.{version_number, minor_number, handle_by, handle_at, prefix_at}
use Rattle.granit_lexemes.specs.Directive.{parameter_behind, directive_of, directive_at}
use Rattle.granit_lexemes.specs.Here.{step, past}
use Rattle.granit_lexemes.specs.Moves.{steps}
use Rattle.granit_lexemes.specs.Pieces.{turns, pieces}
use Rattle.granit_lexemes.specs.Tags.{escaped_byte, bytes_behind, trailing_bytes, uri_turn}
use Rattle.granit_name_examples.proofs.directive_examples.directives_of_the_examples.Goals as goal

pub returns-clause-version : goal.returns-clause-version
unfolding encode chars is_z is_break is_breakz is_blank is_blank_or_breakz is_digit is_hex hex_value is_word_char
    is_alpha is_flow is_bom is_printable is_yaml_non_break is_yaml_non_space is_uri_sign is_uri_char is_tag_char step
    past steps turns pieces escaped_byte bytes_behind trailing_bytes uri_turn version_number minor_number handle_by
    handle_at prefix_at parameter_behind directive_of directive_at
returns-clause-version c = refl

pub returns-clause-version_comment : goal.returns-clause-version_comment
unfolding encode chars is_z is_break is_breakz is_blank is_blank_or_breakz is_digit is_hex hex_value is_word_char
    is_alpha is_flow is_bom is_printable is_yaml_non_break is_yaml_non_space is_uri_sign is_uri_char is_tag_char step
    past steps turns pieces escaped_byte bytes_behind trailing_bytes uri_turn version_number minor_number handle_by
    handle_at prefix_at parameter_behind directive_of directive_at
returns-clause-version_comment c = refl

pub returns-clause-version_blanks : goal.returns-clause-version_blanks
unfolding encode chars is_z is_break is_breakz is_blank is_blank_or_breakz is_digit is_hex hex_value is_word_char
    is_alpha is_flow is_bom is_printable is_yaml_non_break is_yaml_non_space is_uri_sign is_uri_char is_tag_char step
    past steps turns pieces escaped_byte bytes_behind trailing_bytes uri_turn version_number minor_number handle_by
    handle_at prefix_at parameter_behind directive_of directive_at
returns-clause-version_blanks c = refl

pub returns-clause-version_long : goal.returns-clause-version_long
unfolding encode chars is_z is_break is_breakz is_blank is_blank_or_breakz is_digit is_hex hex_value is_word_char
    is_alpha is_flow is_bom is_printable is_yaml_non_break is_yaml_non_space is_uri_sign is_uri_char is_tag_char step
    past steps turns pieces escaped_byte bytes_behind trailing_bytes uri_turn version_number minor_number handle_by
    handle_at prefix_at parameter_behind directive_of directive_at
returns-clause-version_long c = refl

pub returns-clause-version_again : goal.returns-clause-version_again
unfolding encode chars is_z is_break is_breakz is_blank is_blank_or_breakz is_digit is_hex hex_value is_word_char
    is_alpha is_flow is_bom is_printable is_yaml_non_break is_yaml_non_space is_uri_sign is_uri_char is_tag_char step
    past steps turns pieces escaped_byte bytes_behind trailing_bytes uri_turn version_number minor_number handle_by
    handle_at prefix_at parameter_behind directive_of directive_at
returns-clause-version_again c = refl

pub returns-clause-handle : goal.returns-clause-handle
unfolding encode chars is_z is_break is_breakz is_blank is_blank_or_breakz is_digit is_hex hex_value is_word_char
    is_alpha is_flow is_bom is_printable is_yaml_non_break is_yaml_non_space is_uri_sign is_uri_char is_tag_char step
    past steps turns pieces escaped_byte bytes_behind trailing_bytes uri_turn version_number minor_number handle_by
    handle_at prefix_at parameter_behind directive_of directive_at
returns-clause-handle c = refl

pub returns-clause-handle_second : goal.returns-clause-handle_second
unfolding encode chars is_z is_break is_breakz is_blank is_blank_or_breakz is_digit is_hex hex_value is_word_char
    is_alpha is_flow is_bom is_printable is_yaml_non_break is_yaml_non_space is_uri_sign is_uri_char is_tag_char step
    past steps turns pieces escaped_byte bytes_behind trailing_bytes uri_turn version_number minor_number handle_by
    handle_at prefix_at parameter_behind directive_of directive_at
returns-clause-handle_second c = refl

pub returns-clause-handle_alone : goal.returns-clause-handle_alone
unfolding encode chars is_z is_break is_breakz is_blank is_blank_or_breakz is_digit is_hex hex_value is_word_char
    is_alpha is_flow is_bom is_printable is_yaml_non_break is_yaml_non_space is_uri_sign is_uri_char is_tag_char step
    past steps turns pieces escaped_byte bytes_behind trailing_bytes uri_turn version_number minor_number handle_by
    handle_at prefix_at parameter_behind directive_of directive_at
returns-clause-handle_alone c = refl

pub returns-clause-touching : goal.returns-clause-touching
unfolding encode chars is_z is_break is_breakz is_blank is_blank_or_breakz is_digit is_hex hex_value is_word_char
    is_alpha is_flow is_bom is_printable is_yaml_non_break is_yaml_non_space is_uri_sign is_uri_char is_tag_char step
    past steps turns pieces escaped_byte bytes_behind trailing_bytes uri_turn version_number minor_number handle_by
    handle_at prefix_at parameter_behind directive_of directive_at
returns-clause-touching c = refl

pub returns-clause-prefix_escaped : goal.returns-clause-prefix_escaped
unfolding encode chars is_z is_break is_breakz is_blank is_blank_or_breakz is_digit is_hex hex_value is_word_char
    is_alpha is_flow is_bom is_printable is_yaml_non_break is_yaml_non_space is_uri_sign is_uri_char is_tag_char step
    past steps turns pieces escaped_byte bytes_behind trailing_bytes uri_turn version_number minor_number handle_by
    handle_at prefix_at parameter_behind directive_of directive_at
returns-clause-prefix_escaped c = refl

pub returns-clause-prefix_signs : goal.returns-clause-prefix_signs
unfolding encode chars is_z is_break is_breakz is_blank is_blank_or_breakz is_digit is_hex hex_value is_word_char
    is_alpha is_flow is_bom is_printable is_yaml_non_break is_yaml_non_space is_uri_sign is_uri_char is_tag_char step
    past steps turns pieces escaped_byte bytes_behind trailing_bytes uri_turn version_number minor_number handle_by
    handle_at prefix_at parameter_behind directive_of directive_at
returns-clause-prefix_signs c = refl

pub returns-clause-prefix_escape_first : goal.returns-clause-prefix_escape_first
unfolding encode chars is_z is_break is_breakz is_blank is_blank_or_breakz is_digit is_hex hex_value is_word_char
    is_alpha is_flow is_bom is_printable is_yaml_non_break is_yaml_non_space is_uri_sign is_uri_char is_tag_char step
    past steps turns pieces escaped_byte bytes_behind trailing_bytes uri_turn version_number minor_number handle_by
    handle_at prefix_at parameter_behind directive_of directive_at
returns-clause-prefix_escape_first c = refl

pub returns-clause-reserved : goal.returns-clause-reserved
unfolding encode chars is_z is_break is_breakz is_blank is_blank_or_breakz is_digit is_hex hex_value is_word_char
    is_alpha is_flow is_bom is_printable is_yaml_non_break is_yaml_non_space is_uri_sign is_uri_char is_tag_char step
    past steps turns pieces escaped_byte bytes_behind trailing_bytes uri_turn version_number minor_number handle_by
    handle_at prefix_at parameter_behind directive_of directive_at
returns-clause-reserved c = refl

pub returns-clause-reserved_alone : goal.returns-clause-reserved_alone
unfolding encode chars is_z is_break is_breakz is_blank is_blank_or_breakz is_digit is_hex hex_value is_word_char
    is_alpha is_flow is_bom is_printable is_yaml_non_break is_yaml_non_space is_uri_sign is_uri_char is_tag_char step
    past steps turns pieces escaped_byte bytes_behind trailing_bytes uri_turn version_number minor_number handle_by
    handle_at prefix_at parameter_behind directive_of directive_at
returns-clause-reserved_alone c = refl

pub returns-clause-reserved_comment : goal.returns-clause-reserved_comment
unfolding encode chars is_z is_break is_breakz is_blank is_blank_or_breakz is_digit is_hex hex_value is_word_char
    is_alpha is_flow is_bom is_printable is_yaml_non_break is_yaml_non_space is_uri_sign is_uri_char is_tag_char step
    past steps turns pieces escaped_byte bytes_behind trailing_bytes uri_turn version_number minor_number handle_by
    handle_at prefix_at parameter_behind directive_of directive_at
returns-clause-reserved_comment c = refl

pub returns-clause-reserved_blanks : goal.returns-clause-reserved_blanks
unfolding encode chars is_z is_break is_breakz is_blank is_blank_or_breakz is_digit is_hex hex_value is_word_char
    is_alpha is_flow is_bom is_printable is_yaml_non_break is_yaml_non_space is_uri_sign is_uri_char is_tag_char step
    past steps turns pieces escaped_byte bytes_behind trailing_bytes uri_turn version_number minor_number handle_by
    handle_at prefix_at parameter_behind directive_of directive_at
returns-clause-reserved_blanks c = refl

pub returns-clause-reserved_hash_inside : goal.returns-clause-reserved_hash_inside
unfolding encode chars is_z is_break is_breakz is_blank is_blank_or_breakz is_digit is_hex hex_value is_word_char
    is_alpha is_flow is_bom is_printable is_yaml_non_break is_yaml_non_space is_uri_sign is_uri_char is_tag_char step
    past steps turns pieces escaped_byte bytes_behind trailing_bytes uri_turn version_number minor_number handle_by
    handle_at prefix_at parameter_behind directive_of directive_at
returns-clause-reserved_hash_inside c = refl

pub returns-clause-reserved_lower : goal.returns-clause-reserved_lower
unfolding encode chars is_z is_break is_breakz is_blank is_blank_or_breakz is_digit is_hex hex_value is_word_char
    is_alpha is_flow is_bom is_printable is_yaml_non_break is_yaml_non_space is_uri_sign is_uri_char is_tag_char step
    past steps turns pieces escaped_byte bytes_behind trailing_bytes uri_turn version_number minor_number handle_by
    handle_at prefix_at parameter_behind directive_of directive_at
returns-clause-reserved_lower c = refl

pub returns-clause-reserved_longer : goal.returns-clause-reserved_longer
unfolding encode chars is_z is_break is_breakz is_blank is_blank_or_breakz is_digit is_hex hex_value is_word_char
    is_alpha is_flow is_bom is_printable is_yaml_non_break is_yaml_non_space is_uri_sign is_uri_char is_tag_char step
    past steps turns pieces escaped_byte bytes_behind trailing_bytes uri_turn version_number minor_number handle_by
    handle_at prefix_at parameter_behind directive_of directive_at
returns-clause-reserved_longer c = refl

pub returns-clause-reserved_accent : goal.returns-clause-reserved_accent
unfolding encode chars is_z is_break is_breakz is_blank is_blank_or_breakz is_digit is_hex hex_value is_word_char
    is_alpha is_flow is_bom is_printable is_yaml_non_break is_yaml_non_space is_uri_sign is_uri_char is_tag_char step
    past steps turns pieces escaped_byte bytes_behind trailing_bytes uri_turn version_number minor_number handle_by
    handle_at prefix_at parameter_behind directive_of directive_at
returns-clause-reserved_accent c = refl

pub returns-clause-most : goal.returns-clause-most
unfolding encode chars is_z is_break is_breakz is_blank is_blank_or_breakz is_digit is_hex hex_value is_word_char
    is_alpha is_flow is_bom is_printable is_yaml_non_break is_yaml_non_space is_uri_sign is_uri_char is_tag_char step
    past steps turns pieces escaped_byte bytes_behind trailing_bytes uri_turn version_number minor_number handle_by
    handle_at prefix_at parameter_behind directive_of directive_at
returns-clause-most c = refl

pub returns-clause-within : goal.returns-clause-within
unfolding encode chars is_z is_break is_breakz is_blank is_blank_or_breakz is_digit is_hex hex_value is_word_char
    is_alpha is_flow is_bom is_printable is_yaml_non_break is_yaml_non_space is_uri_sign is_uri_char is_tag_char step
    past steps turns pieces escaped_byte bytes_behind trailing_bytes uri_turn version_number minor_number handle_by
    handle_at prefix_at parameter_behind directive_of directive_at
returns-clause-within c = refl
