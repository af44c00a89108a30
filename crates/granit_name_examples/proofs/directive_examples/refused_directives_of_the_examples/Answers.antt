-- Each example is a computation.
use Rattle.std.proofs.Common.{refl}
use lib.Utf8.{encode}
use Rattle.std.specs.Str.{chars}
use Rattle.granit_base.specs.Classes.{is_z, is_break, is_breakz, is_blank, is_blank_or_breakz, is_digit, is_hex}
use Rattle.granit_base.specs.Classes.{hex_value, is_word_char, is_alpha, is_flow, is_bom, is_printable}
use Rattle.granit_base.specs.Classes.{is_yaml_non_break, is_yaml_non_space, is_uri_sign, is_uri_char, is_tag_char}
use Rattle.granit_lexemes.specs.Directive.{version_number, minor_number, handle_by, handle_at, prefix_at}
use Rattle.granit_lexemes.specs.Directive.{parameter_behind, directive_of, directive_at}
use Rattle.granit_lexemes.specs.Here.{step, past}
use Rattle.granit_lexemes.specs.Moves.{steps}
use Rattle.granit_lexemes.specs.Pieces.{turns, pieces}
use Rattle.granit_lexemes.specs.Tags.{escaped_byte, bytes_behind, trailing_bytes, uri_turn}
use Rattle.granit_name_examples.proofs.directive_examples.refused_directives_of_the_examples.Goals as goal

pub returns-clause-no_name : goal.returns-clause-no_name
unfolding encode chars is_z is_break is_breakz is_blank is_blank_or_breakz is_digit is_hex hex_value is_word_char
    is_alpha is_flow is_bom is_printable is_yaml_non_break is_yaml_non_space is_uri_sign is_uri_char is_tag_char step
    past steps turns pieces escaped_byte bytes_behind trailing_bytes uri_turn version_number minor_number handle_by
    handle_at prefix_at parameter_behind directive_of directive_at
returns-clause-no_name c = refl

pub returns-clause-no_name_blank : goal.returns-clause-no_name_blank
unfolding encode chars is_z is_break is_breakz is_blank is_blank_or_breakz is_digit is_hex hex_value is_word_char
    is_alpha is_flow is_bom is_printable is_yaml_non_break is_yaml_non_space is_uri_sign is_uri_char is_tag_char step
    past steps turns pieces escaped_byte bytes_behind trailing_bytes uri_turn version_number minor_number handle_by
    handle_at prefix_at parameter_behind directive_of directive_at
returns-clause-no_name_blank c = refl

pub returns-clause-wrong_name : goal.returns-clause-wrong_name
unfolding encode chars is_z is_break is_breakz is_blank is_blank_or_breakz is_digit is_hex hex_value is_word_char
    is_alpha is_flow is_bom is_printable is_yaml_non_break is_yaml_non_space is_uri_sign is_uri_char is_tag_char step
    past steps turns pieces escaped_byte bytes_behind trailing_bytes uri_turn version_number minor_number handle_by
    handle_at prefix_at parameter_behind directive_of directive_at
returns-clause-wrong_name c = refl

pub returns-clause-wrong_name_bom : goal.returns-clause-wrong_name_bom
unfolding encode chars is_z is_break is_breakz is_blank is_blank_or_breakz is_digit is_hex hex_value is_word_char
    is_alpha is_flow is_bom is_printable is_yaml_non_break is_yaml_non_space is_uri_sign is_uri_char is_tag_char step
    past steps turns pieces escaped_byte bytes_behind trailing_bytes uri_turn version_number minor_number handle_by
    handle_at prefix_at parameter_behind directive_of directive_at
returns-clause-wrong_name_bom c = refl

pub returns-clause-name_over : goal.returns-clause-name_over
unfolding encode chars is_z is_break is_breakz is_blank is_blank_or_breakz is_digit is_hex hex_value is_word_char
    is_alpha is_flow is_bom is_printable is_yaml_non_break is_yaml_non_space is_uri_sign is_uri_char is_tag_char step
    past steps turns pieces escaped_byte bytes_behind trailing_bytes uri_turn version_number minor_number handle_by
    handle_at prefix_at parameter_behind directive_of directive_at
returns-clause-name_over c = refl

pub returns-clause-blanks_over : goal.returns-clause-blanks_over
unfolding encode chars is_z is_break is_breakz is_blank is_blank_or_breakz is_digit is_hex hex_value is_word_char
    is_alpha is_flow is_bom is_printable is_yaml_non_break is_yaml_non_space is_uri_sign is_uri_char is_tag_char step
    past steps turns pieces escaped_byte bytes_behind trailing_bytes uri_turn version_number minor_number handle_by
    handle_at prefix_at parameter_behind directive_of directive_at
returns-clause-blanks_over c = refl

pub returns-clause-prefix_over : goal.returns-clause-prefix_over
unfolding encode chars is_z is_break is_breakz is_blank is_blank_or_breakz is_digit is_hex hex_value is_word_char
    is_alpha is_flow is_bom is_printable is_yaml_non_break is_yaml_non_space is_uri_sign is_uri_char is_tag_char step
    past steps turns pieces escaped_byte bytes_behind trailing_bytes uri_turn version_number minor_number handle_by
    handle_at prefix_at parameter_behind directive_of directive_at
returns-clause-prefix_over c = refl

pub returns-clause-escape_over : goal.returns-clause-escape_over
unfolding encode chars is_z is_break is_breakz is_blank is_blank_or_breakz is_digit is_hex hex_value is_word_char
    is_alpha is_flow is_bom is_printable is_yaml_non_break is_yaml_non_space is_uri_sign is_uri_char is_tag_char step
    past steps turns pieces escaped_byte bytes_behind trailing_bytes uri_turn version_number minor_number handle_by
    handle_at prefix_at parameter_behind directive_of directive_at
returns-clause-escape_over c = refl

pub returns-clause-wide_over : goal.returns-clause-wide_over
unfolding encode chars is_z is_break is_breakz is_blank is_blank_or_breakz is_digit is_hex hex_value is_word_char
    is_alpha is_flow is_bom is_printable is_yaml_non_break is_yaml_non_space is_uri_sign is_uri_char is_tag_char step
    past steps turns pieces escaped_byte bytes_behind trailing_bytes uri_turn version_number minor_number handle_by
    handle_at prefix_at parameter_behind directive_of directive_at
returns-clause-wide_over c = refl

pub returns-clause-more : goal.returns-clause-more
unfolding encode chars is_z is_break is_breakz is_blank is_blank_or_breakz is_digit is_hex hex_value is_word_char
    is_alpha is_flow is_bom is_printable is_yaml_non_break is_yaml_non_space is_uri_sign is_uri_char is_tag_char step
    past steps turns pieces escaped_byte bytes_behind trailing_bytes uri_turn version_number minor_number handle_by
    handle_at prefix_at parameter_behind directive_of directive_at
returns-clause-more c = refl

pub returns-clause-no_version : goal.returns-clause-no_version
unfolding encode chars is_z is_break is_breakz is_blank is_blank_or_breakz is_digit is_hex hex_value is_word_char
    is_alpha is_flow is_bom is_printable is_yaml_non_break is_yaml_non_space is_uri_sign is_uri_char is_tag_char step
    past steps turns pieces escaped_byte bytes_behind trailing_bytes uri_turn version_number minor_number handle_by
    handle_at prefix_at parameter_behind directive_of directive_at
returns-clause-no_version c = refl

pub returns-clause-no_version_letter : goal.returns-clause-no_version_letter
unfolding encode chars is_z is_break is_breakz is_blank is_blank_or_breakz is_digit is_hex hex_value is_word_char
    is_alpha is_flow is_bom is_printable is_yaml_non_break is_yaml_non_space is_uri_sign is_uri_char is_tag_char step
    past steps turns pieces escaped_byte bytes_behind trailing_bytes uri_turn version_number minor_number handle_by
    handle_at prefix_at parameter_behind directive_of directive_at
returns-clause-no_version_letter c = refl

pub returns-clause-no_minor : goal.returns-clause-no_minor
unfolding encode chars is_z is_break is_breakz is_blank is_blank_or_breakz is_digit is_hex hex_value is_word_char
    is_alpha is_flow is_bom is_printable is_yaml_non_break is_yaml_non_space is_uri_sign is_uri_char is_tag_char step
    past steps turns pieces escaped_byte bytes_behind trailing_bytes uri_turn version_number minor_number handle_by
    handle_at prefix_at parameter_behind directive_of directive_at
returns-clause-no_minor c = refl

pub returns-clause-no_minor_letter : goal.returns-clause-no_minor_letter
unfolding encode chars is_z is_break is_breakz is_blank is_blank_or_breakz is_digit is_hex hex_value is_word_char
    is_alpha is_flow is_bom is_printable is_yaml_non_break is_yaml_non_space is_uri_sign is_uri_char is_tag_char step
    past steps turns pieces escaped_byte bytes_behind trailing_bytes uri_turn version_number minor_number handle_by
    handle_at prefix_at parameter_behind directive_of directive_at
returns-clause-no_minor_letter c = refl

pub returns-clause-no_dot : goal.returns-clause-no_dot
unfolding encode chars is_z is_break is_breakz is_blank is_blank_or_breakz is_digit is_hex hex_value is_word_char
    is_alpha is_flow is_bom is_printable is_yaml_non_break is_yaml_non_space is_uri_sign is_uri_char is_tag_char step
    past steps turns pieces escaped_byte bytes_behind trailing_bytes uri_turn version_number minor_number handle_by
    handle_at prefix_at parameter_behind directive_of directive_at
returns-clause-no_dot c = refl

pub returns-clause-no_dot_end : goal.returns-clause-no_dot_end
unfolding encode chars is_z is_break is_breakz is_blank is_blank_or_breakz is_digit is_hex hex_value is_word_char
    is_alpha is_flow is_bom is_printable is_yaml_non_break is_yaml_non_space is_uri_sign is_uri_char is_tag_char step
    past steps turns pieces escaped_byte bytes_behind trailing_bytes uri_turn version_number minor_number handle_by
    handle_at prefix_at parameter_behind directive_of directive_at
returns-clause-no_dot_end c = refl

pub returns-clause-long_major : goal.returns-clause-long_major
unfolding encode chars is_z is_break is_breakz is_blank is_blank_or_breakz is_digit is_hex hex_value is_word_char
    is_alpha is_flow is_bom is_printable is_yaml_non_break is_yaml_non_space is_uri_sign is_uri_char is_tag_char step
    past steps turns pieces escaped_byte bytes_behind trailing_bytes uri_turn version_number minor_number handle_by
    handle_at prefix_at parameter_behind directive_of directive_at
returns-clause-long_major c = refl

pub returns-clause-long_minor : goal.returns-clause-long_minor
unfolding encode chars is_z is_break is_breakz is_blank is_blank_or_breakz is_digit is_hex hex_value is_word_char
    is_alpha is_flow is_bom is_printable is_yaml_non_break is_yaml_non_space is_uri_sign is_uri_char is_tag_char step
    past steps turns pieces escaped_byte bytes_behind trailing_bytes uri_turn version_number minor_number handle_by
    handle_at prefix_at parameter_behind directive_of directive_at
returns-clause-long_minor c = refl

pub returns-clause-no_bang : goal.returns-clause-no_bang
unfolding encode chars is_z is_break is_breakz is_blank is_blank_or_breakz is_digit is_hex hex_value is_word_char
    is_alpha is_flow is_bom is_printable is_yaml_non_break is_yaml_non_space is_uri_sign is_uri_char is_tag_char step
    past steps turns pieces escaped_byte bytes_behind trailing_bytes uri_turn version_number minor_number handle_by
    handle_at prefix_at parameter_behind directive_of directive_at
returns-clause-no_bang c = refl

pub returns-clause-no_handle : goal.returns-clause-no_handle
unfolding encode chars is_z is_break is_breakz is_blank is_blank_or_breakz is_digit is_hex hex_value is_word_char
    is_alpha is_flow is_bom is_printable is_yaml_non_break is_yaml_non_space is_uri_sign is_uri_char is_tag_char step
    past steps turns pieces escaped_byte bytes_behind trailing_bytes uri_turn version_number minor_number handle_by
    handle_at prefix_at parameter_behind directive_of directive_at
returns-clause-no_handle c = refl

pub returns-clause-one_bang : goal.returns-clause-one_bang
unfolding encode chars is_z is_break is_breakz is_blank is_blank_or_breakz is_digit is_hex hex_value is_word_char
    is_alpha is_flow is_bom is_printable is_yaml_non_break is_yaml_non_space is_uri_sign is_uri_char is_tag_char step
    past steps turns pieces escaped_byte bytes_behind trailing_bytes uri_turn version_number minor_number handle_by
    handle_at prefix_at parameter_behind directive_of directive_at
returns-clause-one_bang c = refl

pub returns-clause-one_bang_end : goal.returns-clause-one_bang_end
unfolding encode chars is_z is_break is_breakz is_blank is_blank_or_breakz is_digit is_hex hex_value is_word_char
    is_alpha is_flow is_bom is_printable is_yaml_non_break is_yaml_non_space is_uri_sign is_uri_char is_tag_char step
    past steps turns pieces escaped_byte bytes_behind trailing_bytes uri_turn version_number minor_number handle_by
    handle_at prefix_at parameter_behind directive_of directive_at
returns-clause-one_bang_end c = refl

pub returns-clause-no_prefix : goal.returns-clause-no_prefix
unfolding encode chars is_z is_break is_breakz is_blank is_blank_or_breakz is_digit is_hex hex_value is_word_char
    is_alpha is_flow is_bom is_printable is_yaml_non_break is_yaml_non_space is_uri_sign is_uri_char is_tag_char step
    past steps turns pieces escaped_byte bytes_behind trailing_bytes uri_turn version_number minor_number handle_by
    handle_at prefix_at parameter_behind directive_of directive_at
returns-clause-no_prefix c = refl

pub returns-clause-prefix_flow : goal.returns-clause-prefix_flow
unfolding encode chars is_z is_break is_breakz is_blank is_blank_or_breakz is_digit is_hex hex_value is_word_char
    is_alpha is_flow is_bom is_printable is_yaml_non_break is_yaml_non_space is_uri_sign is_uri_char is_tag_char step
    past steps turns pieces escaped_byte bytes_behind trailing_bytes uri_turn version_number minor_number handle_by
    handle_at prefix_at parameter_behind directive_of directive_at
returns-clause-prefix_flow c = refl

pub returns-clause-prefix_end : goal.returns-clause-prefix_end
unfolding encode chars is_z is_break is_breakz is_blank is_blank_or_breakz is_digit is_hex hex_value is_word_char
    is_alpha is_flow is_bom is_printable is_yaml_non_break is_yaml_non_space is_uri_sign is_uri_char is_tag_char step
    past steps turns pieces escaped_byte bytes_behind trailing_bytes uri_turn version_number minor_number handle_by
    handle_at prefix_at parameter_behind directive_of directive_at
returns-clause-prefix_end c = refl

pub returns-clause-prefix_wide : goal.returns-clause-prefix_wide
unfolding encode chars is_z is_break is_breakz is_blank is_blank_or_breakz is_digit is_hex hex_value is_word_char
    is_alpha is_flow is_bom is_printable is_yaml_non_break is_yaml_non_space is_uri_sign is_uri_char is_tag_char step
    past steps turns pieces escaped_byte bytes_behind trailing_bytes uri_turn version_number minor_number handle_by
    handle_at prefix_at parameter_behind directive_of directive_at
returns-clause-prefix_wide c = refl

pub returns-clause-wrong_escape : goal.returns-clause-wrong_escape
unfolding encode chars is_z is_break is_breakz is_blank is_blank_or_breakz is_digit is_hex hex_value is_word_char
    is_alpha is_flow is_bom is_printable is_yaml_non_break is_yaml_non_space is_uri_sign is_uri_char is_tag_char step
    past steps turns pieces escaped_byte bytes_behind trailing_bytes uri_turn version_number minor_number handle_by
    handle_at prefix_at parameter_behind directive_of directive_at
returns-clause-wrong_escape c = refl

pub returns-clause-wrong_lead : goal.returns-clause-wrong_lead
unfolding encode chars is_z is_break is_breakz is_blank is_blank_or_breakz is_digit is_hex hex_value is_word_char
    is_alpha is_flow is_bom is_printable is_yaml_non_break is_yaml_non_space is_uri_sign is_uri_char is_tag_char step
    past steps turns pieces escaped_byte bytes_behind trailing_bytes uri_turn version_number minor_number handle_by
    handle_at prefix_at parameter_behind directive_of directive_at
returns-clause-wrong_lead c = refl

pub returns-clause-wrong_trail : goal.returns-clause-wrong_trail
unfolding encode chars is_z is_break is_breakz is_blank is_blank_or_breakz is_digit is_hex hex_value is_word_char
    is_alpha is_flow is_bom is_printable is_yaml_non_break is_yaml_non_space is_uri_sign is_uri_char is_tag_char step
    past steps turns pieces escaped_byte bytes_behind trailing_bytes uri_turn version_number minor_number handle_by
    handle_at prefix_at parameter_behind directive_of directive_at
returns-clause-wrong_trail c = refl

pub returns-clause-wrong_char : goal.returns-clause-wrong_char
unfolding encode chars is_z is_break is_breakz is_blank is_blank_or_breakz is_digit is_hex hex_value is_word_char
    is_alpha is_flow is_bom is_printable is_yaml_non_break is_yaml_non_space is_uri_sign is_uri_char is_tag_char step
    past steps turns pieces escaped_byte bytes_behind trailing_bytes uri_turn version_number minor_number handle_by
    handle_at prefix_at parameter_behind directive_of directive_at
returns-clause-wrong_char c = refl

pub returns-clause-blank_over : goal.returns-clause-blank_over
unfolding encode chars is_z is_break is_breakz is_blank is_blank_or_breakz is_digit is_hex hex_value is_word_char
    is_alpha is_flow is_bom is_printable is_yaml_non_break is_yaml_non_space is_uri_sign is_uri_char is_tag_char step
    past steps turns pieces escaped_byte bytes_behind trailing_bytes uri_turn version_number minor_number handle_by
    handle_at prefix_at parameter_behind directive_of directive_at
returns-clause-blank_over c = refl

pub returns-clause-blank_within : goal.returns-clause-blank_within
unfolding encode chars is_z is_break is_breakz is_blank is_blank_or_breakz is_digit is_hex hex_value is_word_char
    is_alpha is_flow is_bom is_printable is_yaml_non_break is_yaml_non_space is_uri_sign is_uri_char is_tag_char step
    past steps turns pieces escaped_byte bytes_behind trailing_bytes uri_turn version_number minor_number handle_by
    handle_at prefix_at parameter_behind directive_of directive_at
returns-clause-blank_within c = refl

pub returns-clause-word_over : goal.returns-clause-word_over
unfolding encode chars is_z is_break is_breakz is_blank is_blank_or_breakz is_digit is_hex hex_value is_word_char
    is_alpha is_flow is_bom is_printable is_yaml_non_break is_yaml_non_space is_uri_sign is_uri_char is_tag_char step
    past steps turns pieces escaped_byte bytes_behind trailing_bytes uri_turn version_number minor_number handle_by
    handle_at prefix_at parameter_behind directive_of directive_at
returns-clause-word_over c = refl

pub returns-clause-word_within : goal.returns-clause-word_within
unfolding encode chars is_z is_break is_breakz is_blank is_blank_or_breakz is_digit is_hex hex_value is_word_char
    is_alpha is_flow is_bom is_printable is_yaml_non_break is_yaml_non_space is_uri_sign is_uri_char is_tag_char step
    past steps turns pieces escaped_byte bytes_behind trailing_bytes uri_turn version_number minor_number handle_by
    handle_at prefix_at parameter_behind directive_of directive_at
returns-clause-word_within c = refl

pub returns-clause-sign_over : goal.returns-clause-sign_over
unfolding encode chars is_z is_break is_breakz is_blank is_blank_or_breakz is_digit is_hex hex_value is_word_char
    is_alpha is_flow is_bom is_printable is_yaml_non_break is_yaml_non_space is_uri_sign is_uri_char is_tag_char step
    past steps turns pieces escaped_byte bytes_behind trailing_bytes uri_turn version_number minor_number handle_by
    handle_at prefix_at parameter_behind directive_of directive_at
returns-clause-sign_over c = refl

pub returns-clause-sign_within : goal.returns-clause-sign_within
unfolding encode chars is_z is_break is_breakz is_blank is_blank_or_breakz is_digit is_hex hex_value is_word_char
    is_alpha is_flow is_bom is_printable is_yaml_non_break is_yaml_non_space is_uri_sign is_uri_char is_tag_char step
    past steps turns pieces escaped_byte bytes_behind trailing_bytes uri_turn version_number minor_number handle_by
    handle_at prefix_at parameter_behind directive_of directive_at
returns-clause-sign_within c = refl

pub returns-clause-trail_over : goal.returns-clause-trail_over
unfolding encode chars is_z is_break is_breakz is_blank is_blank_or_breakz is_digit is_hex hex_value is_word_char
    is_alpha is_flow is_bom is_printable is_yaml_non_break is_yaml_non_space is_uri_sign is_uri_char is_tag_char step
    past steps turns pieces escaped_byte bytes_behind trailing_bytes uri_turn version_number minor_number handle_by
    handle_at prefix_at parameter_behind directive_of directive_at
returns-clause-trail_over c = refl

pub returns-clause-trail_within : goal.returns-clause-trail_within
unfolding encode chars is_z is_break is_breakz is_blank is_blank_or_breakz is_digit is_hex hex_value is_word_char
    is_alpha is_flow is_bom is_printable is_yaml_non_break is_yaml_non_space is_uri_sign is_uri_char is_tag_char step
    past steps turns pieces escaped_byte bytes_behind trailing_bytes uri_turn version_number minor_number handle_by
    handle_at prefix_at parameter_behind directive_of directive_at
returns-clause-trail_within c = refl
