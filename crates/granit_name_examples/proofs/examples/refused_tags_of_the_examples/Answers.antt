-- Each example is a computation.
use Rattle.std.proofs.Common.{refl}
use lib.Utf8.{encode}
use Rattle.std.specs.Str.{chars}
use Rattle.granit_base.specs.Classes.{is_z, is_break, is_breakz, is_blank, is_blank_or_breakz, is_digit, is_hex}
use Rattle.granit_base.specs.Classes.{hex_value, is_word_char, is_alpha, is_flow, is_bom, is_printable}
use Rattle.granit_base.specs.Classes.{is_yaml_non_break, is_yaml_non_space, is_anchor_char, is_uri_sign, is_uri_char}
use Rattle.granit_base.specs.Classes.{is_tag_char}
use Rattle.granit_lexemes.specs.Here.{step, past}
use Rattle.granit_lexemes.specs.Moves.{steps}
use Rattle.granit_lexemes.specs.Pieces.{turns, pieces}
use Rattle.granit_lexemes.specs.Tags.{escaped_byte, bytes_behind, trailing_bytes, uri_turn, tag_ends, tag_at, name_at}
use Rattle.granit_lexemes.specs.Directive.{version_number, minor_number, handle_by, handle_at, prefix_at}
use Rattle.granit_lexemes.specs.Directive.{parameter_behind, directive_of, directive_at}
use Rattle.granit_name_examples.proofs.examples.refused_tags_of_the_examples.Goals as goal

pub returns-clause-no_suffix : goal.returns-clause-no_suffix
unfolding encode chars is_z is_break is_breakz is_blank is_blank_or_breakz is_digit is_hex hex_value is_word_char
    is_alpha is_flow is_bom is_printable is_yaml_non_break is_yaml_non_space is_anchor_char is_uri_sign is_uri_char
    is_tag_char step past steps turns pieces escaped_byte bytes_behind trailing_bytes uri_turn tag_ends tag_at name_at
    version_number minor_number handle_by handle_at prefix_at parameter_behind directive_of directive_at
returns-clause-no_suffix c = refl

pub returns-clause-no_named_suffix : goal.returns-clause-no_named_suffix
unfolding encode chars is_z is_break is_breakz is_blank is_blank_or_breakz is_digit is_hex hex_value is_word_char
    is_alpha is_flow is_bom is_printable is_yaml_non_break is_yaml_non_space is_anchor_char is_uri_sign is_uri_char
    is_tag_char step past steps turns pieces escaped_byte bytes_behind trailing_bytes uri_turn tag_ends tag_at name_at
    version_number minor_number handle_by handle_at prefix_at parameter_behind directive_of directive_at
returns-clause-no_named_suffix c = refl

pub returns-clause-no_suffix_end : goal.returns-clause-no_suffix_end
unfolding encode chars is_z is_break is_breakz is_blank is_blank_or_breakz is_digit is_hex hex_value is_word_char
    is_alpha is_flow is_bom is_printable is_yaml_non_break is_yaml_non_space is_anchor_char is_uri_sign is_uri_char
    is_tag_char step past steps turns pieces escaped_byte bytes_behind trailing_bytes uri_turn tag_ends tag_at name_at
    version_number minor_number handle_by handle_at prefix_at parameter_behind directive_of directive_at
returns-clause-no_suffix_end c = refl

pub returns-clause-no_uri : goal.returns-clause-no_uri
unfolding encode chars is_z is_break is_breakz is_blank is_blank_or_breakz is_digit is_hex hex_value is_word_char
    is_alpha is_flow is_bom is_printable is_yaml_non_break is_yaml_non_space is_anchor_char is_uri_sign is_uri_char
    is_tag_char step past steps turns pieces escaped_byte bytes_behind trailing_bytes uri_turn tag_ends tag_at name_at
    version_number minor_number handle_by handle_at prefix_at parameter_behind directive_of directive_at
returns-clause-no_uri c = refl

pub returns-clause-no_uri_blank : goal.returns-clause-no_uri_blank
unfolding encode chars is_z is_break is_breakz is_blank is_blank_or_breakz is_digit is_hex hex_value is_word_char
    is_alpha is_flow is_bom is_printable is_yaml_non_break is_yaml_non_space is_anchor_char is_uri_sign is_uri_char
    is_tag_char step past steps turns pieces escaped_byte bytes_behind trailing_bytes uri_turn tag_ends tag_at name_at
    version_number minor_number handle_by handle_at prefix_at parameter_behind directive_of directive_at
returns-clause-no_uri_blank c = refl

pub returns-clause-unclosed : goal.returns-clause-unclosed
unfolding encode chars is_z is_break is_breakz is_blank is_blank_or_breakz is_digit is_hex hex_value is_word_char
    is_alpha is_flow is_bom is_printable is_yaml_non_break is_yaml_non_space is_anchor_char is_uri_sign is_uri_char
    is_tag_char step past steps turns pieces escaped_byte bytes_behind trailing_bytes uri_turn tag_ends tag_at name_at
    version_number minor_number handle_by handle_at prefix_at parameter_behind directive_of directive_at
returns-clause-unclosed c = refl

pub returns-clause-unclosed_end : goal.returns-clause-unclosed_end
unfolding encode chars is_z is_break is_breakz is_blank is_blank_or_breakz is_digit is_hex hex_value is_word_char
    is_alpha is_flow is_bom is_printable is_yaml_non_break is_yaml_non_space is_anchor_char is_uri_sign is_uri_char
    is_tag_char step past steps turns pieces escaped_byte bytes_behind trailing_bytes uri_turn tag_ends tag_at name_at
    version_number minor_number handle_by handle_at prefix_at parameter_behind directive_of directive_at
returns-clause-unclosed_end c = refl

pub returns-clause-unclosed_curly : goal.returns-clause-unclosed_curly
unfolding encode chars is_z is_break is_breakz is_blank is_blank_or_breakz is_digit is_hex hex_value is_word_char
    is_alpha is_flow is_bom is_printable is_yaml_non_break is_yaml_non_space is_anchor_char is_uri_sign is_uri_char
    is_tag_char step past steps turns pieces escaped_byte bytes_behind trailing_bytes uri_turn tag_ends tag_at name_at
    version_number minor_number handle_by handle_at prefix_at parameter_behind directive_of directive_at
returns-clause-unclosed_curly c = refl

pub returns-clause-comma_outside : goal.returns-clause-comma_outside
unfolding encode chars is_z is_break is_breakz is_blank is_blank_or_breakz is_digit is_hex hex_value is_word_char
    is_alpha is_flow is_bom is_printable is_yaml_non_break is_yaml_non_space is_anchor_char is_uri_sign is_uri_char
    is_tag_char step past steps turns pieces escaped_byte bytes_behind trailing_bytes uri_turn tag_ends tag_at name_at
    version_number minor_number handle_by handle_at prefix_at parameter_behind directive_of directive_at
returns-clause-comma_outside c = refl

pub returns-clause-verbatim_comma_outside : goal.returns-clause-verbatim_comma_outside
unfolding encode chars is_z is_break is_breakz is_blank is_blank_or_breakz is_digit is_hex hex_value is_word_char
    is_alpha is_flow is_bom is_printable is_yaml_non_break is_yaml_non_space is_anchor_char is_uri_sign is_uri_char
    is_tag_char step past steps turns pieces escaped_byte bytes_behind trailing_bytes uri_turn tag_ends tag_at name_at
    version_number minor_number handle_by handle_at prefix_at parameter_behind directive_of directive_at
returns-clause-verbatim_comma_outside c = refl

pub returns-clause-verbatim_letter : goal.returns-clause-verbatim_letter
unfolding encode chars is_z is_break is_breakz is_blank is_blank_or_breakz is_digit is_hex hex_value is_word_char
    is_alpha is_flow is_bom is_printable is_yaml_non_break is_yaml_non_space is_anchor_char is_uri_sign is_uri_char
    is_tag_char step past steps turns pieces escaped_byte bytes_behind trailing_bytes uri_turn tag_ends tag_at name_at
    version_number minor_number handle_by handle_at prefix_at parameter_behind directive_of directive_at
returns-clause-verbatim_letter c = refl

pub returns-clause-curly_outside : goal.returns-clause-curly_outside
unfolding encode chars is_z is_break is_breakz is_blank is_blank_or_breakz is_digit is_hex hex_value is_word_char
    is_alpha is_flow is_bom is_printable is_yaml_non_break is_yaml_non_space is_anchor_char is_uri_sign is_uri_char
    is_tag_char step past steps turns pieces escaped_byte bytes_behind trailing_bytes uri_turn tag_ends tag_at name_at
    version_number minor_number handle_by handle_at prefix_at parameter_behind directive_of directive_at
returns-clause-curly_outside c = refl

pub returns-clause-open_in_flow : goal.returns-clause-open_in_flow
unfolding encode chars is_z is_break is_breakz is_blank is_blank_or_breakz is_digit is_hex hex_value is_word_char
    is_alpha is_flow is_bom is_printable is_yaml_non_break is_yaml_non_space is_anchor_char is_uri_sign is_uri_char
    is_tag_char step past steps turns pieces escaped_byte bytes_behind trailing_bytes uri_turn tag_ends tag_at name_at
    version_number minor_number handle_by handle_at prefix_at parameter_behind directive_of directive_at
returns-clause-open_in_flow c = refl

pub returns-clause-third : goal.returns-clause-third
unfolding encode chars is_z is_break is_breakz is_blank is_blank_or_breakz is_digit is_hex hex_value is_word_char
    is_alpha is_flow is_bom is_printable is_yaml_non_break is_yaml_non_space is_anchor_char is_uri_sign is_uri_char
    is_tag_char step past steps turns pieces escaped_byte bytes_behind trailing_bytes uri_turn tag_ends tag_at name_at
    version_number minor_number handle_by handle_at prefix_at parameter_behind directive_of directive_at
returns-clause-third c = refl

pub returns-clause-behind_escape : goal.returns-clause-behind_escape
unfolding encode chars is_z is_break is_breakz is_blank is_blank_or_breakz is_digit is_hex hex_value is_word_char
    is_alpha is_flow is_bom is_printable is_yaml_non_break is_yaml_non_space is_anchor_char is_uri_sign is_uri_char
    is_tag_char step past steps turns pieces escaped_byte bytes_behind trailing_bytes uri_turn tag_ends tag_at name_at
    version_number minor_number handle_by handle_at prefix_at parameter_behind directive_of directive_at
returns-clause-behind_escape c = refl

pub returns-clause-quote : goal.returns-clause-quote
unfolding encode chars is_z is_break is_breakz is_blank is_blank_or_breakz is_digit is_hex hex_value is_word_char
    is_alpha is_flow is_bom is_printable is_yaml_non_break is_yaml_non_space is_anchor_char is_uri_sign is_uri_char
    is_tag_char step past steps turns pieces escaped_byte bytes_behind trailing_bytes uri_turn tag_ends tag_at name_at
    version_number minor_number handle_by handle_at prefix_at parameter_behind directive_of directive_at
returns-clause-quote c = refl

pub returns-clause-angle : goal.returns-clause-angle
unfolding encode chars is_z is_break is_breakz is_blank is_blank_or_breakz is_digit is_hex hex_value is_word_char
    is_alpha is_flow is_bom is_printable is_yaml_non_break is_yaml_non_space is_anchor_char is_uri_sign is_uri_char
    is_tag_char step past steps turns pieces escaped_byte bytes_behind trailing_bytes uri_turn tag_ends tag_at name_at
    version_number minor_number handle_by handle_at prefix_at parameter_behind directive_of directive_at
returns-clause-angle c = refl

pub returns-clause-unprintable : goal.returns-clause-unprintable
unfolding encode chars is_z is_break is_breakz is_blank is_blank_or_breakz is_digit is_hex hex_value is_word_char
    is_alpha is_flow is_bom is_printable is_yaml_non_break is_yaml_non_space is_anchor_char is_uri_sign is_uri_char
    is_tag_char step past steps turns pieces escaped_byte bytes_behind trailing_bytes uri_turn tag_ends tag_at name_at
    version_number minor_number handle_by handle_at prefix_at parameter_behind directive_of directive_at
returns-clause-unprintable c = refl

pub returns-clause-wide : goal.returns-clause-wide
unfolding encode chars is_z is_break is_breakz is_blank is_blank_or_breakz is_digit is_hex hex_value is_word_char
    is_alpha is_flow is_bom is_printable is_yaml_non_break is_yaml_non_space is_anchor_char is_uri_sign is_uri_char
    is_tag_char step past steps turns pieces escaped_byte bytes_behind trailing_bytes uri_turn tag_ends tag_at name_at
    version_number minor_number handle_by handle_at prefix_at parameter_behind directive_of directive_at
returns-clause-wide c = refl

pub returns-clause-no_digits : goal.returns-clause-no_digits
unfolding encode chars is_z is_break is_breakz is_blank is_blank_or_breakz is_digit is_hex hex_value is_word_char
    is_alpha is_flow is_bom is_printable is_yaml_non_break is_yaml_non_space is_anchor_char is_uri_sign is_uri_char
    is_tag_char step past steps turns pieces escaped_byte bytes_behind trailing_bytes uri_turn tag_ends tag_at name_at
    version_number minor_number handle_by handle_at prefix_at parameter_behind directive_of directive_at
returns-clause-no_digits c = refl

pub returns-clause-one_digit : goal.returns-clause-one_digit
unfolding encode chars is_z is_break is_breakz is_blank is_blank_or_breakz is_digit is_hex hex_value is_word_char
    is_alpha is_flow is_bom is_printable is_yaml_non_break is_yaml_non_space is_anchor_char is_uri_sign is_uri_char
    is_tag_char step past steps turns pieces escaped_byte bytes_behind trailing_bytes uri_turn tag_ends tag_at name_at
    version_number minor_number handle_by handle_at prefix_at parameter_behind directive_of directive_at
returns-clause-one_digit c = refl

pub returns-clause-second_digit : goal.returns-clause-second_digit
unfolding encode chars is_z is_break is_breakz is_blank is_blank_or_breakz is_digit is_hex hex_value is_word_char
    is_alpha is_flow is_bom is_printable is_yaml_non_break is_yaml_non_space is_anchor_char is_uri_sign is_uri_char
    is_tag_char step past steps turns pieces escaped_byte bytes_behind trailing_bytes uri_turn tag_ends tag_at name_at
    version_number minor_number handle_by handle_at prefix_at parameter_behind directive_of directive_at
returns-clause-second_digit c = refl

pub returns-clause-digit_inside : goal.returns-clause-digit_inside
unfolding encode chars is_z is_break is_breakz is_blank is_blank_or_breakz is_digit is_hex hex_value is_word_char
    is_alpha is_flow is_bom is_printable is_yaml_non_break is_yaml_non_space is_anchor_char is_uri_sign is_uri_char
    is_tag_char step past steps turns pieces escaped_byte bytes_behind trailing_bytes uri_turn tag_ends tag_at name_at
    version_number minor_number handle_by handle_at prefix_at parameter_behind directive_of directive_at
returns-clause-digit_inside c = refl

pub returns-clause-letter_inside : goal.returns-clause-letter_inside
unfolding encode chars is_z is_break is_breakz is_blank is_blank_or_breakz is_digit is_hex hex_value is_word_char
    is_alpha is_flow is_bom is_printable is_yaml_non_break is_yaml_non_space is_anchor_char is_uri_sign is_uri_char
    is_tag_char step past steps turns pieces escaped_byte bytes_behind trailing_bytes uri_turn tag_ends tag_at name_at
    version_number minor_number handle_by handle_at prefix_at parameter_behind directive_of directive_at
returns-clause-letter_inside c = refl

pub returns-clause-digit_inside_second : goal.returns-clause-digit_inside_second
unfolding encode chars is_z is_break is_breakz is_blank is_blank_or_breakz is_digit is_hex hex_value is_word_char
    is_alpha is_flow is_bom is_printable is_yaml_non_break is_yaml_non_space is_anchor_char is_uri_sign is_uri_char
    is_tag_char step past steps turns pieces escaped_byte bytes_behind trailing_bytes uri_turn tag_ends tag_at name_at
    version_number minor_number handle_by handle_at prefix_at parameter_behind directive_of directive_at
returns-clause-digit_inside_second c = refl

pub returns-clause-verbatim_digits : goal.returns-clause-verbatim_digits
unfolding encode chars is_z is_break is_breakz is_blank is_blank_or_breakz is_digit is_hex hex_value is_word_char
    is_alpha is_flow is_bom is_printable is_yaml_non_break is_yaml_non_space is_anchor_char is_uri_sign is_uri_char
    is_tag_char step past steps turns pieces escaped_byte bytes_behind trailing_bytes uri_turn tag_ends tag_at name_at
    version_number minor_number handle_by handle_at prefix_at parameter_behind directive_of directive_at
returns-clause-verbatim_digits c = refl

pub returns-clause-trailing_first : goal.returns-clause-trailing_first
unfolding encode chars is_z is_break is_breakz is_blank is_blank_or_breakz is_digit is_hex hex_value is_word_char
    is_alpha is_flow is_bom is_printable is_yaml_non_break is_yaml_non_space is_anchor_char is_uri_sign is_uri_char
    is_tag_char step past steps turns pieces escaped_byte bytes_behind trailing_bytes uri_turn tag_ends tag_at name_at
    version_number minor_number handle_by handle_at prefix_at parameter_behind directive_of directive_at
returns-clause-trailing_first c = refl

pub returns-clause-five_bytes : goal.returns-clause-five_bytes
unfolding encode chars is_z is_break is_breakz is_blank is_blank_or_breakz is_digit is_hex hex_value is_word_char
    is_alpha is_flow is_bom is_printable is_yaml_non_break is_yaml_non_space is_anchor_char is_uri_sign is_uri_char
    is_tag_char step past steps turns pieces escaped_byte bytes_behind trailing_bytes uri_turn tag_ends tag_at name_at
    version_number minor_number handle_by handle_at prefix_at parameter_behind directive_of directive_at
returns-clause-five_bytes c = refl

pub returns-clause-all_ones : goal.returns-clause-all_ones
unfolding encode chars is_z is_break is_breakz is_blank is_blank_or_breakz is_digit is_hex hex_value is_word_char
    is_alpha is_flow is_bom is_printable is_yaml_non_break is_yaml_non_space is_anchor_char is_uri_sign is_uri_char
    is_tag_char step past steps turns pieces escaped_byte bytes_behind trailing_bytes uri_turn tag_ends tag_at name_at
    version_number minor_number handle_by handle_at prefix_at parameter_behind directive_of directive_at
returns-clause-all_ones c = refl

pub returns-clause-no_trailing : goal.returns-clause-no_trailing
unfolding encode chars is_z is_break is_breakz is_blank is_blank_or_breakz is_digit is_hex hex_value is_word_char
    is_alpha is_flow is_bom is_printable is_yaml_non_break is_yaml_non_space is_anchor_char is_uri_sign is_uri_char
    is_tag_char step past steps turns pieces escaped_byte bytes_behind trailing_bytes uri_turn tag_ends tag_at name_at
    version_number minor_number handle_by handle_at prefix_at parameter_behind directive_of directive_at
returns-clause-no_trailing c = refl

pub returns-clause-second_no_trailing : goal.returns-clause-second_no_trailing
unfolding encode chars is_z is_break is_breakz is_blank is_blank_or_breakz is_digit is_hex hex_value is_word_char
    is_alpha is_flow is_bom is_printable is_yaml_non_break is_yaml_non_space is_anchor_char is_uri_sign is_uri_char
    is_tag_char step past steps turns pieces escaped_byte bytes_behind trailing_bytes uri_turn tag_ends tag_at name_at
    version_number minor_number handle_by handle_at prefix_at parameter_behind directive_of directive_at
returns-clause-second_no_trailing c = refl

pub returns-clause-overlong : goal.returns-clause-overlong
unfolding encode chars is_z is_break is_breakz is_blank is_blank_or_breakz is_digit is_hex hex_value is_word_char
    is_alpha is_flow is_bom is_printable is_yaml_non_break is_yaml_non_space is_anchor_char is_uri_sign is_uri_char
    is_tag_char step past steps turns pieces escaped_byte bytes_behind trailing_bytes uri_turn tag_ends tag_at name_at
    version_number minor_number handle_by handle_at prefix_at parameter_behind directive_of directive_at
returns-clause-overlong c = refl

pub returns-clause-overlong_three : goal.returns-clause-overlong_three
unfolding encode chars is_z is_break is_breakz is_blank is_blank_or_breakz is_digit is_hex hex_value is_word_char
    is_alpha is_flow is_bom is_printable is_yaml_non_break is_yaml_non_space is_anchor_char is_uri_sign is_uri_char
    is_tag_char step past steps turns pieces escaped_byte bytes_behind trailing_bytes uri_turn tag_ends tag_at name_at
    version_number minor_number handle_by handle_at prefix_at parameter_behind directive_of directive_at
returns-clause-overlong_three c = refl

pub returns-clause-surrogate : goal.returns-clause-surrogate
unfolding encode chars is_z is_break is_breakz is_blank is_blank_or_breakz is_digit is_hex hex_value is_word_char
    is_alpha is_flow is_bom is_printable is_yaml_non_break is_yaml_non_space is_anchor_char is_uri_sign is_uri_char
    is_tag_char step past steps turns pieces escaped_byte bytes_behind trailing_bytes uri_turn tag_ends tag_at name_at
    version_number minor_number handle_by handle_at prefix_at parameter_behind directive_of directive_at
returns-clause-surrogate c = refl

pub returns-clause-beyond : goal.returns-clause-beyond
unfolding encode chars is_z is_break is_breakz is_blank is_blank_or_breakz is_digit is_hex hex_value is_word_char
    is_alpha is_flow is_bom is_printable is_yaml_non_break is_yaml_non_space is_anchor_char is_uri_sign is_uri_char
    is_tag_char step past steps turns pieces escaped_byte bytes_behind trailing_bytes uri_turn tag_ends tag_at name_at
    version_number minor_number handle_by handle_at prefix_at parameter_behind directive_of directive_at
returns-clause-beyond c = refl

pub returns-clause-beyond_lead : goal.returns-clause-beyond_lead
unfolding encode chars is_z is_break is_breakz is_blank is_blank_or_breakz is_digit is_hex hex_value is_word_char
    is_alpha is_flow is_bom is_printable is_yaml_non_break is_yaml_non_space is_anchor_char is_uri_sign is_uri_char
    is_tag_char step past steps turns pieces escaped_byte bytes_behind trailing_bytes uri_turn tag_ends tag_at name_at
    version_number minor_number handle_by handle_at prefix_at parameter_behind directive_of directive_at
returns-clause-beyond_lead c = refl
