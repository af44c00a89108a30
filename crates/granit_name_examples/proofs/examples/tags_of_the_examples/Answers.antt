-- Each example is a computation.
use Rattle.std.proofs.Common.{refl}
use lib.Utf8.{encode}
use Rattle.std.specs.Str.{chars}
use Rattle.granit_base.specs.Classes.{is_z, is_break, is_breakz, is_blank, is_blank_or_breakz, is_digit, is_hex}
use Rattle.granit_base.specs.Classes.{hex_value, is_word_char, is_alpha, is_flow, is_bom, is_printable}
use Rattle.granit_base.specs.Classes.{is_yaml_non_break, is_yaml_non_space, is_anchor_char, is_uri_sign, is_uri_char}
use Rattle.granit_base.specs.Classes.{is_tag_char}
use Rattle.granit_lexemes.specs.Here.{step, past}
use Rattle.granit_lexemes.specs.Moves.{steps}
use Rattle.granit_lexemes.specs.Pieces.{turns, pieces}
use Rattle.granit_lexemes.specs.Tags.{escaped_byte, bytes_behind, trailing_bytes, uri_turn, tag_ends, tag_at, name_at}
use Rattle.granit_lexemes.specs.Directive.{version_number, minor_number, handle_by, handle_at, prefix_at}
use Rattle.granit_lexemes.specs.Directive.{parameter_behind, directive_of, directive_at}
use Rattle.granit_name_examples.proofs.examples.tags_of_the_examples.Goals as goal

pub returns-clause-alone : goal.returns-clause-alone
unfolding encode chars is_z is_break is_breakz is_blank is_blank_or_breakz is_digit is_hex hex_value is_word_char
    is_alpha is_flow is_bom is_printable is_yaml_non_break is_yaml_non_space is_anchor_char is_uri_sign is_uri_char
    is_tag_char step past steps turns pieces escaped_byte bytes_behind trailing_bytes uri_turn tag_ends tag_at name_at
    version_number minor_number handle_by handle_at prefix_at parameter_behind directive_of directive_at
returns-clause-alone c = refl

pub returns-clause-alone_end : goal.returns-clause-alone_end
unfolding encode chars is_z is_break is_breakz is_blank is_blank_or_breakz is_digit is_hex hex_value is_word_char
    is_alpha is_flow is_bom is_printable is_yaml_non_break is_yaml_non_space is_anchor_char is_uri_sign is_uri_char
    is_tag_char step past steps turns pieces escaped_byte bytes_behind trailing_bytes uri_turn tag_ends tag_at name_at
    version_number minor_number handle_by handle_at prefix_at parameter_behind directive_of directive_at
returns-clause-alone_end c = refl

pub returns-clause-alone_line : goal.returns-clause-alone_line
unfolding encode chars is_z is_break is_breakz is_blank is_blank_or_breakz is_digit is_hex hex_value is_word_char
    is_alpha is_flow is_bom is_printable is_yaml_non_break is_yaml_non_space is_anchor_char is_uri_sign is_uri_char
    is_tag_char step past steps turns pieces escaped_byte bytes_behind trailing_bytes uri_turn tag_ends tag_at name_at
    version_number minor_number handle_by handle_at prefix_at parameter_behind directive_of directive_at
returns-clause-alone_line c = refl

pub returns-clause-letter : goal.returns-clause-letter
unfolding encode chars is_z is_break is_breakz is_blank is_blank_or_breakz is_digit is_hex hex_value is_word_char
    is_alpha is_flow is_bom is_printable is_yaml_non_break is_yaml_non_space is_anchor_char is_uri_sign is_uri_char
    is_tag_char step past steps turns pieces escaped_byte bytes_behind trailing_bytes uri_turn tag_ends tag_at name_at
    version_number minor_number handle_by handle_at prefix_at parameter_behind directive_of directive_at
returns-clause-letter c = refl

pub returns-clause-word : goal.returns-clause-word
unfolding encode chars is_z is_break is_breakz is_blank is_blank_or_breakz is_digit is_hex hex_value is_word_char
    is_alpha is_flow is_bom is_printable is_yaml_non_break is_yaml_non_space is_anchor_char is_uri_sign is_uri_char
    is_tag_char step past steps turns pieces escaped_byte bytes_behind trailing_bytes uri_turn tag_ends tag_at name_at
    version_number minor_number handle_by handle_at prefix_at parameter_behind directive_of directive_at
returns-clause-word c = refl

pub returns-clause-second : goal.returns-clause-second
unfolding encode chars is_z is_break is_breakz is_blank is_blank_or_breakz is_digit is_hex hex_value is_word_char
    is_alpha is_flow is_bom is_printable is_yaml_non_break is_yaml_non_space is_anchor_char is_uri_sign is_uri_char
    is_tag_char step past steps turns pieces escaped_byte bytes_behind trailing_bytes uri_turn tag_ends tag_at name_at
    version_number minor_number handle_by handle_at prefix_at parameter_behind directive_of directive_at
returns-clause-second c = refl

pub returns-clause-named : goal.returns-clause-named
unfolding encode chars is_z is_break is_breakz is_blank is_blank_or_breakz is_digit is_hex hex_value is_word_char
    is_alpha is_flow is_bom is_printable is_yaml_non_break is_yaml_non_space is_anchor_char is_uri_sign is_uri_char
    is_tag_char step past steps turns pieces escaped_byte bytes_behind trailing_bytes uri_turn tag_ends tag_at name_at
    version_number minor_number handle_by handle_at prefix_at parameter_behind directive_of directive_at
returns-clause-named c = refl

pub returns-clause-escaped : goal.returns-clause-escaped
unfolding encode chars is_z is_break is_breakz is_blank is_blank_or_breakz is_digit is_hex hex_value is_word_char
    is_alpha is_flow is_bom is_printable is_yaml_non_break is_yaml_non_space is_anchor_char is_uri_sign is_uri_char
    is_tag_char step past steps turns pieces escaped_byte bytes_behind trailing_bytes uri_turn tag_ends tag_at name_at
    version_number minor_number handle_by handle_at prefix_at parameter_behind directive_of directive_at
returns-clause-escaped c = refl

pub returns-clause-accent : goal.returns-clause-accent
unfolding encode chars is_z is_break is_breakz is_blank is_blank_or_breakz is_digit is_hex hex_value is_word_char
    is_alpha is_flow is_bom is_printable is_yaml_non_break is_yaml_non_space is_anchor_char is_uri_sign is_uri_char
    is_tag_char step past steps turns pieces escaped_byte bytes_behind trailing_bytes uri_turn tag_ends tag_at name_at
    version_number minor_number handle_by handle_at prefix_at parameter_behind directive_of directive_at
returns-clause-accent c = refl

pub returns-clause-accent_first : goal.returns-clause-accent_first
unfolding encode chars is_z is_break is_breakz is_blank is_blank_or_breakz is_digit is_hex hex_value is_word_char
    is_alpha is_flow is_bom is_printable is_yaml_non_break is_yaml_non_space is_anchor_char is_uri_sign is_uri_char
    is_tag_char step past steps turns pieces escaped_byte bytes_behind trailing_bytes uri_turn tag_ends tag_at name_at
    version_number minor_number handle_by handle_at prefix_at parameter_behind directive_of directive_at
returns-clause-accent_first c = refl

pub returns-clause-three : goal.returns-clause-three
unfolding encode chars is_z is_break is_breakz is_blank is_blank_or_breakz is_digit is_hex hex_value is_word_char
    is_alpha is_flow is_bom is_printable is_yaml_non_break is_yaml_non_space is_anchor_char is_uri_sign is_uri_char
    is_tag_char step past steps turns pieces escaped_byte bytes_behind trailing_bytes uri_turn tag_ends tag_at name_at
    version_number minor_number handle_by handle_at prefix_at parameter_behind directive_of directive_at
returns-clause-three c = refl

pub returns-clause-four : goal.returns-clause-four
unfolding encode chars is_z is_break is_breakz is_blank is_blank_or_breakz is_digit is_hex hex_value is_word_char
    is_alpha is_flow is_bom is_printable is_yaml_non_break is_yaml_non_space is_anchor_char is_uri_sign is_uri_char
    is_tag_char step past steps turns pieces escaped_byte bytes_behind trailing_bytes uri_turn tag_ends tag_at name_at
    version_number minor_number handle_by handle_at prefix_at parameter_behind directive_of directive_at
returns-clause-four c = refl

pub returns-clause-letter_escaped : goal.returns-clause-letter_escaped
unfolding encode chars is_z is_break is_breakz is_blank is_blank_or_breakz is_digit is_hex hex_value is_word_char
    is_alpha is_flow is_bom is_printable is_yaml_non_break is_yaml_non_space is_anchor_char is_uri_sign is_uri_char
    is_tag_char step past steps turns pieces escaped_byte bytes_behind trailing_bytes uri_turn tag_ends tag_at name_at
    version_number minor_number handle_by handle_at prefix_at parameter_behind directive_of directive_at
returns-clause-letter_escaped c = refl

pub returns-clause-signs : goal.returns-clause-signs
unfolding encode chars is_z is_break is_breakz is_blank is_blank_or_breakz is_digit is_hex hex_value is_word_char
    is_alpha is_flow is_bom is_printable is_yaml_non_break is_yaml_non_space is_anchor_char is_uri_sign is_uri_char
    is_tag_char step past steps turns pieces escaped_byte bytes_behind trailing_bytes uri_turn tag_ends tag_at name_at
    version_number minor_number handle_by handle_at prefix_at parameter_behind directive_of directive_at
returns-clause-signs c = refl

pub returns-clause-verbatim : goal.returns-clause-verbatim
unfolding encode chars is_z is_break is_breakz is_blank is_blank_or_breakz is_digit is_hex hex_value is_word_char
    is_alpha is_flow is_bom is_printable is_yaml_non_break is_yaml_non_space is_anchor_char is_uri_sign is_uri_char
    is_tag_char step past steps turns pieces escaped_byte bytes_behind trailing_bytes uri_turn tag_ends tag_at name_at
    version_number minor_number handle_by handle_at prefix_at parameter_behind directive_of directive_at
returns-clause-verbatim c = refl

pub returns-clause-verbatim_bang : goal.returns-clause-verbatim_bang
unfolding encode chars is_z is_break is_breakz is_blank is_blank_or_breakz is_digit is_hex hex_value is_word_char
    is_alpha is_flow is_bom is_printable is_yaml_non_break is_yaml_non_space is_anchor_char is_uri_sign is_uri_char
    is_tag_char step past steps turns pieces escaped_byte bytes_behind trailing_bytes uri_turn tag_ends tag_at name_at
    version_number minor_number handle_by handle_at prefix_at parameter_behind directive_of directive_at
returns-clause-verbatim_bang c = refl

pub returns-clause-verbatim_flow_signs : goal.returns-clause-verbatim_flow_signs
unfolding encode chars is_z is_break is_breakz is_blank is_blank_or_breakz is_digit is_hex hex_value is_word_char
    is_alpha is_flow is_bom is_printable is_yaml_non_break is_yaml_non_space is_anchor_char is_uri_sign is_uri_char
    is_tag_char step past steps turns pieces escaped_byte bytes_behind trailing_bytes uri_turn tag_ends tag_at name_at
    version_number minor_number handle_by handle_at prefix_at parameter_behind directive_of directive_at
returns-clause-verbatim_flow_signs c = refl

pub returns-clause-verbatim_end : goal.returns-clause-verbatim_end
unfolding encode chars is_z is_break is_breakz is_blank is_blank_or_breakz is_digit is_hex hex_value is_word_char
    is_alpha is_flow is_bom is_printable is_yaml_non_break is_yaml_non_space is_anchor_char is_uri_sign is_uri_char
    is_tag_char step past steps turns pieces escaped_byte bytes_behind trailing_bytes uri_turn tag_ends tag_at name_at
    version_number minor_number handle_by handle_at prefix_at parameter_behind directive_of directive_at
returns-clause-verbatim_end c = refl

pub returns-clause-dashes : goal.returns-clause-dashes
unfolding encode chars is_z is_break is_breakz is_blank is_blank_or_breakz is_digit is_hex hex_value is_word_char
    is_alpha is_flow is_bom is_printable is_yaml_non_break is_yaml_non_space is_anchor_char is_uri_sign is_uri_char
    is_tag_char step past steps turns pieces escaped_byte bytes_behind trailing_bytes uri_turn tag_ends tag_at name_at
    version_number minor_number handle_by handle_at prefix_at parameter_behind directive_of directive_at
returns-clause-dashes c = refl

pub returns-clause-underscore : goal.returns-clause-underscore
unfolding encode chars is_z is_break is_breakz is_blank is_blank_or_breakz is_digit is_hex hex_value is_word_char
    is_alpha is_flow is_bom is_printable is_yaml_non_break is_yaml_non_space is_anchor_char is_uri_sign is_uri_char
    is_tag_char step past steps turns pieces escaped_byte bytes_behind trailing_bytes uri_turn tag_ends tag_at name_at
    version_number minor_number handle_by handle_at prefix_at parameter_behind directive_of directive_at
returns-clause-underscore c = refl

pub returns-clause-comma_in_flow : goal.returns-clause-comma_in_flow
unfolding encode chars is_z is_break is_breakz is_blank is_blank_or_breakz is_digit is_hex hex_value is_word_char
    is_alpha is_flow is_bom is_printable is_yaml_non_break is_yaml_non_space is_anchor_char is_uri_sign is_uri_char
    is_tag_char step past steps turns pieces escaped_byte bytes_behind trailing_bytes uri_turn tag_ends tag_at name_at
    version_number minor_number handle_by handle_at prefix_at parameter_behind directive_of directive_at
returns-clause-comma_in_flow c = refl

pub returns-clause-close_in_flow : goal.returns-clause-close_in_flow
unfolding encode chars is_z is_break is_breakz is_blank is_blank_or_breakz is_digit is_hex hex_value is_word_char
    is_alpha is_flow is_bom is_printable is_yaml_non_break is_yaml_non_space is_anchor_char is_uri_sign is_uri_char
    is_tag_char step past steps turns pieces escaped_byte bytes_behind trailing_bytes uri_turn tag_ends tag_at name_at
    version_number minor_number handle_by handle_at prefix_at parameter_behind directive_of directive_at
returns-clause-close_in_flow c = refl

pub returns-clause-curly_in_flow : goal.returns-clause-curly_in_flow
unfolding encode chars is_z is_break is_breakz is_blank is_blank_or_breakz is_digit is_hex hex_value is_word_char
    is_alpha is_flow is_bom is_printable is_yaml_non_break is_yaml_non_space is_anchor_char is_uri_sign is_uri_char
    is_tag_char step past steps turns pieces escaped_byte bytes_behind trailing_bytes uri_turn tag_ends tag_at name_at
    version_number minor_number handle_by handle_at prefix_at parameter_behind directive_of directive_at
returns-clause-curly_in_flow c = refl

pub returns-clause-verbatim_in_flow : goal.returns-clause-verbatim_in_flow
unfolding encode chars is_z is_break is_breakz is_blank is_blank_or_breakz is_digit is_hex hex_value is_word_char
    is_alpha is_flow is_bom is_printable is_yaml_non_break is_yaml_non_space is_anchor_char is_uri_sign is_uri_char
    is_tag_char step past steps turns pieces escaped_byte bytes_behind trailing_bytes uri_turn tag_ends tag_at name_at
    version_number minor_number handle_by handle_at prefix_at parameter_behind directive_of directive_at
returns-clause-verbatim_in_flow c = refl

pub returns-clause-second_in_flow : goal.returns-clause-second_in_flow
unfolding encode chars is_z is_break is_breakz is_blank is_blank_or_breakz is_digit is_hex hex_value is_word_char
    is_alpha is_flow is_bom is_printable is_yaml_non_break is_yaml_non_space is_anchor_char is_uri_sign is_uri_char
    is_tag_char step past steps turns pieces escaped_byte bytes_behind trailing_bytes uri_turn tag_ends tag_at name_at
    version_number minor_number handle_by handle_at prefix_at parameter_behind directive_of directive_at
returns-clause-second_in_flow c = refl
