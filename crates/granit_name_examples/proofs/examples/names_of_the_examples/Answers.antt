-- Each example is a computation.
use Rattle.std.proofs.Common.{refl}
use lib.Utf8.{encode}
use Rattle.std.specs.Str.{chars}
use Rattle.granit_base.specs.Classes.{is_z, is_break, is_breakz, is_blank, is_blank_or_breakz, is_digit, is_hex}
use Rattle.granit_base.specs.Classes.{hex_value, is_word_char, is_alpha, is_flow, is_bom, is_printable}
use Rattle.granit_base.specs.Classes.{is_yaml_non_break, is_yaml_non_space, is_anchor_char, is_uri_sign, is_uri_char}
use Rattle.granit_base.specs.Classes.{is_tag_char}
use Rattle.granit_lexemes.specs.Here.{step, past}
use Rattle.granit_lexemes.specs.Moves.{steps}
use Rattle.granit_lexemes.specs.Pieces.{turns, pieces}
use Rattle.granit_lexemes.specs.Tags.{escaped_byte, bytes_behind, trailing_bytes, uri_turn, tag_ends, tag_at, name_at}
use Rattle.granit_lexemes.specs.Directive.{version_number, minor_number, handle_by, handle_at, prefix_at}
use Rattle.granit_lexemes.specs.Directive.{parameter_behind, directive_of, directive_at}
use Rattle.granit_name_examples.proofs.examples.names_of_the_examples.Goals as goal

pub returns-clause-letters : goal.returns-clause-letters
unfolding encode chars is_z is_break is_breakz is_blank is_blank_or_breakz is_digit is_hex hex_value is_word_char
    is_alpha is_flow is_bom is_printable is_yaml_non_break is_yaml_non_space is_anchor_char is_uri_sign is_uri_char
    is_tag_char step past steps turns pieces escaped_byte bytes_behind trailing_bytes uri_turn tag_ends tag_at name_at
    version_number minor_number handle_by handle_at prefix_at parameter_behind directive_of directive_at
returns-clause-letters c = refl

pub returns-clause-alias : goal.returns-clause-alias
unfolding encode chars is_z is_break is_breakz is_blank is_blank_or_breakz is_digit is_hex hex_value is_word_char
    is_alpha is_flow is_bom is_printable is_yaml_non_break is_yaml_non_space is_anchor_char is_uri_sign is_uri_char
    is_tag_char step past steps turns pieces escaped_byte bytes_behind trailing_bytes uri_turn tag_ends tag_at name_at
    version_number minor_number handle_by handle_at prefix_at parameter_behind directive_of directive_at
returns-clause-alias c = refl

pub returns-clause-colon : goal.returns-clause-colon
unfolding encode chars is_z is_break is_breakz is_blank is_blank_or_breakz is_digit is_hex hex_value is_word_char
    is_alpha is_flow is_bom is_printable is_yaml_non_break is_yaml_non_space is_anchor_char is_uri_sign is_uri_char
    is_tag_char step past steps turns pieces escaped_byte bytes_behind trailing_bytes uri_turn tag_ends tag_at name_at
    version_number minor_number handle_by handle_at prefix_at parameter_behind directive_of directive_at
returns-clause-colon c = refl

pub returns-clause-dash : goal.returns-clause-dash
unfolding encode chars is_z is_break is_breakz is_blank is_blank_or_breakz is_digit is_hex hex_value is_word_char
    is_alpha is_flow is_bom is_printable is_yaml_non_break is_yaml_non_space is_anchor_char is_uri_sign is_uri_char
    is_tag_char step past steps turns pieces escaped_byte bytes_behind trailing_bytes uri_turn tag_ends tag_at name_at
    version_number minor_number handle_by handle_at prefix_at parameter_behind directive_of directive_at
returns-clause-dash c = refl

pub returns-clause-bang : goal.returns-clause-bang
unfolding encode chars is_z is_break is_breakz is_blank is_blank_or_breakz is_digit is_hex hex_value is_word_char
    is_alpha is_flow is_bom is_printable is_yaml_non_break is_yaml_non_space is_anchor_char is_uri_sign is_uri_char
    is_tag_char step past steps turns pieces escaped_byte bytes_behind trailing_bytes uri_turn tag_ends tag_at name_at
    version_number minor_number handle_by handle_at prefix_at parameter_behind directive_of directive_at
returns-clause-bang c = refl

pub returns-clause-hash : goal.returns-clause-hash
unfolding encode chars is_z is_break is_breakz is_blank is_blank_or_breakz is_digit is_hex hex_value is_word_char
    is_alpha is_flow is_bom is_printable is_yaml_non_break is_yaml_non_space is_anchor_char is_uri_sign is_uri_char
    is_tag_char step past steps turns pieces escaped_byte bytes_behind trailing_bytes uri_turn tag_ends tag_at name_at
    version_number minor_number handle_by handle_at prefix_at parameter_behind directive_of directive_at
returns-clause-hash c = refl

pub returns-clause-percent : goal.returns-clause-percent
unfolding encode chars is_z is_break is_breakz is_blank is_blank_or_breakz is_digit is_hex hex_value is_word_char
    is_alpha is_flow is_bom is_printable is_yaml_non_break is_yaml_non_space is_anchor_char is_uri_sign is_uri_char
    is_tag_char step past steps turns pieces escaped_byte bytes_behind trailing_bytes uri_turn tag_ends tag_at name_at
    version_number minor_number handle_by handle_at prefix_at parameter_behind directive_of directive_at
returns-clause-percent c = refl

pub returns-clause-quote : goal.returns-clause-quote
unfolding encode chars is_z is_break is_breakz is_blank is_blank_or_breakz is_digit is_hex hex_value is_word_char
    is_alpha is_flow is_bom is_printable is_yaml_non_break is_yaml_non_space is_anchor_char is_uri_sign is_uri_char
    is_tag_char step past steps turns pieces escaped_byte bytes_behind trailing_bytes uri_turn tag_ends tag_at name_at
    version_number minor_number handle_by handle_at prefix_at parameter_behind directive_of directive_at
returns-clause-quote c = refl

pub returns-clause-accent : goal.returns-clause-accent
unfolding encode chars is_z is_break is_breakz is_blank is_blank_or_breakz is_digit is_hex hex_value is_word_char
    is_alpha is_flow is_bom is_printable is_yaml_non_break is_yaml_non_space is_anchor_char is_uri_sign is_uri_char
    is_tag_char step past steps turns pieces escaped_byte bytes_behind trailing_bytes uri_turn tag_ends tag_at name_at
    version_number minor_number handle_by handle_at prefix_at parameter_behind directive_of directive_at
returns-clause-accent c = refl

pub returns-clause-next_line_mark : goal.returns-clause-next_line_mark
unfolding encode chars is_z is_break is_breakz is_blank is_blank_or_breakz is_digit is_hex hex_value is_word_char
    is_alpha is_flow is_bom is_printable is_yaml_non_break is_yaml_non_space is_anchor_char is_uri_sign is_uri_char
    is_tag_char step past steps turns pieces escaped_byte bytes_behind trailing_bytes uri_turn tag_ends tag_at name_at
    version_number minor_number handle_by handle_at prefix_at parameter_behind directive_of directive_at
returns-clause-next_line_mark c = refl

pub returns-clause-beyond : goal.returns-clause-beyond
unfolding encode chars is_z is_break is_breakz is_blank is_blank_or_breakz is_digit is_hex hex_value is_word_char
    is_alpha is_flow is_bom is_printable is_yaml_non_break is_yaml_non_space is_anchor_char is_uri_sign is_uri_char
    is_tag_char step past steps turns pieces escaped_byte bytes_behind trailing_bytes uri_turn tag_ends tag_at name_at
    version_number minor_number handle_by handle_at prefix_at parameter_behind directive_of directive_at
returns-clause-beyond c = refl

pub returns-clause-end : goal.returns-clause-end
unfolding encode chars is_z is_break is_breakz is_blank is_blank_or_breakz is_digit is_hex hex_value is_word_char
    is_alpha is_flow is_bom is_printable is_yaml_non_break is_yaml_non_space is_anchor_char is_uri_sign is_uri_char
    is_tag_char step past steps turns pieces escaped_byte bytes_behind trailing_bytes uri_turn tag_ends tag_at name_at
    version_number minor_number handle_by handle_at prefix_at parameter_behind directive_of directive_at
returns-clause-end c = refl

pub returns-clause-line : goal.returns-clause-line
unfolding encode chars is_z is_break is_breakz is_blank is_blank_or_breakz is_digit is_hex hex_value is_word_char
    is_alpha is_flow is_bom is_printable is_yaml_non_break is_yaml_non_space is_anchor_char is_uri_sign is_uri_char
    is_tag_char step past steps turns pieces escaped_byte bytes_behind trailing_bytes uri_turn tag_ends tag_at name_at
    version_number minor_number handle_by handle_at prefix_at parameter_behind directive_of directive_at
returns-clause-line c = refl

pub returns-clause-tab : goal.returns-clause-tab
unfolding encode chars is_z is_break is_breakz is_blank is_blank_or_breakz is_digit is_hex hex_value is_word_char
    is_alpha is_flow is_bom is_printable is_yaml_non_break is_yaml_non_space is_anchor_char is_uri_sign is_uri_char
    is_tag_char step past steps turns pieces escaped_byte bytes_behind trailing_bytes uri_turn tag_ends tag_at name_at
    version_number minor_number handle_by handle_at prefix_at parameter_behind directive_of directive_at
returns-clause-tab c = refl

pub returns-clause-in_flow : goal.returns-clause-in_flow
unfolding encode chars is_z is_break is_breakz is_blank is_blank_or_breakz is_digit is_hex hex_value is_word_char
    is_alpha is_flow is_bom is_printable is_yaml_non_break is_yaml_non_space is_anchor_char is_uri_sign is_uri_char
    is_tag_char step past steps turns pieces escaped_byte bytes_behind trailing_bytes uri_turn tag_ends tag_at name_at
    version_number minor_number handle_by handle_at prefix_at parameter_behind directive_of directive_at
returns-clause-in_flow c = refl

pub returns-clause-before_close : goal.returns-clause-before_close
unfolding encode chars is_z is_break is_breakz is_blank is_blank_or_breakz is_digit is_hex hex_value is_word_char
    is_alpha is_flow is_bom is_printable is_yaml_non_break is_yaml_non_space is_anchor_char is_uri_sign is_uri_char
    is_tag_char step past steps turns pieces escaped_byte bytes_behind trailing_bytes uri_turn tag_ends tag_at name_at
    version_number minor_number handle_by handle_at prefix_at parameter_behind directive_of directive_at
returns-clause-before_close c = refl

pub returns-clause-before_curly : goal.returns-clause-before_curly
unfolding encode chars is_z is_break is_breakz is_blank is_blank_or_breakz is_digit is_hex hex_value is_word_char
    is_alpha is_flow is_bom is_printable is_yaml_non_break is_yaml_non_space is_anchor_char is_uri_sign is_uri_char
    is_tag_char step past steps turns pieces escaped_byte bytes_behind trailing_bytes uri_turn tag_ends tag_at name_at
    version_number minor_number handle_by handle_at prefix_at parameter_behind directive_of directive_at
returns-clause-before_curly c = refl

pub returns-clause-star : goal.returns-clause-star
unfolding encode chars is_z is_break is_breakz is_blank is_blank_or_breakz is_digit is_hex hex_value is_word_char
    is_alpha is_flow is_bom is_printable is_yaml_non_break is_yaml_non_space is_anchor_char is_uri_sign is_uri_char
    is_tag_char step past steps turns pieces escaped_byte bytes_behind trailing_bytes uri_turn tag_ends tag_at name_at
    version_number minor_number handle_by handle_at prefix_at parameter_behind directive_of directive_at
returns-clause-star c = refl

pub returns-clause-ampersand : goal.returns-clause-ampersand
unfolding encode chars is_z is_break is_breakz is_blank is_blank_or_breakz is_digit is_hex hex_value is_word_char
    is_alpha is_flow is_bom is_printable is_yaml_non_break is_yaml_non_space is_anchor_char is_uri_sign is_uri_char
    is_tag_char step past steps turns pieces escaped_byte bytes_behind trailing_bytes uri_turn tag_ends tag_at name_at
    version_number minor_number handle_by handle_at prefix_at parameter_behind directive_of directive_at
returns-clause-ampersand c = refl

pub returns-clause-none : goal.returns-clause-none
unfolding encode chars is_z is_break is_breakz is_blank is_blank_or_breakz is_digit is_hex hex_value is_word_char
    is_alpha is_flow is_bom is_printable is_yaml_non_break is_yaml_non_space is_anchor_char is_uri_sign is_uri_char
    is_tag_char step past steps turns pieces escaped_byte bytes_behind trailing_bytes uri_turn tag_ends tag_at name_at
    version_number minor_number handle_by handle_at prefix_at parameter_behind directive_of directive_at
returns-clause-none c = refl

pub returns-clause-blank : goal.returns-clause-blank
unfolding encode chars is_z is_break is_breakz is_blank is_blank_or_breakz is_digit is_hex hex_value is_word_char
    is_alpha is_flow is_bom is_printable is_yaml_non_break is_yaml_non_space is_anchor_char is_uri_sign is_uri_char
    is_tag_char step past steps turns pieces escaped_byte bytes_behind trailing_bytes uri_turn tag_ends tag_at name_at
    version_number minor_number handle_by handle_at prefix_at parameter_behind directive_of directive_at
returns-clause-blank c = refl

pub returns-clause-alias_none : goal.returns-clause-alias_none
unfolding encode chars is_z is_break is_breakz is_blank is_blank_or_breakz is_digit is_hex hex_value is_word_char
    is_alpha is_flow is_bom is_printable is_yaml_non_break is_yaml_non_space is_anchor_char is_uri_sign is_uri_char
    is_tag_char step past steps turns pieces escaped_byte bytes_behind trailing_bytes uri_turn tag_ends tag_at name_at
    version_number minor_number handle_by handle_at prefix_at parameter_behind directive_of directive_at
returns-clause-alias_none c = refl

pub returns-clause-comma : goal.returns-clause-comma
unfolding encode chars is_z is_break is_breakz is_blank is_blank_or_breakz is_digit is_hex hex_value is_word_char
    is_alpha is_flow is_bom is_printable is_yaml_non_break is_yaml_non_space is_anchor_char is_uri_sign is_uri_char
    is_tag_char step past steps turns pieces escaped_byte bytes_behind trailing_bytes uri_turn tag_ends tag_at name_at
    version_number minor_number handle_by handle_at prefix_at parameter_behind directive_of directive_at
returns-clause-comma c = refl

pub returns-clause-curly : goal.returns-clause-curly
unfolding encode chars is_z is_break is_breakz is_blank is_blank_or_breakz is_digit is_hex hex_value is_word_char
    is_alpha is_flow is_bom is_printable is_yaml_non_break is_yaml_non_space is_anchor_char is_uri_sign is_uri_char
    is_tag_char step past steps turns pieces escaped_byte bytes_behind trailing_bytes uri_turn tag_ends tag_at name_at
    version_number minor_number handle_by handle_at prefix_at parameter_behind directive_of directive_at
returns-clause-curly c = refl

pub returns-clause-bom : goal.returns-clause-bom
unfolding encode chars is_z is_break is_breakz is_blank is_blank_or_breakz is_digit is_hex hex_value is_word_char
    is_alpha is_flow is_bom is_printable is_yaml_non_break is_yaml_non_space is_anchor_char is_uri_sign is_uri_char
    is_tag_char step past steps turns pieces escaped_byte bytes_behind trailing_bytes uri_turn tag_ends tag_at name_at
    version_number minor_number handle_by handle_at prefix_at parameter_behind directive_of directive_at
returns-clause-bom c = refl

pub returns-clause-dot : goal.returns-clause-dot
unfolding encode chars is_z is_break is_breakz is_blank is_blank_or_breakz is_digit is_hex hex_value is_word_char
    is_alpha is_flow is_bom is_printable is_yaml_non_break is_yaml_non_space is_anchor_char is_uri_sign is_uri_char
    is_tag_char step past steps turns pieces escaped_byte bytes_behind trailing_bytes uri_turn tag_ends tag_at name_at
    version_number minor_number handle_by handle_at prefix_at parameter_behind directive_of directive_at
returns-clause-dot c = refl
