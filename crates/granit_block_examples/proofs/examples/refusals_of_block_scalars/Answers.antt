-- Each example is a computation.
use Rattle.std.proofs.Common.{refl}
use lib.Utf8.{encode}
use Rattle.std.specs.Fmt.{digits}
use Rattle.granit_base.specs.Classes.{is_z, is_break, is_breakz, is_blank, is_blank_or_breakz, is_digit, is_hex}
use Rattle.granit_base.specs.Classes.{is_word_char, is_alpha, is_flow, is_bom, is_printable, is_yaml_non_break}
use Rattle.granit_base.specs.Classes.{is_yaml_non_space, is_anchor_char, is_uri_sign, is_uri_char, is_tag_char, is_gap}
use Rattle.granit_lexemes.specs.Here.{step, past}
use Rattle.granit_lexemes.specs.Moves.{steps}
use Rattle.granit_lexemes.specs.Basics.{past_break}
use Rattle.granit_lexemes.specs.Comment.{behind_comment, skipped_comment, comment}
use Rattle.granit_lexemes.specs.Pieces.{turns, pieces}
use Rattle.granit_lexemes.specs.Line.{quoted_char}
use Rattle.granit_lexemes.specs.BlockHeader.{header_sign, block_header, leading_turn, content_column}
use Rattle.granit_lexemes.specs.BlockScalar.{over_spaces, empty_turn, line_up_to, block_turn, is_white, behind_block}
use Rattle.granit_lexemes.specs.BlockScalar.{content_lines, block_lines, block_body, block_scalar}
use Rattle.granit_lexemes.specs.Tail.{tail_behind}
use Rattle.granit_block_examples.proofs.examples.refusals_of_block_scalars.Goals as goal

pub returns-clause-zero : goal.returns-clause-zero
unfolding is_z is_break is_breakz is_blank is_blank_or_breakz is_digit is_hex is_word_char is_alpha is_flow is_bom
    is_printable is_yaml_non_break is_yaml_non_space is_anchor_char is_uri_sign is_uri_char is_tag_char is_gap step past
    steps past_break behind_comment skipped_comment comment turns pieces quoted_char header_sign block_header
    leading_turn content_column over_spaces empty_turn line_up_to block_turn is_white behind_block content_lines
    block_lines block_body tail_behind block_scalar digits encode
returns-clause-zero c = refl

pub returns-clause-zero_behind_sign : goal.returns-clause-zero_behind_sign
unfolding is_z is_break is_breakz is_blank is_blank_or_breakz is_digit is_hex is_word_char is_alpha is_flow is_bom
    is_printable is_yaml_non_break is_yaml_non_space is_anchor_char is_uri_sign is_uri_char is_tag_char is_gap step past
    steps past_break behind_comment skipped_comment comment turns pieces quoted_char header_sign block_header
    leading_turn content_column over_spaces empty_turn line_up_to block_turn is_white behind_block content_lines
    block_lines block_body tail_behind block_scalar digits encode
returns-clause-zero_behind_sign c = refl

pub returns-clause-zero_before_content : goal.returns-clause-zero_before_content
unfolding is_z is_break is_breakz is_blank is_blank_or_breakz is_digit is_hex is_word_char is_alpha is_flow is_bom
    is_printable is_yaml_non_break is_yaml_non_space is_anchor_char is_uri_sign is_uri_char is_tag_char is_gap step past
    steps past_break behind_comment skipped_comment comment turns pieces quoted_char header_sign block_header
    leading_turn content_column over_spaces empty_turn line_up_to block_turn is_white behind_block content_lines
    block_lines block_body tail_behind block_scalar digits encode
returns-clause-zero_before_content c = refl

pub returns-clause-content : goal.returns-clause-content
unfolding is_z is_break is_breakz is_blank is_blank_or_breakz is_digit is_hex is_word_char is_alpha is_flow is_bom
    is_printable is_yaml_non_break is_yaml_non_space is_anchor_char is_uri_sign is_uri_char is_tag_char is_gap step past
    steps past_break behind_comment skipped_comment comment turns pieces quoted_char header_sign block_header
    leading_turn content_column over_spaces empty_turn line_up_to block_turn is_white behind_block content_lines
    block_lines block_body tail_behind block_scalar digits encode
returns-clause-content c = refl

pub returns-clause-two_signs : goal.returns-clause-two_signs
unfolding is_z is_break is_breakz is_blank is_blank_or_breakz is_digit is_hex is_word_char is_alpha is_flow is_bom
    is_printable is_yaml_non_break is_yaml_non_space is_anchor_char is_uri_sign is_uri_char is_tag_char is_gap step past
    steps past_break behind_comment skipped_comment comment turns pieces quoted_char header_sign block_header
    leading_turn content_column over_spaces empty_turn line_up_to block_turn is_white behind_block content_lines
    block_lines block_body tail_behind block_scalar digits encode
returns-clause-two_signs c = refl

pub returns-clause-two_digits : goal.returns-clause-two_digits
unfolding is_z is_break is_breakz is_blank is_blank_or_breakz is_digit is_hex is_word_char is_alpha is_flow is_bom
    is_printable is_yaml_non_break is_yaml_non_space is_anchor_char is_uri_sign is_uri_char is_tag_char is_gap step past
    steps past_break behind_comment skipped_comment comment turns pieces quoted_char header_sign block_header
    leading_turn content_column over_spaces empty_turn line_up_to block_turn is_white behind_block content_lines
    block_lines block_body tail_behind block_scalar digits encode
returns-clause-two_digits c = refl

pub returns-clause-zero_behind_digit : goal.returns-clause-zero_behind_digit
unfolding is_z is_break is_breakz is_blank is_blank_or_breakz is_digit is_hex is_word_char is_alpha is_flow is_bom
    is_printable is_yaml_non_break is_yaml_non_space is_anchor_char is_uri_sign is_uri_char is_tag_char is_gap step past
    steps past_break behind_comment skipped_comment comment turns pieces quoted_char header_sign block_header
    leading_turn content_column over_spaces empty_turn line_up_to block_turn is_white behind_block content_lines
    block_lines block_body tail_behind block_scalar digits encode
returns-clause-zero_behind_digit c = refl

pub returns-clause-tab : goal.returns-clause-tab
unfolding is_z is_break is_breakz is_blank is_blank_or_breakz is_digit is_hex is_word_char is_alpha is_flow is_bom
    is_printable is_yaml_non_break is_yaml_non_space is_anchor_char is_uri_sign is_uri_char is_tag_char is_gap step past
    steps past_break behind_comment skipped_comment comment turns pieces quoted_char header_sign block_header
    leading_turn content_column over_spaces empty_turn line_up_to block_turn is_white behind_block content_lines
    block_lines block_body tail_behind block_scalar digits encode
returns-clause-tab c = refl

pub returns-clause-tab_behind_space : goal.returns-clause-tab_behind_space
unfolding is_z is_break is_breakz is_blank is_blank_or_breakz is_digit is_hex is_word_char is_alpha is_flow is_bom
    is_printable is_yaml_non_break is_yaml_non_space is_anchor_char is_uri_sign is_uri_char is_tag_char is_gap step past
    steps past_break behind_comment skipped_comment comment turns pieces quoted_char header_sign block_header
    leading_turn content_column over_spaces empty_turn line_up_to block_turn is_white behind_block content_lines
    block_lines block_body tail_behind block_scalar digits encode
returns-clause-tab_behind_space c = refl

pub returns-clause-left : goal.returns-clause-left
unfolding is_z is_break is_breakz is_blank is_blank_or_breakz is_digit is_hex is_word_char is_alpha is_flow is_bom
    is_printable is_yaml_non_break is_yaml_non_space is_anchor_char is_uri_sign is_uri_char is_tag_char is_gap step past
    steps past_break behind_comment skipped_comment comment turns pieces quoted_char header_sign block_header
    leading_turn content_column over_spaces empty_turn line_up_to block_turn is_white behind_block content_lines
    block_lines block_body tail_behind block_scalar digits encode
returns-clause-left c = refl

pub returns-clause-left_leading : goal.returns-clause-left_leading
unfolding is_z is_break is_breakz is_blank is_blank_or_breakz is_digit is_hex is_word_char is_alpha is_flow is_bom
    is_printable is_yaml_non_break is_yaml_non_space is_anchor_char is_uri_sign is_uri_char is_tag_char is_gap step past
    steps past_break behind_comment skipped_comment comment turns pieces quoted_char header_sign block_header
    leading_turn content_column over_spaces empty_turn line_up_to block_turn is_white behind_block content_lines
    block_lines block_body tail_behind block_scalar digits encode
returns-clause-left_leading c = refl

pub returns-clause-left_root : goal.returns-clause-left_root
unfolding is_z is_break is_breakz is_blank is_blank_or_breakz is_digit is_hex is_word_char is_alpha is_flow is_bom
    is_printable is_yaml_non_break is_yaml_non_space is_anchor_char is_uri_sign is_uri_char is_tag_char is_gap step past
    steps past_break behind_comment skipped_comment comment turns pieces quoted_char header_sign block_header
    leading_turn content_column over_spaces empty_turn line_up_to block_turn is_white behind_block content_lines
    block_lines block_body tail_behind block_scalar digits encode
returns-clause-left_root c = refl

pub returns-clause-left_root_zero : goal.returns-clause-left_root_zero
unfolding is_z is_break is_breakz is_blank is_blank_or_breakz is_digit is_hex is_word_char is_alpha is_flow is_bom
    is_printable is_yaml_non_break is_yaml_non_space is_anchor_char is_uri_sign is_uri_char is_tag_char is_gap step past
    steps past_break behind_comment skipped_comment comment turns pieces quoted_char header_sign block_header
    leading_turn content_column over_spaces empty_turn line_up_to block_turn is_white behind_block content_lines
    block_lines block_body tail_behind block_scalar digits encode
returns-clause-left_root_zero c = refl

pub returns-clause-root_mark : goal.returns-clause-root_mark
unfolding is_z is_break is_breakz is_blank is_blank_or_breakz is_digit is_hex is_word_char is_alpha is_flow is_bom
    is_printable is_yaml_non_break is_yaml_non_space is_anchor_char is_uri_sign is_uri_char is_tag_char is_gap step past
    steps past_break behind_comment skipped_comment comment turns pieces quoted_char header_sign block_header
    leading_turn content_column over_spaces empty_turn line_up_to block_turn is_white behind_block content_lines
    block_lines block_body tail_behind block_scalar digits encode
returns-clause-root_mark c = refl

pub returns-clause-root_hash : goal.returns-clause-root_hash
unfolding is_z is_break is_breakz is_blank is_blank_or_breakz is_digit is_hex is_word_char is_alpha is_flow is_bom
    is_printable is_yaml_non_break is_yaml_non_space is_anchor_char is_uri_sign is_uri_char is_tag_char is_gap step past
    steps past_break behind_comment skipped_comment comment turns pieces quoted_char header_sign block_header
    leading_turn content_column over_spaces empty_turn line_up_to block_turn is_white behind_block content_lines
    block_lines block_body tail_behind block_scalar digits encode
returns-clause-root_hash c = refl

pub returns-clause-touching : goal.returns-clause-touching
unfolding is_z is_break is_breakz is_blank is_blank_or_breakz is_digit is_hex is_word_char is_alpha is_flow is_bom
    is_printable is_yaml_non_break is_yaml_non_space is_anchor_char is_uri_sign is_uri_char is_tag_char is_gap step past
    steps past_break behind_comment skipped_comment comment turns pieces quoted_char header_sign block_header
    leading_turn content_column over_spaces empty_turn line_up_to block_turn is_white behind_block content_lines
    block_lines block_body tail_behind block_scalar digits encode
returns-clause-touching c = refl

pub returns-clause-touching_sign : goal.returns-clause-touching_sign
unfolding is_z is_break is_breakz is_blank is_blank_or_breakz is_digit is_hex is_word_char is_alpha is_flow is_bom
    is_printable is_yaml_non_break is_yaml_non_space is_anchor_char is_uri_sign is_uri_char is_tag_char is_gap step past
    steps past_break behind_comment skipped_comment comment turns pieces quoted_char header_sign block_header
    leading_turn content_column over_spaces empty_turn line_up_to block_turn is_white behind_block content_lines
    block_lines block_body tail_behind block_scalar digits encode
returns-clause-touching_sign c = refl

pub returns-clause-comment_strange : goal.returns-clause-comment_strange
unfolding is_z is_break is_breakz is_blank is_blank_or_breakz is_digit is_hex is_word_char is_alpha is_flow is_bom
    is_printable is_yaml_non_break is_yaml_non_space is_anchor_char is_uri_sign is_uri_char is_tag_char is_gap step past
    steps past_break behind_comment skipped_comment comment turns pieces quoted_char header_sign block_header
    leading_turn content_column over_spaces empty_turn line_up_to block_turn is_white behind_block content_lines
    block_lines block_body tail_behind block_scalar digits encode
returns-clause-comment_strange c = refl

pub returns-clause-strange : goal.returns-clause-strange
unfolding is_z is_break is_breakz is_blank is_blank_or_breakz is_digit is_hex is_word_char is_alpha is_flow is_bom
    is_printable is_yaml_non_break is_yaml_non_space is_anchor_char is_uri_sign is_uri_char is_tag_char is_gap step past
    steps past_break behind_comment skipped_comment comment turns pieces quoted_char header_sign block_header
    leading_turn content_column over_spaces empty_turn line_up_to block_turn is_white behind_block content_lines
    block_lines block_body tail_behind block_scalar digits encode
returns-clause-strange c = refl

pub returns-clause-nul : goal.returns-clause-nul
unfolding is_z is_break is_breakz is_blank is_blank_or_breakz is_digit is_hex is_word_char is_alpha is_flow is_bom
    is_printable is_yaml_non_break is_yaml_non_space is_anchor_char is_uri_sign is_uri_char is_tag_char is_gap step past
    steps past_break behind_comment skipped_comment comment turns pieces quoted_char header_sign block_header
    leading_turn content_column over_spaces empty_turn line_up_to block_turn is_white behind_block content_lines
    block_lines block_body tail_behind block_scalar digits encode
returns-clause-nul c = refl

pub returns-clause-first : goal.returns-clause-first
unfolding is_z is_break is_breakz is_blank is_blank_or_breakz is_digit is_hex is_word_char is_alpha is_flow is_bom
    is_printable is_yaml_non_break is_yaml_non_space is_anchor_char is_uri_sign is_uri_char is_tag_char is_gap step past
    steps past_break behind_comment skipped_comment comment turns pieces quoted_char header_sign block_header
    leading_turn content_column over_spaces empty_turn line_up_to block_turn is_white behind_block content_lines
    block_lines block_body tail_behind block_scalar digits encode
returns-clause-first c = refl

pub returns-clause-first_nul : goal.returns-clause-first_nul
unfolding is_z is_break is_breakz is_blank is_blank_or_breakz is_digit is_hex is_word_char is_alpha is_flow is_bom
    is_printable is_yaml_non_break is_yaml_non_space is_anchor_char is_uri_sign is_uri_char is_tag_char is_gap step past
    steps past_break behind_comment skipped_comment comment turns pieces quoted_char header_sign block_header
    leading_turn content_column over_spaces empty_turn line_up_to block_turn is_white behind_block content_lines
    block_lines block_body tail_behind block_scalar digits encode
returns-clause-first_nul c = refl

pub returns-clause-at_content : goal.returns-clause-at_content
unfolding is_z is_break is_breakz is_blank is_blank_or_breakz is_digit is_hex is_word_char is_alpha is_flow is_bom
    is_printable is_yaml_non_break is_yaml_non_space is_anchor_char is_uri_sign is_uri_char is_tag_char is_gap step past
    steps past_break behind_comment skipped_comment comment turns pieces quoted_char header_sign block_header
    leading_turn content_column over_spaces empty_turn line_up_to block_turn is_white behind_block content_lines
    block_lines block_body tail_behind block_scalar digits encode
returns-clause-at_content c = refl

pub returns-clause-inside : goal.returns-clause-inside
unfolding is_z is_break is_breakz is_blank is_blank_or_breakz is_digit is_hex is_word_char is_alpha is_flow is_bom
    is_printable is_yaml_non_break is_yaml_non_space is_anchor_char is_uri_sign is_uri_char is_tag_char is_gap step past
    steps past_break behind_comment skipped_comment comment turns pieces quoted_char header_sign block_header
    leading_turn content_column over_spaces empty_turn line_up_to block_turn is_white behind_block content_lines
    block_lines block_body tail_behind block_scalar digits encode
returns-clause-inside c = refl

pub returns-clause-inside_nul : goal.returns-clause-inside_nul
unfolding is_z is_break is_breakz is_blank is_blank_or_breakz is_digit is_hex is_word_char is_alpha is_flow is_bom
    is_printable is_yaml_non_break is_yaml_non_space is_anchor_char is_uri_sign is_uri_char is_tag_char is_gap step past
    steps past_break behind_comment skipped_comment comment turns pieces quoted_char header_sign block_header
    leading_turn content_column over_spaces empty_turn line_up_to block_turn is_white behind_block content_lines
    block_lines block_body tail_behind block_scalar digits encode
returns-clause-inside_nul c = refl

pub returns-clause-behind : goal.returns-clause-behind
unfolding is_z is_break is_breakz is_blank is_blank_or_breakz is_digit is_hex is_word_char is_alpha is_flow is_bom
    is_printable is_yaml_non_break is_yaml_non_space is_anchor_char is_uri_sign is_uri_char is_tag_char is_gap step past
    steps past_break behind_comment skipped_comment comment turns pieces quoted_char header_sign block_header
    leading_turn content_column over_spaces empty_turn line_up_to block_turn is_white behind_block content_lines
    block_lines block_body tail_behind block_scalar digits encode
returns-clause-behind c = refl

pub returns-clause-second_line : goal.returns-clause-second_line
unfolding is_z is_break is_breakz is_blank is_blank_or_breakz is_digit is_hex is_word_char is_alpha is_flow is_bom
    is_printable is_yaml_non_break is_yaml_non_space is_anchor_char is_uri_sign is_uri_char is_tag_char is_gap step past
    steps past_break behind_comment skipped_comment comment turns pieces quoted_char header_sign block_header
    leading_turn content_column over_spaces empty_turn line_up_to block_turn is_white behind_block content_lines
    block_lines block_body tail_behind block_scalar digits encode
returns-clause-second_line c = refl

pub returns-clause-two_strange : goal.returns-clause-two_strange
unfolding is_z is_break is_breakz is_blank is_blank_or_breakz is_digit is_hex is_word_char is_alpha is_flow is_bom
    is_printable is_yaml_non_break is_yaml_non_space is_anchor_char is_uri_sign is_uri_char is_tag_char is_gap step past
    steps past_break behind_comment skipped_comment comment turns pieces quoted_char header_sign block_header
    leading_turn content_column over_spaces empty_turn line_up_to block_turn is_white behind_block content_lines
    block_lines block_body tail_behind block_scalar digits encode
returns-clause-two_strange c = refl

pub returns-clause-bom : goal.returns-clause-bom
unfolding is_z is_break is_breakz is_blank is_blank_or_breakz is_digit is_hex is_word_char is_alpha is_flow is_bom
    is_printable is_yaml_non_break is_yaml_non_space is_anchor_char is_uri_sign is_uri_char is_tag_char is_gap step past
    steps past_break behind_comment skipped_comment comment turns pieces quoted_char header_sign block_header
    leading_turn content_column over_spaces empty_turn line_up_to block_turn is_white behind_block content_lines
    block_lines block_body tail_behind block_scalar digits encode
returns-clause-bom c = refl
