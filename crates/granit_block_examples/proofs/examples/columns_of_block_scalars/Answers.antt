-- Each example is a computation.
use Rattle.std.proofs.Common.{refl}
use lib.Utf8.{encode}
use Rattle.std.specs.Fmt.{digits}
use Rattle.granit_base.specs.Classes.{is_z, is_break, is_breakz, is_blank, is_blank_or_breakz, is_digit, is_hex}
use Rattle.granit_base.specs.Classes.{is_word_char, is_alpha, is_flow, is_bom, is_printable, is_yaml_non_break}
use Rattle.granit_base.specs.Classes.{is_yaml_non_space, is_anchor_char, is_uri_sign, is_uri_char, is_tag_char, is_gap}
use Rattle.granit_lexemes.specs.Here.{step, past}
use Rattle.granit_lexemes.specs.Moves.{steps}
use Rattle.granit_lexemes.specs.Basics.{past_break}
use Rattle.granit_lexemes.specs.Comment.{behind_comment, skipped_comment, comment}
use Rattle.granit_lexemes.specs.Pieces.{turns, pieces}
use Rattle.granit_lexemes.specs.Line.{quoted_char}
use Rattle.granit_lexemes.specs.BlockHeader.{header_sign, block_header, leading_turn, content_column}
use Rattle.granit_lexemes.specs.BlockScalar.{over_spaces, empty_turn, line_up_to, block_turn, is_white, behind_block}
use Rattle.granit_lexemes.specs.BlockScalar.{content_lines, block_lines, block_body, block_scalar}
use Rattle.granit_lexemes.specs.Tail.{tail_behind}
use Rattle.granit_block_examples.proofs.examples.columns_of_block_scalars.Goals as goal

pub returns-clause-one : goal.returns-clause-one
unfolding is_z is_break is_breakz is_blank is_blank_or_breakz is_digit is_hex is_word_char is_alpha is_flow is_bom
    is_printable is_yaml_non_break is_yaml_non_space is_anchor_char is_uri_sign is_uri_char is_tag_char is_gap step past
    steps past_break behind_comment skipped_comment comment turns pieces quoted_char header_sign block_header
    leading_turn content_column over_spaces empty_turn line_up_to block_turn is_white behind_block content_lines
    block_lines block_body tail_behind block_scalar digits encode
returns-clause-one c = refl

pub returns-clause-deep : goal.returns-clause-deep
unfolding is_z is_break is_breakz is_blank is_blank_or_breakz is_digit is_hex is_word_char is_alpha is_flow is_bom
    is_printable is_yaml_non_break is_yaml_non_space is_anchor_char is_uri_sign is_uri_char is_tag_char is_gap step past
    steps past_break behind_comment skipped_comment comment turns pieces quoted_char header_sign block_header
    leading_turn content_column over_spaces empty_turn line_up_to block_turn is_white behind_block content_lines
    block_lines block_body tail_behind block_scalar digits encode
returns-clause-deep c = refl

pub returns-clause-leading : goal.returns-clause-leading
unfolding is_z is_break is_breakz is_blank is_blank_or_breakz is_digit is_hex is_word_char is_alpha is_flow is_bom
    is_printable is_yaml_non_break is_yaml_non_space is_anchor_char is_uri_sign is_uri_char is_tag_char is_gap step past
    steps past_break behind_comment skipped_comment comment turns pieces quoted_char header_sign block_header
    leading_turn content_column over_spaces empty_turn line_up_to block_turn is_white behind_block content_lines
    block_lines block_body tail_behind block_scalar digits encode
returns-clause-leading c = refl

pub returns-clause-leading_same : goal.returns-clause-leading_same
unfolding is_z is_break is_breakz is_blank is_blank_or_breakz is_digit is_hex is_word_char is_alpha is_flow is_bom
    is_printable is_yaml_non_break is_yaml_non_space is_anchor_char is_uri_sign is_uri_char is_tag_char is_gap step past
    steps past_break behind_comment skipped_comment comment turns pieces quoted_char header_sign block_header
    leading_turn content_column over_spaces empty_turn line_up_to block_turn is_white behind_block content_lines
    block_lines block_body tail_behind block_scalar digits encode
returns-clause-leading_same c = refl

pub returns-clause-tab_inside : goal.returns-clause-tab_inside
unfolding is_z is_break is_breakz is_blank is_blank_or_breakz is_digit is_hex is_word_char is_alpha is_flow is_bom
    is_printable is_yaml_non_break is_yaml_non_space is_anchor_char is_uri_sign is_uri_char is_tag_char is_gap step past
    steps past_break behind_comment skipped_comment comment turns pieces quoted_char header_sign block_header
    leading_turn content_column over_spaces empty_turn line_up_to block_turn is_white behind_block content_lines
    block_lines block_body tail_behind block_scalar digits encode
returns-clause-tab_inside c = refl

pub returns-clause-root_zero : goal.returns-clause-root_zero
unfolding is_z is_break is_breakz is_blank is_blank_or_breakz is_digit is_hex is_word_char is_alpha is_flow is_bom
    is_printable is_yaml_non_break is_yaml_non_space is_anchor_char is_uri_sign is_uri_char is_tag_char is_gap step past
    steps past_break behind_comment skipped_comment comment turns pieces quoted_char header_sign block_header
    leading_turn content_column over_spaces empty_turn line_up_to block_turn is_white behind_block content_lines
    block_lines block_body tail_behind block_scalar digits encode
returns-clause-root_zero c = refl

pub returns-clause-root_one : goal.returns-clause-root_one
unfolding is_z is_break is_breakz is_blank is_blank_or_breakz is_digit is_hex is_word_char is_alpha is_flow is_bom
    is_printable is_yaml_non_break is_yaml_non_space is_anchor_char is_uri_sign is_uri_char is_tag_char is_gap step past
    steps past_break behind_comment skipped_comment comment turns pieces quoted_char header_sign block_header
    leading_turn content_column over_spaces empty_turn line_up_to block_turn is_white behind_block content_lines
    block_lines block_body tail_behind block_scalar digits encode
returns-clause-root_one c = refl

pub returns-clause-left_ends : goal.returns-clause-left_ends
unfolding is_z is_break is_breakz is_blank is_blank_or_breakz is_digit is_hex is_word_char is_alpha is_flow is_bom
    is_printable is_yaml_non_break is_yaml_non_space is_anchor_char is_uri_sign is_uri_char is_tag_char is_gap step past
    steps past_break behind_comment skipped_comment comment turns pieces quoted_char header_sign block_header
    leading_turn content_column over_spaces empty_turn line_up_to block_turn is_white behind_block content_lines
    block_lines block_body tail_behind block_scalar digits encode
returns-clause-left_ends c = refl

pub returns-clause-left_spaces : goal.returns-clause-left_spaces
unfolding is_z is_break is_breakz is_blank is_blank_or_breakz is_digit is_hex is_word_char is_alpha is_flow is_bom
    is_printable is_yaml_non_break is_yaml_non_space is_anchor_char is_uri_sign is_uri_char is_tag_char is_gap step past
    steps past_break behind_comment skipped_comment comment turns pieces quoted_char header_sign block_header
    leading_turn content_column over_spaces empty_turn line_up_to block_turn is_white behind_block content_lines
    block_lines block_body tail_behind block_scalar digits encode
returns-clause-left_spaces c = refl

pub returns-clause-less_ends : goal.returns-clause-less_ends
unfolding is_z is_break is_breakz is_blank is_blank_or_breakz is_digit is_hex is_word_char is_alpha is_flow is_bom
    is_printable is_yaml_non_break is_yaml_non_space is_anchor_char is_uri_sign is_uri_char is_tag_char is_gap step past
    steps past_break behind_comment skipped_comment comment turns pieces quoted_char header_sign block_header
    leading_turn content_column over_spaces empty_turn line_up_to block_turn is_white behind_block content_lines
    block_lines block_body tail_behind block_scalar digits encode
returns-clause-less_ends c = refl

pub returns-clause-digit_in : goal.returns-clause-digit_in
unfolding is_z is_break is_breakz is_blank is_blank_or_breakz is_digit is_hex is_word_char is_alpha is_flow is_bom
    is_printable is_yaml_non_break is_yaml_non_space is_anchor_char is_uri_sign is_uri_char is_tag_char is_gap step past
    steps past_break behind_comment skipped_comment comment turns pieces quoted_char header_sign block_header
    leading_turn content_column over_spaces empty_turn line_up_to block_turn is_white behind_block content_lines
    block_lines block_body tail_behind block_scalar digits encode
returns-clause-digit_in c = refl

pub returns-clause-spaces_at_end : goal.returns-clause-spaces_at_end
unfolding is_z is_break is_breakz is_blank is_blank_or_breakz is_digit is_hex is_word_char is_alpha is_flow is_bom
    is_printable is_yaml_non_break is_yaml_non_space is_anchor_char is_uri_sign is_uri_char is_tag_char is_gap step past
    steps past_break behind_comment skipped_comment comment turns pieces quoted_char header_sign block_header
    leading_turn content_column over_spaces empty_turn line_up_to block_turn is_white behind_block content_lines
    block_lines block_body tail_behind block_scalar digits encode
returns-clause-spaces_at_end c = refl

pub returns-clause-dashes : goal.returns-clause-dashes
unfolding is_z is_break is_breakz is_blank is_blank_or_breakz is_digit is_hex is_word_char is_alpha is_flow is_bom
    is_printable is_yaml_non_break is_yaml_non_space is_anchor_char is_uri_sign is_uri_char is_tag_char is_gap step past
    steps past_break behind_comment skipped_comment comment turns pieces quoted_char header_sign block_header
    leading_turn content_column over_spaces empty_turn line_up_to block_turn is_white behind_block content_lines
    block_lines block_body tail_behind block_scalar digits encode
returns-clause-dashes c = refl

pub returns-clause-dots : goal.returns-clause-dots
unfolding is_z is_break is_breakz is_blank is_blank_or_breakz is_digit is_hex is_word_char is_alpha is_flow is_bom
    is_printable is_yaml_non_break is_yaml_non_space is_anchor_char is_uri_sign is_uri_char is_tag_char is_gap step past
    steps past_break behind_comment skipped_comment comment turns pieces quoted_char header_sign block_header
    leading_turn content_column over_spaces empty_turn line_up_to block_turn is_white behind_block content_lines
    block_lines block_body tail_behind block_scalar digits encode
returns-clause-dots c = refl

pub returns-clause-dashes_in : goal.returns-clause-dashes_in
unfolding is_z is_break is_breakz is_blank is_blank_or_breakz is_digit is_hex is_word_char is_alpha is_flow is_bom
    is_printable is_yaml_non_break is_yaml_non_space is_anchor_char is_uri_sign is_uri_char is_tag_char is_gap step past
    steps past_break behind_comment skipped_comment comment turns pieces quoted_char header_sign block_header
    leading_turn content_column over_spaces empty_turn line_up_to block_turn is_white behind_block content_lines
    block_lines block_body tail_behind block_scalar digits encode
returns-clause-dashes_in c = refl

pub returns-clause-dashes_no_mark : goal.returns-clause-dashes_no_mark
unfolding is_z is_break is_breakz is_blank is_blank_or_breakz is_digit is_hex is_word_char is_alpha is_flow is_bom
    is_printable is_yaml_non_break is_yaml_non_space is_anchor_char is_uri_sign is_uri_char is_tag_char is_gap step past
    steps past_break behind_comment skipped_comment comment turns pieces quoted_char header_sign block_header
    leading_turn content_column over_spaces empty_turn line_up_to block_turn is_white behind_block content_lines
    block_lines block_body tail_behind block_scalar digits encode
returns-clause-dashes_no_mark c = refl

pub returns-clause-dashes_first : goal.returns-clause-dashes_first
unfolding is_z is_break is_breakz is_blank is_blank_or_breakz is_digit is_hex is_word_char is_alpha is_flow is_bom
    is_printable is_yaml_non_break is_yaml_non_space is_anchor_char is_uri_sign is_uri_char is_tag_char is_gap step past
    steps past_break behind_comment skipped_comment comment turns pieces quoted_char header_sign block_header
    leading_turn content_column over_spaces empty_turn line_up_to block_turn is_white behind_block content_lines
    block_lines block_body tail_behind block_scalar digits encode
returns-clause-dashes_first c = refl

pub returns-clause-hash : goal.returns-clause-hash
unfolding is_z is_break is_breakz is_blank is_blank_or_breakz is_digit is_hex is_word_char is_alpha is_flow is_bom
    is_printable is_yaml_non_break is_yaml_non_space is_anchor_char is_uri_sign is_uri_char is_tag_char is_gap step past
    steps past_break behind_comment skipped_comment comment turns pieces quoted_char header_sign block_header
    leading_turn content_column over_spaces empty_turn line_up_to block_turn is_white behind_block content_lines
    block_lines block_body tail_behind block_scalar digits encode
returns-clause-hash c = refl

pub returns-clause-hash_root : goal.returns-clause-hash_root
unfolding is_z is_break is_breakz is_blank is_blank_or_breakz is_digit is_hex is_word_char is_alpha is_flow is_bom
    is_printable is_yaml_non_break is_yaml_non_space is_anchor_char is_uri_sign is_uri_char is_tag_char is_gap step past
    steps past_break behind_comment skipped_comment comment turns pieces quoted_char header_sign block_header
    leading_turn content_column over_spaces empty_turn line_up_to block_turn is_white behind_block content_lines
    block_lines block_body tail_behind block_scalar digits encode
returns-clause-hash_root c = refl

pub returns-clause-colon : goal.returns-clause-colon
unfolding is_z is_break is_breakz is_blank is_blank_or_breakz is_digit is_hex is_word_char is_alpha is_flow is_bom
    is_printable is_yaml_non_break is_yaml_non_space is_anchor_char is_uri_sign is_uri_char is_tag_char is_gap step past
    steps past_break behind_comment skipped_comment comment turns pieces quoted_char header_sign block_header
    leading_turn content_column over_spaces empty_turn line_up_to block_turn is_white behind_block content_lines
    block_lines block_body tail_behind block_scalar digits encode
returns-clause-colon c = refl
