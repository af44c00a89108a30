-- Each example is a computation.
use Rattle.std.proofs.Common.{refl}
use lib.Utf8.{encode}
use Rattle.std.specs.Fmt.{digits}
use Rattle.granit_base.specs.Classes.{is_z, is_break, is_breakz, is_blank, is_blank_or_breakz, is_digit, is_hex}
use Rattle.granit_base.specs.Classes.{is_word_char, is_alpha, is_flow, is_bom, is_printable, is_yaml_non_break}
use Rattle.granit_base.specs.Classes.{is_yaml_non_space, is_anchor_char, is_uri_sign, is_uri_char, is_tag_char, is_gap}
use Rattle.granit_lexemes.specs.Here.{step, past}
use Rattle.granit_lexemes.specs.Moves.{steps}
use Rattle.granit_lexemes.specs.Basics.{past_break}
use Rattle.granit_lexemes.specs.Comment.{behind_comment, skipped_comment, comment}
use Rattle.granit_lexemes.specs.Pieces.{turns, pieces}
use Rattle.granit_lexemes.specs.Line.{quoted_char}
use Rattle.granit_lexemes.specs.BlockHeader.{header_sign, block_header, leading_turn, content_column}
use Rattle.granit_lexemes.specs.BlockScalar.{over_spaces, empty_turn, line_up_to, block_turn, is_white, behind_block}
use Rattle.granit_lexemes.specs.BlockScalar.{content_lines, block_lines, block_body, block_scalar}
use Rattle.granit_lexemes.specs.Tail.{tail_behind}
use Rattle.granit_block_examples.proofs.examples.folds_of_block_scalars.Goals as goal

pub returns-clause-one : goal.returns-clause-one
unfolding is_z is_break is_breakz is_blank is_blank_or_breakz is_digit is_hex is_word_char is_alpha is_flow is_bom
    is_printable is_yaml_non_break is_yaml_non_space is_anchor_char is_uri_sign is_uri_char is_tag_char is_gap step past
    steps past_break behind_comment skipped_comment comment turns pieces quoted_char header_sign block_header
    leading_turn content_column over_spaces empty_turn line_up_to block_turn is_white behind_block content_lines
    block_lines block_body tail_behind block_scalar digits encode
returns-clause-one c = refl

pub returns-clause-two : goal.returns-clause-two
unfolding is_z is_break is_breakz is_blank is_blank_or_breakz is_digit is_hex is_word_char is_alpha is_flow is_bom
    is_printable is_yaml_non_break is_yaml_non_space is_anchor_char is_uri_sign is_uri_char is_tag_char is_gap step past
    steps past_break behind_comment skipped_comment comment turns pieces quoted_char header_sign block_header
    leading_turn content_column over_spaces empty_turn line_up_to block_turn is_white behind_block content_lines
    block_lines block_body tail_behind block_scalar digits encode
returns-clause-two c = refl

pub returns-clause-three : goal.returns-clause-three
unfolding is_z is_break is_breakz is_blank is_blank_or_breakz is_digit is_hex is_word_char is_alpha is_flow is_bom
    is_printable is_yaml_non_break is_yaml_non_space is_anchor_char is_uri_sign is_uri_char is_tag_char is_gap step past
    steps past_break behind_comment skipped_comment comment turns pieces quoted_char header_sign block_header
    leading_turn content_column over_spaces empty_turn line_up_to block_turn is_white behind_block content_lines
    block_lines block_body tail_behind block_scalar digits encode
returns-clause-three c = refl

pub returns-clause-more : goal.returns-clause-more
unfolding is_z is_break is_breakz is_blank is_blank_or_breakz is_digit is_hex is_word_char is_alpha is_flow is_bom
    is_printable is_yaml_non_break is_yaml_non_space is_anchor_char is_uri_sign is_uri_char is_tag_char is_gap step past
    steps past_break behind_comment skipped_comment comment turns pieces quoted_char header_sign block_header
    leading_turn content_column over_spaces empty_turn line_up_to block_turn is_white behind_block content_lines
    block_lines block_body tail_behind block_scalar digits encode
returns-clause-more c = refl

pub returns-clause-more_empty : goal.returns-clause-more_empty
unfolding is_z is_break is_breakz is_blank is_blank_or_breakz is_digit is_hex is_word_char is_alpha is_flow is_bom
    is_printable is_yaml_non_break is_yaml_non_space is_anchor_char is_uri_sign is_uri_char is_tag_char is_gap step past
    steps past_break behind_comment skipped_comment comment turns pieces quoted_char header_sign block_header
    leading_turn content_column over_spaces empty_turn line_up_to block_turn is_white behind_block content_lines
    block_lines block_body tail_behind block_scalar digits encode
returns-clause-more_empty c = refl

pub returns-clause-tab : goal.returns-clause-tab
unfolding is_z is_break is_breakz is_blank is_blank_or_breakz is_digit is_hex is_word_char is_alpha is_flow is_bom
    is_printable is_yaml_non_break is_yaml_non_space is_anchor_char is_uri_sign is_uri_char is_tag_char is_gap step past
    steps past_break behind_comment skipped_comment comment turns pieces quoted_char header_sign block_header
    leading_turn content_column over_spaces empty_turn line_up_to block_turn is_white behind_block content_lines
    block_lines block_body tail_behind block_scalar digits encode
returns-clause-tab c = refl

pub returns-clause-first_more : goal.returns-clause-first_more
unfolding is_z is_break is_breakz is_blank is_blank_or_breakz is_digit is_hex is_word_char is_alpha is_flow is_bom
    is_printable is_yaml_non_break is_yaml_non_space is_anchor_char is_uri_sign is_uri_char is_tag_char is_gap step past
    steps past_break behind_comment skipped_comment comment turns pieces quoted_char header_sign block_header
    leading_turn content_column over_spaces empty_turn line_up_to block_turn is_white behind_block content_lines
    block_lines block_body tail_behind block_scalar digits encode
returns-clause-first_more c = refl

pub returns-clause-two_more : goal.returns-clause-two_more
unfolding is_z is_break is_breakz is_blank is_blank_or_breakz is_digit is_hex is_word_char is_alpha is_flow is_bom
    is_printable is_yaml_non_break is_yaml_non_space is_anchor_char is_uri_sign is_uri_char is_tag_char is_gap step past
    steps past_break behind_comment skipped_comment comment turns pieces quoted_char header_sign block_header
    leading_turn content_column over_spaces empty_turn line_up_to block_turn is_white behind_block content_lines
    block_lines block_body tail_behind block_scalar digits encode
returns-clause-two_more c = refl

pub returns-clause-literal : goal.returns-clause-literal
unfolding is_z is_break is_breakz is_blank is_blank_or_breakz is_digit is_hex is_word_char is_alpha is_flow is_bom
    is_printable is_yaml_non_break is_yaml_non_space is_anchor_char is_uri_sign is_uri_char is_tag_char is_gap step past
    steps past_break behind_comment skipped_comment comment turns pieces quoted_char header_sign block_header
    leading_turn content_column over_spaces empty_turn line_up_to block_turn is_white behind_block content_lines
    block_lines block_body tail_behind block_scalar digits encode
returns-clause-literal c = refl

pub returns-clause-empty_first : goal.returns-clause-empty_first
unfolding is_z is_break is_breakz is_blank is_blank_or_breakz is_digit is_hex is_word_char is_alpha is_flow is_bom
    is_printable is_yaml_non_break is_yaml_non_space is_anchor_char is_uri_sign is_uri_char is_tag_char is_gap step past
    steps past_break behind_comment skipped_comment comment turns pieces quoted_char header_sign block_header
    leading_turn content_column over_spaces empty_turn line_up_to block_turn is_white behind_block content_lines
    block_lines block_body tail_behind block_scalar digits encode
returns-clause-empty_first c = refl

pub returns-clause-empty_first_more : goal.returns-clause-empty_first_more
unfolding is_z is_break is_breakz is_blank is_blank_or_breakz is_digit is_hex is_word_char is_alpha is_flow is_bom
    is_printable is_yaml_non_break is_yaml_non_space is_anchor_char is_uri_sign is_uri_char is_tag_char is_gap step past
    steps past_break behind_comment skipped_comment comment turns pieces quoted_char header_sign block_header
    leading_turn content_column over_spaces empty_turn line_up_to block_turn is_white behind_block content_lines
    block_lines block_body tail_behind block_scalar digits encode
returns-clause-empty_first_more c = refl

pub returns-clause-crlf : goal.returns-clause-crlf
unfolding is_z is_break is_breakz is_blank is_blank_or_breakz is_digit is_hex is_word_char is_alpha is_flow is_bom
    is_printable is_yaml_non_break is_yaml_non_space is_anchor_char is_uri_sign is_uri_char is_tag_char is_gap step past
    steps past_break behind_comment skipped_comment comment turns pieces quoted_char header_sign block_header
    leading_turn content_column over_spaces empty_turn line_up_to block_turn is_white behind_block content_lines
    block_lines block_body tail_behind block_scalar digits encode
returns-clause-crlf c = refl

pub returns-clause-blank_at_end : goal.returns-clause-blank_at_end
unfolding is_z is_break is_breakz is_blank is_blank_or_breakz is_digit is_hex is_word_char is_alpha is_flow is_bom
    is_printable is_yaml_non_break is_yaml_non_space is_anchor_char is_uri_sign is_uri_char is_tag_char is_gap step past
    steps past_break behind_comment skipped_comment comment turns pieces quoted_char header_sign block_header
    leading_turn content_column over_spaces empty_turn line_up_to block_turn is_white behind_block content_lines
    block_lines block_body tail_behind block_scalar digits encode
returns-clause-blank_at_end c = refl
