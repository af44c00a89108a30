-- Each example is a computation.
use Rattle.std.proofs.Common.{refl}
use lib.Utf8.{encode}
use Rattle.std.specs.Fmt.{digits}
use Rattle.granit_base.specs.Classes.{is_z, is_break, is_breakz, is_blank, is_blank_or_breakz, is_digit, is_hex}
use Rattle.granit_base.specs.Classes.{is_word_char, is_alpha, is_flow, is_bom, is_printable, is_yaml_non_break}
use Rattle.granit_base.specs.Classes.{is_yaml_non_space, is_anchor_char, is_uri_sign, is_uri_char, is_tag_char, is_gap}
use Rattle.granit_lexemes.specs.Here.{step, past}
use Rattle.granit_lexemes.specs.Moves.{steps}
use Rattle.granit_lexemes.specs.Basics.{past_break}
use Rattle.granit_lexemes.specs.Comment.{behind_comment, skipped_comment, comment}
use Rattle.granit_lexemes.specs.Pieces.{turns, pieces}
use Rattle.granit_lexemes.specs.Line.{quoted_char}
use Rattle.granit_lexemes.specs.BlockHeader.{header_sign, block_header, leading_turn, content_column}
use Rattle.granit_lexemes.specs.BlockScalar.{over_spaces, empty_turn, line_up_to, block_turn, is_white, behind_block}
use Rattle.granit_lexemes.specs.BlockScalar.{content_lines, block_lines, block_body, block_scalar}
use Rattle.granit_lexemes.specs.Tail.{tail_behind}
use Rattle.granit_block_examples.proofs.examples.endings_of_block_scalars.Goals as goal

pub returns-clause-clip : goal.returns-clause-clip
unfolding is_z is_break is_breakz is_blank is_blank_or_breakz is_digit is_hex is_word_char is_alpha is_flow is_bom
    is_printable is_yaml_non_break is_yaml_non_space is_anchor_char is_uri_sign is_uri_char is_tag_char is_gap step past
    steps past_break behind_comment skipped_comment comment turns pieces quoted_char header_sign block_header
    leading_turn content_column over_spaces empty_turn line_up_to block_turn is_white behind_block content_lines
    block_lines block_body tail_behind block_scalar digits encode
returns-clause-clip c = refl

pub returns-clause-strip : goal.returns-clause-strip
unfolding is_z is_break is_breakz is_blank is_blank_or_breakz is_digit is_hex is_word_char is_alpha is_flow is_bom
    is_printable is_yaml_non_break is_yaml_non_space is_anchor_char is_uri_sign is_uri_char is_tag_char is_gap step past
    steps past_break behind_comment skipped_comment comment turns pieces quoted_char header_sign block_header
    leading_turn content_column over_spaces empty_turn line_up_to block_turn is_white behind_block content_lines
    block_lines block_body tail_behind block_scalar digits encode
returns-clause-strip c = refl

pub returns-clause-keep : goal.returns-clause-keep
unfolding is_z is_break is_breakz is_blank is_blank_or_breakz is_digit is_hex is_word_char is_alpha is_flow is_bom
    is_printable is_yaml_non_break is_yaml_non_space is_anchor_char is_uri_sign is_uri_char is_tag_char is_gap step past
    steps past_break behind_comment skipped_comment comment turns pieces quoted_char header_sign block_header
    leading_turn content_column over_spaces empty_turn line_up_to block_turn is_white behind_block content_lines
    block_lines block_body tail_behind block_scalar digits encode
returns-clause-keep c = refl

pub returns-clause-clip_end : goal.returns-clause-clip_end
unfolding is_z is_break is_breakz is_blank is_blank_or_breakz is_digit is_hex is_word_char is_alpha is_flow is_bom
    is_printable is_yaml_non_break is_yaml_non_space is_anchor_char is_uri_sign is_uri_char is_tag_char is_gap step past
    steps past_break behind_comment skipped_comment comment turns pieces quoted_char header_sign block_header
    leading_turn content_column over_spaces empty_turn line_up_to block_turn is_white behind_block content_lines
    block_lines block_body tail_behind block_scalar digits encode
returns-clause-clip_end c = refl

pub returns-clause-strip_end : goal.returns-clause-strip_end
unfolding is_z is_break is_breakz is_blank is_blank_or_breakz is_digit is_hex is_word_char is_alpha is_flow is_bom
    is_printable is_yaml_non_break is_yaml_non_space is_anchor_char is_uri_sign is_uri_char is_tag_char is_gap step past
    steps past_break behind_comment skipped_comment comment turns pieces quoted_char header_sign block_header
    leading_turn content_column over_spaces empty_turn line_up_to block_turn is_white behind_block content_lines
    block_lines block_body tail_behind block_scalar digits encode
returns-clause-strip_end c = refl

pub returns-clause-keep_end : goal.returns-clause-keep_end
unfolding is_z is_break is_breakz is_blank is_blank_or_breakz is_digit is_hex is_word_char is_alpha is_flow is_bom
    is_printable is_yaml_non_break is_yaml_non_space is_anchor_char is_uri_sign is_uri_char is_tag_char is_gap step past
    steps past_break behind_comment skipped_comment comment turns pieces quoted_char header_sign block_header
    leading_turn content_column over_spaces empty_turn line_up_to block_turn is_white behind_block content_lines
    block_lines block_body tail_behind block_scalar digits encode
returns-clause-keep_end c = refl

pub returns-clause-keep_spaces : goal.returns-clause-keep_spaces
unfolding is_z is_break is_breakz is_blank is_blank_or_breakz is_digit is_hex is_word_char is_alpha is_flow is_bom
    is_printable is_yaml_non_break is_yaml_non_space is_anchor_char is_uri_sign is_uri_char is_tag_char is_gap step past
    steps past_break behind_comment skipped_comment comment turns pieces quoted_char header_sign block_header
    leading_turn content_column over_spaces empty_turn line_up_to block_turn is_white behind_block content_lines
    block_lines block_body tail_behind block_scalar digits encode
returns-clause-keep_spaces c = refl

pub returns-clause-keep_more_spaces : goal.returns-clause-keep_more_spaces
unfolding is_z is_break is_breakz is_blank is_blank_or_breakz is_digit is_hex is_word_char is_alpha is_flow is_bom
    is_printable is_yaml_non_break is_yaml_non_space is_anchor_char is_uri_sign is_uri_char is_tag_char is_gap step past
    steps past_break behind_comment skipped_comment comment turns pieces quoted_char header_sign block_header
    leading_turn content_column over_spaces empty_turn line_up_to block_turn is_white behind_block content_lines
    block_lines block_body tail_behind block_scalar digits encode
returns-clause-keep_more_spaces c = refl

pub returns-clause-keep_next : goal.returns-clause-keep_next
unfolding is_z is_break is_breakz is_blank is_blank_or_breakz is_digit is_hex is_word_char is_alpha is_flow is_bom
    is_printable is_yaml_non_break is_yaml_non_space is_anchor_char is_uri_sign is_uri_char is_tag_char is_gap step past
    steps past_break behind_comment skipped_comment comment turns pieces quoted_char header_sign block_header
    leading_turn content_column over_spaces empty_turn line_up_to block_turn is_white behind_block content_lines
    block_lines block_body tail_behind block_scalar digits encode
returns-clause-keep_next c = refl

pub returns-clause-clip_next : goal.returns-clause-clip_next
unfolding is_z is_break is_breakz is_blank is_blank_or_breakz is_digit is_hex is_word_char is_alpha is_flow is_bom
    is_printable is_yaml_non_break is_yaml_non_space is_anchor_char is_uri_sign is_uri_char is_tag_char is_gap step past
    steps past_break behind_comment skipped_comment comment turns pieces quoted_char header_sign block_header
    leading_turn content_column over_spaces empty_turn line_up_to block_turn is_white behind_block content_lines
    block_lines block_body tail_behind block_scalar digits encode
returns-clause-clip_next c = refl

pub returns-clause-none : goal.returns-clause-none
unfolding is_z is_break is_breakz is_blank is_blank_or_breakz is_digit is_hex is_word_char is_alpha is_flow is_bom
    is_printable is_yaml_non_break is_yaml_non_space is_anchor_char is_uri_sign is_uri_char is_tag_char is_gap step past
    steps past_break behind_comment skipped_comment comment turns pieces quoted_char header_sign block_header
    leading_turn content_column over_spaces empty_turn line_up_to block_turn is_white behind_block content_lines
    block_lines block_body tail_behind block_scalar digits encode
returns-clause-none c = refl

pub returns-clause-none_keep : goal.returns-clause-none_keep
unfolding is_z is_break is_breakz is_blank is_blank_or_breakz is_digit is_hex is_word_char is_alpha is_flow is_bom
    is_printable is_yaml_non_break is_yaml_non_space is_anchor_char is_uri_sign is_uri_char is_tag_char is_gap step past
    steps past_break behind_comment skipped_comment comment turns pieces quoted_char header_sign block_header
    leading_turn content_column over_spaces empty_turn line_up_to block_turn is_white behind_block content_lines
    block_lines block_body tail_behind block_scalar digits encode
returns-clause-none_keep c = refl

pub returns-clause-none_two : goal.returns-clause-none_two
unfolding is_z is_break is_breakz is_blank is_blank_or_breakz is_digit is_hex is_word_char is_alpha is_flow is_bom
    is_printable is_yaml_non_break is_yaml_non_space is_anchor_char is_uri_sign is_uri_char is_tag_char is_gap step past
    steps past_break behind_comment skipped_comment comment turns pieces quoted_char header_sign block_header
    leading_turn content_column over_spaces empty_turn line_up_to block_turn is_white behind_block content_lines
    block_lines block_body tail_behind block_scalar digits encode
returns-clause-none_two c = refl

pub returns-clause-none_two_clip : goal.returns-clause-none_two_clip
unfolding is_z is_break is_breakz is_blank is_blank_or_breakz is_digit is_hex is_word_char is_alpha is_flow is_bom
    is_printable is_yaml_non_break is_yaml_non_space is_anchor_char is_uri_sign is_uri_char is_tag_char is_gap step past
    steps past_break behind_comment skipped_comment comment turns pieces quoted_char header_sign block_header
    leading_turn content_column over_spaces empty_turn line_up_to block_turn is_white behind_block content_lines
    block_lines block_body tail_behind block_scalar digits encode
returns-clause-none_two_clip c = refl

pub returns-clause-none_spaces : goal.returns-clause-none_spaces
unfolding is_z is_break is_breakz is_blank is_blank_or_breakz is_digit is_hex is_word_char is_alpha is_flow is_bom
    is_printable is_yaml_non_break is_yaml_non_space is_anchor_char is_uri_sign is_uri_char is_tag_char is_gap step past
    steps past_break behind_comment skipped_comment comment turns pieces quoted_char header_sign block_header
    leading_turn content_column over_spaces empty_turn line_up_to block_turn is_white behind_block content_lines
    block_lines block_body tail_behind block_scalar digits encode
returns-clause-none_spaces c = refl

pub returns-clause-none_lines_spaces : goal.returns-clause-none_lines_spaces
unfolding is_z is_break is_breakz is_blank is_blank_or_breakz is_digit is_hex is_word_char is_alpha is_flow is_bom
    is_printable is_yaml_non_break is_yaml_non_space is_anchor_char is_uri_sign is_uri_char is_tag_char is_gap step past
    steps past_break behind_comment skipped_comment comment turns pieces quoted_char header_sign block_header
    leading_turn content_column over_spaces empty_turn line_up_to block_turn is_white behind_block content_lines
    block_lines block_body tail_behind block_scalar digits encode
returns-clause-none_lines_spaces c = refl

pub returns-clause-none_two_lines_spaces : goal.returns-clause-none_two_lines_spaces
unfolding is_z is_break is_breakz is_blank is_blank_or_breakz is_digit is_hex is_word_char is_alpha is_flow is_bom
    is_printable is_yaml_non_break is_yaml_non_space is_anchor_char is_uri_sign is_uri_char is_tag_char is_gap step past
    steps past_break behind_comment skipped_comment comment turns pieces quoted_char header_sign block_header
    leading_turn content_column over_spaces empty_turn line_up_to block_turn is_white behind_block content_lines
    block_lines block_body tail_behind block_scalar digits encode
returns-clause-none_two_lines_spaces c = refl

pub returns-clause-none_next : goal.returns-clause-none_next
unfolding is_z is_break is_breakz is_blank is_blank_or_breakz is_digit is_hex is_word_char is_alpha is_flow is_bom
    is_printable is_yaml_non_break is_yaml_non_space is_anchor_char is_uri_sign is_uri_char is_tag_char is_gap step past
    steps past_break behind_comment skipped_comment comment turns pieces quoted_char header_sign block_header
    leading_turn content_column over_spaces empty_turn line_up_to block_turn is_white behind_block content_lines
    block_lines block_body tail_behind block_scalar digits encode
returns-clause-none_next c = refl

pub returns-clause-none_next_clip : goal.returns-clause-none_next_clip
unfolding is_z is_break is_breakz is_blank is_blank_or_breakz is_digit is_hex is_word_char is_alpha is_flow is_bom
    is_printable is_yaml_non_break is_yaml_non_space is_anchor_char is_uri_sign is_uri_char is_tag_char is_gap step past
    steps past_break behind_comment skipped_comment comment turns pieces quoted_char header_sign block_header
    leading_turn content_column over_spaces empty_turn line_up_to block_turn is_white behind_block content_lines
    block_lines block_body tail_behind block_scalar digits encode
returns-clause-none_next_clip c = refl

pub returns-clause-none_strip : goal.returns-clause-none_strip
unfolding is_z is_break is_breakz is_blank is_blank_or_breakz is_digit is_hex is_word_char is_alpha is_flow is_bom
    is_printable is_yaml_non_break is_yaml_non_space is_anchor_char is_uri_sign is_uri_char is_tag_char is_gap step past
    steps past_break behind_comment skipped_comment comment turns pieces quoted_char header_sign block_header
    leading_turn content_column over_spaces empty_turn line_up_to block_turn is_white behind_block content_lines
    block_lines block_body tail_behind block_scalar digits encode
returns-clause-none_strip c = refl

pub returns-clause-white : goal.returns-clause-white
unfolding is_z is_break is_breakz is_blank is_blank_or_breakz is_digit is_hex is_word_char is_alpha is_flow is_bom
    is_printable is_yaml_non_break is_yaml_non_space is_anchor_char is_uri_sign is_uri_char is_tag_char is_gap step past
    steps past_break behind_comment skipped_comment comment turns pieces quoted_char header_sign block_header
    leading_turn content_column over_spaces empty_turn line_up_to block_turn is_white behind_block content_lines
    block_lines block_body tail_behind block_scalar digits encode
returns-clause-white c = refl

pub returns-clause-white_wide : goal.returns-clause-white_wide
unfolding is_z is_break is_breakz is_blank is_blank_or_breakz is_digit is_hex is_word_char is_alpha is_flow is_bom
    is_printable is_yaml_non_break is_yaml_non_space is_anchor_char is_uri_sign is_uri_char is_tag_char is_gap step past
    steps past_break behind_comment skipped_comment comment turns pieces quoted_char header_sign block_header
    leading_turn content_column over_spaces empty_turn line_up_to block_turn is_white behind_block content_lines
    block_lines block_body tail_behind block_scalar digits encode
returns-clause-white_wide c = refl
