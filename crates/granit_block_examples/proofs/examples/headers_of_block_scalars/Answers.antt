-- Each example is a computation.
use Rattle.std.proofs.Common.{refl}
use lib.Utf8.{encode}
use Rattle.std.specs.Fmt.{digits}
use Rattle.granit_base.specs.Classes.{is_z, is_break, is_breakz, is_blank, is_blank_or_breakz, is_digit, is_hex}
use Rattle.granit_base.specs.Classes.{is_word_char, is_alpha, is_flow, is_bom, is_printable, is_yaml_non_break}
use Rattle.granit_base.specs.Classes.{is_yaml_non_space, is_anchor_char, is_uri_sign, is_uri_char, is_tag_char, is_gap}
use Rattle.granit_lexemes.specs.Here.{step, past}
use Rattle.granit_lexemes.specs.Moves.{steps}
use Rattle.granit_lexemes.specs.Basics.{past_break}
use Rattle.granit_lexemes.specs.Comment.{behind_comment, skipped_comment, comment}
use Rattle.granit_lexemes.specs.Pieces.{turns, pieces}
use Rattle.granit_lexemes.specs.Line.{quoted_char}
use Rattle.granit_lexemes.specs.BlockHeader.{header_sign, block_header, leading_turn, content_column}
use Rattle.granit_lexemes.specs.BlockScalar.{over_spaces, empty_turn, line_up_to, block_turn, is_white, behind_block}
use Rattle.granit_lexemes.specs.BlockScalar.{content_lines, block_lines, block_body, block_scalar}
use Rattle.granit_lexemes.specs.Tail.{tail_behind}
use Rattle.granit_block_examples.proofs.examples.headers_of_block_scalars.Goals as goal

pub returns-clause-none : goal.returns-clause-none
unfolding is_z is_break is_breakz is_blank is_blank_or_breakz is_digit is_hex is_word_char is_alpha is_flow is_bom
    is_printable is_yaml_non_break is_yaml_non_space is_anchor_char is_uri_sign is_uri_char is_tag_char is_gap step past
    steps past_break behind_comment skipped_comment comment turns pieces quoted_char header_sign block_header
    leading_turn content_column over_spaces empty_turn line_up_to block_turn is_white behind_block content_lines
    block_lines block_body tail_behind block_scalar digits encode
returns-clause-none c = refl

pub returns-clause-strip : goal.returns-clause-strip
unfolding is_z is_break is_breakz is_blank is_blank_or_breakz is_digit is_hex is_word_char is_alpha is_flow is_bom
    is_printable is_yaml_non_break is_yaml_non_space is_anchor_char is_uri_sign is_uri_char is_tag_char is_gap step past
    steps past_break behind_comment skipped_comment comment turns pieces quoted_char header_sign block_header
    leading_turn content_column over_spaces empty_turn line_up_to block_turn is_white behind_block content_lines
    block_lines block_body tail_behind block_scalar digits encode
returns-clause-strip c = refl

pub returns-clause-keep : goal.returns-clause-keep
unfolding is_z is_break is_breakz is_blank is_blank_or_breakz is_digit is_hex is_word_char is_alpha is_flow is_bom
    is_printable is_yaml_non_break is_yaml_non_space is_anchor_char is_uri_sign is_uri_char is_tag_char is_gap step past
    steps past_break behind_comment skipped_comment comment turns pieces quoted_char header_sign block_header
    leading_turn content_column over_spaces empty_turn line_up_to block_turn is_white behind_block content_lines
    block_lines block_body tail_behind block_scalar digits encode
returns-clause-keep c = refl

pub returns-clause-digit : goal.returns-clause-digit
unfolding is_z is_break is_breakz is_blank is_blank_or_breakz is_digit is_hex is_word_char is_alpha is_flow is_bom
    is_printable is_yaml_non_break is_yaml_non_space is_anchor_char is_uri_sign is_uri_char is_tag_char is_gap step past
    steps past_break behind_comment skipped_comment comment turns pieces quoted_char header_sign block_header
    leading_turn content_column over_spaces empty_turn line_up_to block_turn is_white behind_block content_lines
    block_lines block_body tail_behind block_scalar digits encode
returns-clause-digit c = refl

pub returns-clause-sign_digit : goal.returns-clause-sign_digit
unfolding is_z is_break is_breakz is_blank is_blank_or_breakz is_digit is_hex is_word_char is_alpha is_flow is_bom
    is_printable is_yaml_non_break is_yaml_non_space is_anchor_char is_uri_sign is_uri_char is_tag_char is_gap step past
    steps past_break behind_comment skipped_comment comment turns pieces quoted_char header_sign block_header
    leading_turn content_column over_spaces empty_turn line_up_to block_turn is_white behind_block content_lines
    block_lines block_body tail_behind block_scalar digits encode
returns-clause-sign_digit c = refl

pub returns-clause-digit_sign : goal.returns-clause-digit_sign
unfolding is_z is_break is_breakz is_blank is_blank_or_breakz is_digit is_hex is_word_char is_alpha is_flow is_bom
    is_printable is_yaml_non_break is_yaml_non_space is_anchor_char is_uri_sign is_uri_char is_tag_char is_gap step past
    steps past_break behind_comment skipped_comment comment turns pieces quoted_char header_sign block_header
    leading_turn content_column over_spaces empty_turn line_up_to block_turn is_white behind_block content_lines
    block_lines block_body tail_behind block_scalar digits encode
returns-clause-digit_sign c = refl

pub returns-clause-folded : goal.returns-clause-folded
unfolding is_z is_break is_breakz is_blank is_blank_or_breakz is_digit is_hex is_word_char is_alpha is_flow is_bom
    is_printable is_yaml_non_break is_yaml_non_space is_anchor_char is_uri_sign is_uri_char is_tag_char is_gap step past
    steps past_break behind_comment skipped_comment comment turns pieces quoted_char header_sign block_header
    leading_turn content_column over_spaces empty_turn line_up_to block_turn is_white behind_block content_lines
    block_lines block_body tail_behind block_scalar digits encode
returns-clause-folded c = refl

pub returns-clause-comment : goal.returns-clause-comment
unfolding is_z is_break is_breakz is_blank is_blank_or_breakz is_digit is_hex is_word_char is_alpha is_flow is_bom
    is_printable is_yaml_non_break is_yaml_non_space is_anchor_char is_uri_sign is_uri_char is_tag_char is_gap step past
    steps past_break behind_comment skipped_comment comment turns pieces quoted_char header_sign block_header
    leading_turn content_column over_spaces empty_turn line_up_to block_turn is_white behind_block content_lines
    block_lines block_body tail_behind block_scalar digits encode
returns-clause-comment c = refl

pub returns-clause-comment_alone : goal.returns-clause-comment_alone
unfolding is_z is_break is_breakz is_blank is_blank_or_breakz is_digit is_hex is_word_char is_alpha is_flow is_bom
    is_printable is_yaml_non_break is_yaml_non_space is_anchor_char is_uri_sign is_uri_char is_tag_char is_gap step past
    steps past_break behind_comment skipped_comment comment turns pieces quoted_char header_sign block_header
    leading_turn content_column over_spaces empty_turn line_up_to block_turn is_white behind_block content_lines
    block_lines block_body tail_behind block_scalar digits encode
returns-clause-comment_alone c = refl

pub returns-clause-blanks : goal.returns-clause-blanks
unfolding is_z is_break is_breakz is_blank is_blank_or_breakz is_digit is_hex is_word_char is_alpha is_flow is_bom
    is_printable is_yaml_non_break is_yaml_non_space is_anchor_char is_uri_sign is_uri_char is_tag_char is_gap step past
    steps past_break behind_comment skipped_comment comment turns pieces quoted_char header_sign block_header
    leading_turn content_column over_spaces empty_turn line_up_to block_turn is_white behind_block content_lines
    block_lines block_body tail_behind block_scalar digits encode
returns-clause-blanks c = refl

pub returns-clause-crlf : goal.returns-clause-crlf
unfolding is_z is_break is_breakz is_blank is_blank_or_breakz is_digit is_hex is_word_char is_alpha is_flow is_bom
    is_printable is_yaml_non_break is_yaml_non_space is_anchor_char is_uri_sign is_uri_char is_tag_char is_gap step past
    steps past_break behind_comment skipped_comment comment turns pieces quoted_char header_sign block_header
    leading_turn content_column over_spaces empty_turn line_up_to block_turn is_white behind_block content_lines
    block_lines block_body tail_behind block_scalar digits encode
returns-clause-crlf c = refl

pub returns-clause-cr : goal.returns-clause-cr
unfolding is_z is_break is_breakz is_blank is_blank_or_breakz is_digit is_hex is_word_char is_alpha is_flow is_bom
    is_printable is_yaml_non_break is_yaml_non_space is_anchor_char is_uri_sign is_uri_char is_tag_char is_gap step past
    steps past_break behind_comment skipped_comment comment turns pieces quoted_char header_sign block_header
    leading_turn content_column over_spaces empty_turn line_up_to block_turn is_white behind_block content_lines
    block_lines block_body tail_behind block_scalar digits encode
returns-clause-cr c = refl

pub returns-clause-end : goal.returns-clause-end
unfolding is_z is_break is_breakz is_blank is_blank_or_breakz is_digit is_hex is_word_char is_alpha is_flow is_bom
    is_printable is_yaml_non_break is_yaml_non_space is_anchor_char is_uri_sign is_uri_char is_tag_char is_gap step past
    steps past_break behind_comment skipped_comment comment turns pieces quoted_char header_sign block_header
    leading_turn content_column over_spaces empty_turn line_up_to block_turn is_white behind_block content_lines
    block_lines block_body tail_behind block_scalar digits encode
returns-clause-end c = refl

pub returns-clause-keep_end : goal.returns-clause-keep_end
unfolding is_z is_break is_breakz is_blank is_blank_or_breakz is_digit is_hex is_word_char is_alpha is_flow is_bom
    is_printable is_yaml_non_break is_yaml_non_space is_anchor_char is_uri_sign is_uri_char is_tag_char is_gap step past
    steps past_break behind_comment skipped_comment comment turns pieces quoted_char header_sign block_header
    leading_turn content_column over_spaces empty_turn line_up_to block_turn is_white behind_block content_lines
    block_lines block_body tail_behind block_scalar digits encode
returns-clause-keep_end c = refl

pub returns-clause-blanks_end : goal.returns-clause-blanks_end
unfolding is_z is_break is_breakz is_blank is_blank_or_breakz is_digit is_hex is_word_char is_alpha is_flow is_bom
    is_printable is_yaml_non_break is_yaml_non_space is_anchor_char is_uri_sign is_uri_char is_tag_char is_gap step past
    steps past_break behind_comment skipped_comment comment turns pieces quoted_char header_sign block_header
    leading_turn content_column over_spaces empty_turn line_up_to block_turn is_white behind_block content_lines
    block_lines block_body tail_behind block_scalar digits encode
returns-clause-blanks_end c = refl

pub returns-clause-root : goal.returns-clause-root
unfolding is_z is_break is_breakz is_blank is_blank_or_breakz is_digit is_hex is_word_char is_alpha is_flow is_bom
    is_printable is_yaml_non_break is_yaml_non_space is_anchor_char is_uri_sign is_uri_char is_tag_char is_gap step past
    steps past_break behind_comment skipped_comment comment turns pieces quoted_char header_sign block_header
    leading_turn content_column over_spaces empty_turn line_up_to block_turn is_white behind_block content_lines
    block_lines block_body tail_behind block_scalar digits encode
returns-clause-root c = refl

pub returns-clause-root_digit : goal.returns-clause-root_digit
unfolding is_z is_break is_breakz is_blank is_blank_or_breakz is_digit is_hex is_word_char is_alpha is_flow is_bom
    is_printable is_yaml_non_break is_yaml_non_space is_anchor_char is_uri_sign is_uri_char is_tag_char is_gap step past
    steps past_break behind_comment skipped_comment comment turns pieces quoted_char header_sign block_header
    leading_turn content_column over_spaces empty_turn line_up_to block_turn is_white behind_block content_lines
    block_lines block_body tail_behind block_scalar digits encode
returns-clause-root_digit c = refl

pub returns-clause-doc_digit : goal.returns-clause-doc_digit
unfolding is_z is_break is_breakz is_blank is_blank_or_breakz is_digit is_hex is_word_char is_alpha is_flow is_bom
    is_printable is_yaml_non_break is_yaml_non_space is_anchor_char is_uri_sign is_uri_char is_tag_char is_gap step past
    steps past_break behind_comment skipped_comment comment turns pieces quoted_char header_sign block_header
    leading_turn content_column over_spaces empty_turn line_up_to block_turn is_white behind_block content_lines
    block_lines block_body tail_behind block_scalar digits encode
returns-clause-doc_digit c = refl
