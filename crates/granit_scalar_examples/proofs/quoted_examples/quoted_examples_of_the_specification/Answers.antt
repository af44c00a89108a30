-- Each example is a computation.
use Rattle.std.proofs.Common.{refl}
use lib.Utf8.{encode}
use Rattle.std.specs.Fmt.{digits}
use Rattle.granit_base.specs.Classes.{is_printable, is_break, is_blank, is_breakz, is_blank_or_breakz, is_flow, is_z}
use Rattle.granit_base.specs.Classes.{is_hex, is_digit, hex_value}
use Rattle.granit_lexemes.specs.Comment.{behind_comment, skipped_comment, comment}
use Rattle.granit_lexemes.specs.Decoding.{letter_value, digit_count, is_high, is_low}
use Rattle.granit_lexemes.specs.Here.{step, past}
use Rattle.granit_lexemes.specs.Line.{event_line, quoted_char}
use Rattle.granit_lexemes.specs.Moves.{steps}
use Rattle.granit_lexemes.specs.Pieces.{pieces, turns}
use Rattle.granit_lexemes.specs.Basics.{past_break}
use Rattle.granit_lexemes.specs.QuotedScalar.{is_closing, digits_or, second_half_or, numbered_or, escape_or}
use Rattle.granit_lexemes.specs.QuotedScalar.{is_strictly_left, is_loosely_left, over_blank, over_break, quoted_content}
use Rattle.granit_lexemes.specs.QuotedScalar.{quoted_turn, may_trail, behind_quoted, quoted_tail, quoted_scalar}
use Rattle.granit_scalar_examples.proofs.quoted_examples.quoted_examples_of_the_specification.Goals as goal

pub returns-clause-unicode : goal.returns-clause-unicode
unfolding is_printable is_break is_blank is_breakz is_blank_or_breakz is_flow is_z is_hex is_digit hex_value step past
    past_break letter_value digit_count is_high is_low is_closing digits_or second_half_or numbered_or escape_or
    is_strictly_left is_loosely_left over_blank over_break quoted_content quoted_turn may_trail behind_quoted
    quoted_tail quoted_scalar steps behind_comment skipped_comment comment pieces turns event_line quoted_char digits
    encode
returns-clause-unicode c = refl

pub returns-clause-control : goal.returns-clause-control
unfolding is_printable is_break is_blank is_breakz is_blank_or_breakz is_flow is_z is_hex is_digit hex_value step past
    past_break letter_value digit_count is_high is_low is_closing digits_or second_half_or numbered_or escape_or
    is_strictly_left is_loosely_left over_blank over_break quoted_content quoted_turn may_trail behind_quoted
    quoted_tail quoted_scalar steps behind_comment skipped_comment comment pieces turns event_line quoted_char digits
    encode
returns-clause-control c = refl

pub returns-clause-single : goal.returns-clause-single
unfolding is_printable is_break is_blank is_breakz is_blank_or_breakz is_flow is_z is_hex is_digit hex_value step past
    past_break letter_value digit_count is_high is_low is_closing digits_or second_half_or numbered_or escape_or
    is_strictly_left is_loosely_left over_blank over_break quoted_content quoted_turn may_trail behind_quoted
    quoted_tail quoted_scalar steps behind_comment skipped_comment comment pieces turns event_line quoted_char digits
    encode
returns-clause-single c = refl

pub returns-clause-not_a_comment : goal.returns-clause-not_a_comment
unfolding is_printable is_break is_blank is_breakz is_blank_or_breakz is_flow is_z is_hex is_digit hex_value step past
    past_break letter_value digit_count is_high is_low is_closing digits_or second_half_or numbered_or escape_or
    is_strictly_left is_loosely_left over_blank over_break quoted_content quoted_turn may_trail behind_quoted
    quoted_tail quoted_scalar steps behind_comment skipped_comment comment pieces turns event_line quoted_char digits
    encode
returns-clause-not_a_comment c = refl

pub returns-clause-tie : goal.returns-clause-tie
unfolding is_printable is_break is_blank is_breakz is_blank_or_breakz is_flow is_z is_hex is_digit hex_value step past
    past_break letter_value digit_count is_high is_low is_closing digits_or second_half_or numbered_or escape_or
    is_strictly_left is_loosely_left over_blank over_break quoted_content quoted_turn may_trail behind_quoted
    quoted_tail quoted_scalar steps behind_comment skipped_comment comment pieces turns event_line quoted_char digits
    encode
returns-clause-tie c = refl

pub returns-clause-folded : goal.returns-clause-folded
unfolding is_printable is_break is_blank is_breakz is_blank_or_breakz is_flow is_z is_hex is_digit hex_value step past
    past_break letter_value digit_count is_high is_low is_closing digits_or second_half_or numbered_or escape_or
    is_strictly_left is_loosely_left over_blank over_break quoted_content quoted_turn may_trail behind_quoted
    quoted_tail quoted_scalar steps behind_comment skipped_comment comment pieces turns event_line quoted_char digits
    encode
returns-clause-folded c = refl

pub returns-clause-double_lines : goal.returns-clause-double_lines
unfolding is_printable is_break is_blank is_breakz is_blank_or_breakz is_flow is_z is_hex is_digit hex_value step past
    past_break letter_value digit_count is_high is_low is_closing digits_or second_half_or numbered_or escape_or
    is_strictly_left is_loosely_left over_blank over_break quoted_content quoted_turn may_trail behind_quoted
    quoted_tail quoted_scalar steps behind_comment skipped_comment comment pieces turns event_line quoted_char digits
    encode
returns-clause-double_lines c = refl

pub returns-clause-single_lines : goal.returns-clause-single_lines
unfolding is_printable is_break is_blank is_breakz is_blank_or_breakz is_flow is_z is_hex is_digit hex_value step past
    past_break letter_value digit_count is_high is_low is_closing digits_or second_half_or numbered_or escape_or
    is_strictly_left is_loosely_left over_blank over_break quoted_content quoted_turn may_trail behind_quoted
    quoted_tail quoted_scalar steps behind_comment skipped_comment comment pieces turns event_line quoted_char digits
    encode
returns-clause-single_lines c = refl
