-- Each example is a computation.
use Rattle.std.proofs.Common.{refl}
use lib.Utf8.{encode}
use Rattle.std.specs.Fmt.{digits}
use Rattle.granit_base.specs.Classes.{is_printable, is_break, is_blank, is_breakz, is_blank_or_breakz, is_flow, is_z}
use Rattle.granit_base.specs.Classes.{is_hex, is_digit, hex_value}
use Rattle.granit_lexemes.specs.Comment.{behind_comment, skipped_comment, comment}
use Rattle.granit_lexemes.specs.Decoding.{letter_value, digit_count, is_high, is_low}
use Rattle.granit_lexemes.specs.Here.{step, past}
use Rattle.granit_lexemes.specs.Line.{event_line, quoted_char}
use Rattle.granit_lexemes.specs.Moves.{steps}
use Rattle.granit_lexemes.specs.Pieces.{pieces, turns}
use Rattle.granit_lexemes.specs.Basics.{past_break}
use Rattle.granit_lexemes.specs.QuotedScalar.{is_closing, digits_or, second_half_or, numbered_or, escape_or}
use Rattle.granit_lexemes.specs.QuotedScalar.{is_strictly_left, is_loosely_left, over_blank, over_break, quoted_content}
use Rattle.granit_lexemes.specs.QuotedScalar.{quoted_turn, may_trail, behind_quoted, quoted_tail, quoted_scalar}
use Rattle.granit_scalar_examples.proofs.quoted_examples.values_of_quoted_examples.Goals as goal

pub returns-clause-doubled_and_two_breaks : goal.returns-clause-doubled_and_two_breaks
unfolding is_printable is_break is_blank is_breakz is_blank_or_breakz is_flow is_z is_hex is_digit hex_value step past
    past_break letter_value digit_count is_high is_low is_closing digits_or second_half_or numbered_or escape_or
    is_strictly_left is_loosely_left over_blank over_break quoted_content quoted_turn may_trail behind_quoted
    quoted_tail quoted_scalar steps behind_comment skipped_comment comment pieces turns event_line quoted_char digits
    encode
returns-clause-doubled_and_two_breaks c = refl

pub returns-clause-escaped_tab : goal.returns-clause-escaped_tab
unfolding is_printable is_break is_blank is_breakz is_blank_or_breakz is_flow is_z is_hex is_digit hex_value step past
    past_break letter_value digit_count is_high is_low is_closing digits_or second_half_or numbered_or escape_or
    is_strictly_left is_loosely_left over_blank over_break quoted_content quoted_turn may_trail behind_quoted
    quoted_tail quoted_scalar steps behind_comment skipped_comment comment pieces turns event_line quoted_char digits
    encode
returns-clause-escaped_tab c = refl

pub returns-clause-tabs_around_a_break : goal.returns-clause-tabs_around_a_break
unfolding is_printable is_break is_blank is_breakz is_blank_or_breakz is_flow is_z is_hex is_digit hex_value step past
    past_break letter_value digit_count is_high is_low is_closing digits_or second_half_or numbered_or escape_or
    is_strictly_left is_loosely_left over_blank over_break quoted_content quoted_turn may_trail behind_quoted
    quoted_tail quoted_scalar steps behind_comment skipped_comment comment pieces turns event_line quoted_char digits
    encode
returns-clause-tabs_around_a_break c = refl

pub returns-clause-nothing : goal.returns-clause-nothing
unfolding is_printable is_break is_blank is_breakz is_blank_or_breakz is_flow is_z is_hex is_digit hex_value step past
    past_break letter_value digit_count is_high is_low is_closing digits_or second_half_or numbered_or escape_or
    is_strictly_left is_loosely_left over_blank over_break quoted_content quoted_turn may_trail behind_quoted
    quoted_tail quoted_scalar steps behind_comment skipped_comment comment pieces turns event_line quoted_char digits
    encode
returns-clause-nothing c = refl

pub returns-clause-nothing_in_double : goal.returns-clause-nothing_in_double
unfolding is_printable is_break is_blank is_breakz is_blank_or_breakz is_flow is_z is_hex is_digit hex_value step past
    past_break letter_value digit_count is_high is_low is_closing digits_or second_half_or numbered_or escape_or
    is_strictly_left is_loosely_left over_blank over_break quoted_content quoted_turn may_trail behind_quoted
    quoted_tail quoted_scalar steps behind_comment skipped_comment comment pieces turns event_line quoted_char digits
    encode
returns-clause-nothing_in_double c = refl

pub returns-clause-one_line : goal.returns-clause-one_line
unfolding is_printable is_break is_blank is_breakz is_blank_or_breakz is_flow is_z is_hex is_digit hex_value step past
    past_break letter_value digit_count is_high is_low is_closing digits_or second_half_or numbered_or escape_or
    is_strictly_left is_loosely_left over_blank over_break quoted_content quoted_turn may_trail behind_quoted
    quoted_tail quoted_scalar steps behind_comment skipped_comment comment pieces turns event_line quoted_char digits
    encode
returns-clause-one_line c = refl

pub returns-clause-one_break : goal.returns-clause-one_break
unfolding is_printable is_break is_blank is_breakz is_blank_or_breakz is_flow is_z is_hex is_digit hex_value step past
    past_break letter_value digit_count is_high is_low is_closing digits_or second_half_or numbered_or escape_or
    is_strictly_left is_loosely_left over_blank over_break quoted_content quoted_turn may_trail behind_quoted
    quoted_tail quoted_scalar steps behind_comment skipped_comment comment pieces turns event_line quoted_char digits
    encode
returns-clause-one_break c = refl

pub returns-clause-three_breaks : goal.returns-clause-three_breaks
unfolding is_printable is_break is_blank is_breakz is_blank_or_breakz is_flow is_z is_hex is_digit hex_value step past
    past_break letter_value digit_count is_high is_low is_closing digits_or second_half_or numbered_or escape_or
    is_strictly_left is_loosely_left over_blank over_break quoted_content quoted_turn may_trail behind_quoted
    quoted_tail quoted_scalar steps behind_comment skipped_comment comment pieces turns event_line quoted_char digits
    encode
returns-clause-three_breaks c = refl

pub returns-clause-cr : goal.returns-clause-cr
unfolding is_printable is_break is_blank is_breakz is_blank_or_breakz is_flow is_z is_hex is_digit hex_value step past
    past_break letter_value digit_count is_high is_low is_closing digits_or second_half_or numbered_or escape_or
    is_strictly_left is_loosely_left over_blank over_break quoted_content quoted_turn may_trail behind_quoted
    quoted_tail quoted_scalar steps behind_comment skipped_comment comment pieces turns event_line quoted_char digits
    encode
returns-clause-cr c = refl

pub returns-clause-cr_lf : goal.returns-clause-cr_lf
unfolding is_printable is_break is_blank is_breakz is_blank_or_breakz is_flow is_z is_hex is_digit hex_value step past
    past_break letter_value digit_count is_high is_low is_closing digits_or second_half_or numbered_or escape_or
    is_strictly_left is_loosely_left over_blank over_break quoted_content quoted_turn may_trail behind_quoted
    quoted_tail quoted_scalar steps behind_comment skipped_comment comment pieces turns event_line quoted_char digits
    encode
returns-clause-cr_lf c = refl

pub returns-clause-two_cr_lf : goal.returns-clause-two_cr_lf
unfolding is_printable is_break is_blank is_breakz is_blank_or_breakz is_flow is_z is_hex is_digit hex_value step past
    past_break letter_value digit_count is_high is_low is_closing digits_or second_half_or numbered_or escape_or
    is_strictly_left is_loosely_left over_blank over_break quoted_content quoted_turn may_trail behind_quoted
    quoted_tail quoted_scalar steps behind_comment skipped_comment comment pieces turns event_line quoted_char digits
    encode
returns-clause-two_cr_lf c = refl

pub returns-clause-cr_and_lf : goal.returns-clause-cr_and_lf
unfolding is_printable is_break is_blank is_breakz is_blank_or_breakz is_flow is_z is_hex is_digit hex_value step past
    past_break letter_value digit_count is_high is_low is_closing digits_or second_half_or numbered_or escape_or
    is_strictly_left is_loosely_left over_blank over_break quoted_content quoted_turn may_trail behind_quoted
    quoted_tail quoted_scalar steps behind_comment skipped_comment comment pieces turns event_line quoted_char digits
    encode
returns-clause-cr_and_lf c = refl

pub returns-clause-break_alone : goal.returns-clause-break_alone
unfolding is_printable is_break is_blank is_breakz is_blank_or_breakz is_flow is_z is_hex is_digit hex_value step past
    past_break letter_value digit_count is_high is_low is_closing digits_or second_half_or numbered_or escape_or
    is_strictly_left is_loosely_left over_blank over_break quoted_content quoted_turn may_trail behind_quoted
    quoted_tail quoted_scalar steps behind_comment skipped_comment comment pieces turns event_line quoted_char digits
    encode
returns-clause-break_alone c = refl

pub returns-clause-two_breaks_alone : goal.returns-clause-two_breaks_alone
unfolding is_printable is_break is_blank is_breakz is_blank_or_breakz is_flow is_z is_hex is_digit hex_value step past
    past_break letter_value digit_count is_high is_low is_closing digits_or second_half_or numbered_or escape_or
    is_strictly_left is_loosely_left over_blank over_break quoted_content quoted_turn may_trail behind_quoted
    quoted_tail quoted_scalar steps behind_comment skipped_comment comment pieces turns event_line quoted_char digits
    encode
returns-clause-two_breaks_alone c = refl

pub returns-clause-empty_first : goal.returns-clause-empty_first
unfolding is_printable is_break is_blank is_breakz is_blank_or_breakz is_flow is_z is_hex is_digit hex_value step past
    past_break letter_value digit_count is_high is_low is_closing digits_or second_half_or numbered_or escape_or
    is_strictly_left is_loosely_left over_blank over_break quoted_content quoted_turn may_trail behind_quoted
    quoted_tail quoted_scalar steps behind_comment skipped_comment comment pieces turns event_line quoted_char digits
    encode
returns-clause-empty_first c = refl

pub returns-clause-empty_last : goal.returns-clause-empty_last
unfolding is_printable is_break is_blank is_breakz is_blank_or_breakz is_flow is_z is_hex is_digit hex_value step past
    past_break letter_value digit_count is_high is_low is_closing digits_or second_half_or numbered_or escape_or
    is_strictly_left is_loosely_left over_blank over_break quoted_content quoted_turn may_trail behind_quoted
    quoted_tail quoted_scalar steps behind_comment skipped_comment comment pieces turns event_line quoted_char digits
    encode
returns-clause-empty_last c = refl

pub returns-clause-blanks_around_a_break : goal.returns-clause-blanks_around_a_break
unfolding is_printable is_break is_blank is_breakz is_blank_or_breakz is_flow is_z is_hex is_digit hex_value step past
    past_break letter_value digit_count is_high is_low is_closing digits_or second_half_or numbered_or escape_or
    is_strictly_left is_loosely_left over_blank over_break quoted_content quoted_turn may_trail behind_quoted
    quoted_tail quoted_scalar steps behind_comment skipped_comment comment pieces turns event_line quoted_char digits
    encode
returns-clause-blanks_around_a_break c = refl

pub returns-clause-escaped_break : goal.returns-clause-escaped_break
unfolding is_printable is_break is_blank is_breakz is_blank_or_breakz is_flow is_z is_hex is_digit hex_value step past
    past_break letter_value digit_count is_high is_low is_closing digits_or second_half_or numbered_or escape_or
    is_strictly_left is_loosely_left over_blank over_break quoted_content quoted_turn may_trail behind_quoted
    quoted_tail quoted_scalar steps behind_comment skipped_comment comment pieces turns event_line quoted_char digits
    encode
returns-clause-escaped_break c = refl

pub returns-clause-escaped_cr_lf : goal.returns-clause-escaped_cr_lf
unfolding is_printable is_break is_blank is_breakz is_blank_or_breakz is_flow is_z is_hex is_digit hex_value step past
    past_break letter_value digit_count is_high is_low is_closing digits_or second_half_or numbered_or escape_or
    is_strictly_left is_loosely_left over_blank over_break quoted_content quoted_turn may_trail behind_quoted
    quoted_tail quoted_scalar steps behind_comment skipped_comment comment pieces turns event_line quoted_char digits
    encode
returns-clause-escaped_cr_lf c = refl

pub returns-clause-blanks_before_escaped : goal.returns-clause-blanks_before_escaped
unfolding is_printable is_break is_blank is_breakz is_blank_or_breakz is_flow is_z is_hex is_digit hex_value step past
    past_break letter_value digit_count is_high is_low is_closing digits_or second_half_or numbered_or escape_or
    is_strictly_left is_loosely_left over_blank over_break quoted_content quoted_turn may_trail behind_quoted
    quoted_tail quoted_scalar steps behind_comment skipped_comment comment pieces turns event_line quoted_char digits
    encode
returns-clause-blanks_before_escaped c = refl

pub returns-clause-empty_lines_behind_escaped : goal.returns-clause-empty_lines_behind_escaped
unfolding is_printable is_break is_blank is_breakz is_blank_or_breakz is_flow is_z is_hex is_digit hex_value step past
    past_break letter_value digit_count is_high is_low is_closing digits_or second_half_or numbered_or escape_or
    is_strictly_left is_loosely_left over_blank over_break quoted_content quoted_turn may_trail behind_quoted
    quoted_tail quoted_scalar steps behind_comment skipped_comment comment pieces turns event_line quoted_char digits
    encode
returns-clause-empty_lines_behind_escaped c = refl

pub returns-clause-escaped_break_alone_on_a_line : goal.returns-clause-escaped_break_alone_on_a_line
unfolding is_printable is_break is_blank is_breakz is_blank_or_breakz is_flow is_z is_hex is_digit hex_value step past
    past_break letter_value digit_count is_high is_low is_closing digits_or second_half_or numbered_or escape_or
    is_strictly_left is_loosely_left over_blank over_break quoted_content quoted_turn may_trail behind_quoted
    quoted_tail quoted_scalar steps behind_comment skipped_comment comment pieces turns event_line quoted_char digits
    encode
returns-clause-escaped_break_alone_on_a_line c = refl

pub returns-clause-escaped_break_before_the_quote : goal.returns-clause-escaped_break_before_the_quote
unfolding is_printable is_break is_blank is_breakz is_blank_or_breakz is_flow is_z is_hex is_digit hex_value step past
    past_break letter_value digit_count is_high is_low is_closing digits_or second_half_or numbered_or escape_or
    is_strictly_left is_loosely_left over_blank over_break quoted_content quoted_turn may_trail behind_quoted
    quoted_tail quoted_scalar steps behind_comment skipped_comment comment pieces turns event_line quoted_char digits
    encode
returns-clause-escaped_break_before_the_quote c = refl

pub returns-clause-escaped_blank_behind_a_break : goal.returns-clause-escaped_blank_behind_a_break
unfolding is_printable is_break is_blank is_breakz is_blank_or_breakz is_flow is_z is_hex is_digit hex_value step past
    past_break letter_value digit_count is_high is_low is_closing digits_or second_half_or numbered_or escape_or
    is_strictly_left is_loosely_left over_blank over_break quoted_content quoted_turn may_trail behind_quoted
    quoted_tail quoted_scalar steps behind_comment skipped_comment comment pieces turns event_line quoted_char digits
    encode
returns-clause-escaped_blank_behind_a_break c = refl

pub returns-clause-escaped_tab_before_a_break : goal.returns-clause-escaped_tab_before_a_break
unfolding is_printable is_break is_blank is_breakz is_blank_or_breakz is_flow is_z is_hex is_digit hex_value step past
    past_break letter_value digit_count is_high is_low is_closing digits_or second_half_or numbered_or escape_or
    is_strictly_left is_loosely_left over_blank over_break quoted_content quoted_turn may_trail behind_quoted
    quoted_tail quoted_scalar steps behind_comment skipped_comment comment pieces turns event_line quoted_char digits
    encode
returns-clause-escaped_tab_before_a_break c = refl

pub returns-clause-quotes_of_the_other_style : goal.returns-clause-quotes_of_the_other_style
unfolding is_printable is_break is_blank is_breakz is_blank_or_breakz is_flow is_z is_hex is_digit hex_value step past
    past_break letter_value digit_count is_high is_low is_closing digits_or second_half_or numbered_or escape_or
    is_strictly_left is_loosely_left over_blank over_break quoted_content quoted_turn may_trail behind_quoted
    quoted_tail quoted_scalar steps behind_comment skipped_comment comment pieces turns event_line quoted_char digits
    encode
returns-clause-quotes_of_the_other_style c = refl

pub returns-clause-single_in_double : goal.returns-clause-single_in_double
unfolding is_printable is_break is_blank is_breakz is_blank_or_breakz is_flow is_z is_hex is_digit hex_value step past
    past_break letter_value digit_count is_high is_low is_closing digits_or second_half_or numbered_or escape_or
    is_strictly_left is_loosely_left over_blank over_break quoted_content quoted_turn may_trail behind_quoted
    quoted_tail quoted_scalar steps behind_comment skipped_comment comment pieces turns event_line quoted_char digits
    encode
returns-clause-single_in_double c = refl

pub returns-clause-backslash_in_single : goal.returns-clause-backslash_in_single
unfolding is_printable is_break is_blank is_breakz is_blank_or_breakz is_flow is_z is_hex is_digit hex_value step past
    past_break letter_value digit_count is_high is_low is_closing digits_or second_half_or numbered_or escape_or
    is_strictly_left is_loosely_left over_blank over_break quoted_content quoted_turn may_trail behind_quoted
    quoted_tail quoted_scalar steps behind_comment skipped_comment comment pieces turns event_line quoted_char digits
    encode
returns-clause-backslash_in_single c = refl

pub returns-clause-doubled_alone : goal.returns-clause-doubled_alone
unfolding is_printable is_break is_blank is_breakz is_blank_or_breakz is_flow is_z is_hex is_digit hex_value step past
    past_break letter_value digit_count is_high is_low is_closing digits_or second_half_or numbered_or escape_or
    is_strictly_left is_loosely_left over_blank over_break quoted_content quoted_turn may_trail behind_quoted
    quoted_tail quoted_scalar steps behind_comment skipped_comment comment pieces turns event_line quoted_char digits
    encode
returns-clause-doubled_alone c = refl

pub returns-clause-hash_inside : goal.returns-clause-hash_inside
unfolding is_printable is_break is_blank is_breakz is_blank_or_breakz is_flow is_z is_hex is_digit hex_value step past
    past_break letter_value digit_count is_high is_low is_closing digits_or second_half_or numbered_or escape_or
    is_strictly_left is_loosely_left over_blank over_break quoted_content quoted_turn may_trail behind_quoted
    quoted_tail quoted_scalar steps behind_comment skipped_comment comment pieces turns event_line quoted_char digits
    encode
returns-clause-hash_inside c = refl

pub returns-clause-colon_inside : goal.returns-clause-colon_inside
unfolding is_printable is_break is_blank is_breakz is_blank_or_breakz is_flow is_z is_hex is_digit hex_value step past
    past_break letter_value digit_count is_high is_low is_closing digits_or second_half_or numbered_or escape_or
    is_strictly_left is_loosely_left over_blank over_break quoted_content quoted_turn may_trail behind_quoted
    quoted_tail quoted_scalar steps behind_comment skipped_comment comment pieces turns event_line quoted_char digits
    encode
returns-clause-colon_inside c = refl

pub returns-clause-dashes_inside : goal.returns-clause-dashes_inside
unfolding is_printable is_break is_blank is_breakz is_blank_or_breakz is_flow is_z is_hex is_digit hex_value step past
    past_break letter_value digit_count is_high is_low is_closing digits_or second_half_or numbered_or escape_or
    is_strictly_left is_loosely_left over_blank over_break quoted_content quoted_turn may_trail behind_quoted
    quoted_tail quoted_scalar steps behind_comment skipped_comment comment pieces turns event_line quoted_char digits
    encode
returns-clause-dashes_inside c = refl

pub returns-clause-dashes_indented : goal.returns-clause-dashes_indented
unfolding is_printable is_break is_blank is_breakz is_blank_or_breakz is_flow is_z is_hex is_digit hex_value step past
    past_break letter_value digit_count is_high is_low is_closing digits_or second_half_or numbered_or escape_or
    is_strictly_left is_loosely_left over_blank over_break quoted_content quoted_turn may_trail behind_quoted
    quoted_tail quoted_scalar steps behind_comment skipped_comment comment pieces turns event_line quoted_char digits
    encode
returns-clause-dashes_indented c = refl

pub returns-clause-dashes_behind_the_quote : goal.returns-clause-dashes_behind_the_quote
unfolding is_printable is_break is_blank is_breakz is_blank_or_breakz is_flow is_z is_hex is_digit hex_value step past
    past_break letter_value digit_count is_high is_low is_closing digits_or second_half_or numbered_or escape_or
    is_strictly_left is_loosely_left over_blank over_break quoted_content quoted_turn may_trail behind_quoted
    quoted_tail quoted_scalar steps behind_comment skipped_comment comment pieces turns event_line quoted_char digits
    encode
returns-clause-dashes_behind_the_quote c = refl
