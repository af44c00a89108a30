-- Each example is a computation.
use Rattle.std.proofs.Common.{refl}
use lib.Utf8.{encode}
use Rattle.std.specs.Fmt.{digits}
use Rattle.granit_base.specs.Classes.{is_printable, is_break, is_blank, is_breakz, is_blank_or_breakz, is_flow, is_z}
use Rattle.granit_base.specs.Classes.{is_hex, is_digit, hex_value}
use Rattle.granit_lexemes.specs.Comment.{behind_comment, skipped_comment, comment}
use Rattle.granit_lexemes.specs.Decoding.{letter_value, digit_count, is_high, is_low}
use Rattle.granit_lexemes.specs.Here.{step, past}
use Rattle.granit_lexemes.specs.Line.{event_line, quoted_char}
use Rattle.granit_lexemes.specs.Moves.{steps}
use Rattle.granit_lexemes.specs.Pieces.{pieces, turns}
use Rattle.granit_lexemes.specs.Basics.{past_break}
use Rattle.granit_lexemes.specs.QuotedScalar.{is_closing, digits_or, second_half_or, numbered_or, escape_or}
use Rattle.granit_lexemes.specs.QuotedScalar.{is_strictly_left, is_loosely_left, over_blank, over_break, quoted_content}
use Rattle.granit_lexemes.specs.QuotedScalar.{quoted_turn, may_trail, behind_quoted, quoted_tail, quoted_scalar}
use Rattle.granit_scalar_examples.proofs.quoted_examples.escapes_of_quoted_examples.Goals as goal

pub returns-clause-nul : goal.returns-clause-nul
unfolding is_printable is_break is_blank is_breakz is_blank_or_breakz is_flow is_z is_hex is_digit hex_value step past
    past_break letter_value digit_count is_high is_low is_closing digits_or second_half_or numbered_or escape_or
    is_strictly_left is_loosely_left over_blank over_break quoted_content quoted_turn may_trail behind_quoted
    quoted_tail quoted_scalar steps behind_comment skipped_comment comment pieces turns event_line quoted_char digits
    encode
returns-clause-nul c = refl

pub returns-clause-bell : goal.returns-clause-bell
unfolding is_printable is_break is_blank is_breakz is_blank_or_breakz is_flow is_z is_hex is_digit hex_value step past
    past_break letter_value digit_count is_high is_low is_closing digits_or second_half_or numbered_or escape_or
    is_strictly_left is_loosely_left over_blank over_break quoted_content quoted_turn may_trail behind_quoted
    quoted_tail quoted_scalar steps behind_comment skipped_comment comment pieces turns event_line quoted_char digits
    encode
returns-clause-bell c = refl

pub returns-clause-backspace : goal.returns-clause-backspace
unfolding is_printable is_break is_blank is_breakz is_blank_or_breakz is_flow is_z is_hex is_digit hex_value step past
    past_break letter_value digit_count is_high is_low is_closing digits_or second_half_or numbered_or escape_or
    is_strictly_left is_loosely_left over_blank over_break quoted_content quoted_turn may_trail behind_quoted
    quoted_tail quoted_scalar steps behind_comment skipped_comment comment pieces turns event_line quoted_char digits
    encode
returns-clause-backspace c = refl

pub returns-clause-tab : goal.returns-clause-tab
unfolding is_printable is_break is_blank is_breakz is_blank_or_breakz is_flow is_z is_hex is_digit hex_value step past
    past_break letter_value digit_count is_high is_low is_closing digits_or second_half_or numbered_or escape_or
    is_strictly_left is_loosely_left over_blank over_break quoted_content quoted_turn may_trail behind_quoted
    quoted_tail quoted_scalar steps behind_comment skipped_comment comment pieces turns event_line quoted_char digits
    encode
returns-clause-tab c = refl

pub returns-clause-tab_itself : goal.returns-clause-tab_itself
unfolding is_printable is_break is_blank is_breakz is_blank_or_breakz is_flow is_z is_hex is_digit hex_value step past
    past_break letter_value digit_count is_high is_low is_closing digits_or second_half_or numbered_or escape_or
    is_strictly_left is_loosely_left over_blank over_break quoted_content quoted_turn may_trail behind_quoted
    quoted_tail quoted_scalar steps behind_comment skipped_comment comment pieces turns event_line quoted_char digits
    encode
returns-clause-tab_itself c = refl

pub returns-clause-line_feed : goal.returns-clause-line_feed
unfolding is_printable is_break is_blank is_breakz is_blank_or_breakz is_flow is_z is_hex is_digit hex_value step past
    past_break letter_value digit_count is_high is_low is_closing digits_or second_half_or numbered_or escape_or
    is_strictly_left is_loosely_left over_blank over_break quoted_content quoted_turn may_trail behind_quoted
    quoted_tail quoted_scalar steps behind_comment skipped_comment comment pieces turns event_line quoted_char digits
    encode
returns-clause-line_feed c = refl

pub returns-clause-vertical_tab : goal.returns-clause-vertical_tab
unfolding is_printable is_break is_blank is_breakz is_blank_or_breakz is_flow is_z is_hex is_digit hex_value step past
    past_break letter_value digit_count is_high is_low is_closing digits_or second_half_or numbered_or escape_or
    is_strictly_left is_loosely_left over_blank over_break quoted_content quoted_turn may_trail behind_quoted
    quoted_tail quoted_scalar steps behind_comment skipped_comment comment pieces turns event_line quoted_char digits
    encode
returns-clause-vertical_tab c = refl

pub returns-clause-form_feed : goal.returns-clause-form_feed
unfolding is_printable is_break is_blank is_breakz is_blank_or_breakz is_flow is_z is_hex is_digit hex_value step past
    past_break letter_value digit_count is_high is_low is_closing digits_or second_half_or numbered_or escape_or
    is_strictly_left is_loosely_left over_blank over_break quoted_content quoted_turn may_trail behind_quoted
    quoted_tail quoted_scalar steps behind_comment skipped_comment comment pieces turns event_line quoted_char digits
    encode
returns-clause-form_feed c = refl

pub returns-clause-carriage_return : goal.returns-clause-carriage_return
unfolding is_printable is_break is_blank is_breakz is_blank_or_breakz is_flow is_z is_hex is_digit hex_value step past
    past_break letter_value digit_count is_high is_low is_closing digits_or second_half_or numbered_or escape_or
    is_strictly_left is_loosely_left over_blank over_break quoted_content quoted_turn may_trail behind_quoted
    quoted_tail quoted_scalar steps behind_comment skipped_comment comment pieces turns event_line quoted_char digits
    encode
returns-clause-carriage_return c = refl

pub returns-clause-escape : goal.returns-clause-escape
unfolding is_printable is_break is_blank is_breakz is_blank_or_breakz is_flow is_z is_hex is_digit hex_value step past
    past_break letter_value digit_count is_high is_low is_closing digits_or second_half_or numbered_or escape_or
    is_strictly_left is_loosely_left over_blank over_break quoted_content quoted_turn may_trail behind_quoted
    quoted_tail quoted_scalar steps behind_comment skipped_comment comment pieces turns event_line quoted_char digits
    encode
returns-clause-escape c = refl

pub returns-clause-space : goal.returns-clause-space
unfolding is_printable is_break is_blank is_breakz is_blank_or_breakz is_flow is_z is_hex is_digit hex_value step past
    past_break letter_value digit_count is_high is_low is_closing digits_or second_half_or numbered_or escape_or
    is_strictly_left is_loosely_left over_blank over_break quoted_content quoted_turn may_trail behind_quoted
    quoted_tail quoted_scalar steps behind_comment skipped_comment comment pieces turns event_line quoted_char digits
    encode
returns-clause-space c = refl

pub returns-clause-double_quote : goal.returns-clause-double_quote
unfolding is_printable is_break is_blank is_breakz is_blank_or_breakz is_flow is_z is_hex is_digit hex_value step past
    past_break letter_value digit_count is_high is_low is_closing digits_or second_half_or numbered_or escape_or
    is_strictly_left is_loosely_left over_blank over_break quoted_content quoted_turn may_trail behind_quoted
    quoted_tail quoted_scalar steps behind_comment skipped_comment comment pieces turns event_line quoted_char digits
    encode
returns-clause-double_quote c = refl

pub returns-clause-slash : goal.returns-clause-slash
unfolding is_printable is_break is_blank is_breakz is_blank_or_breakz is_flow is_z is_hex is_digit hex_value step past
    past_break letter_value digit_count is_high is_low is_closing digits_or second_half_or numbered_or escape_or
    is_strictly_left is_loosely_left over_blank over_break quoted_content quoted_turn may_trail behind_quoted
    quoted_tail quoted_scalar steps behind_comment skipped_comment comment pieces turns event_line quoted_char digits
    encode
returns-clause-slash c = refl

pub returns-clause-backslash : goal.returns-clause-backslash
unfolding is_printable is_break is_blank is_breakz is_blank_or_breakz is_flow is_z is_hex is_digit hex_value step past
    past_break letter_value digit_count is_high is_low is_closing digits_or second_half_or numbered_or escape_or
    is_strictly_left is_loosely_left over_blank over_break quoted_content quoted_turn may_trail behind_quoted
    quoted_tail quoted_scalar steps behind_comment skipped_comment comment pieces turns event_line quoted_char digits
    encode
returns-clause-backslash c = refl

pub returns-clause-next_line : goal.returns-clause-next_line
unfolding is_printable is_break is_blank is_breakz is_blank_or_breakz is_flow is_z is_hex is_digit hex_value step past
    past_break letter_value digit_count is_high is_low is_closing digits_or second_half_or numbered_or escape_or
    is_strictly_left is_loosely_left over_blank over_break quoted_content quoted_turn may_trail behind_quoted
    quoted_tail quoted_scalar steps behind_comment skipped_comment comment pieces turns event_line quoted_char digits
    encode
returns-clause-next_line c = refl

pub returns-clause-no_break_space : goal.returns-clause-no_break_space
unfolding is_printable is_break is_blank is_breakz is_blank_or_breakz is_flow is_z is_hex is_digit hex_value step past
    past_break letter_value digit_count is_high is_low is_closing digits_or second_half_or numbered_or escape_or
    is_strictly_left is_loosely_left over_blank over_break quoted_content quoted_turn may_trail behind_quoted
    quoted_tail quoted_scalar steps behind_comment skipped_comment comment pieces turns event_line quoted_char digits
    encode
returns-clause-no_break_space c = refl

pub returns-clause-line_separator : goal.returns-clause-line_separator
unfolding is_printable is_break is_blank is_breakz is_blank_or_breakz is_flow is_z is_hex is_digit hex_value step past
    past_break letter_value digit_count is_high is_low is_closing digits_or second_half_or numbered_or escape_or
    is_strictly_left is_loosely_left over_blank over_break quoted_content quoted_turn may_trail behind_quoted
    quoted_tail quoted_scalar steps behind_comment skipped_comment comment pieces turns event_line quoted_char digits
    encode
returns-clause-line_separator c = refl

pub returns-clause-paragraph_separator : goal.returns-clause-paragraph_separator
unfolding is_printable is_break is_blank is_breakz is_blank_or_breakz is_flow is_z is_hex is_digit hex_value step past
    past_break letter_value digit_count is_high is_low is_closing digits_or second_half_or numbered_or escape_or
    is_strictly_left is_loosely_left over_blank over_break quoted_content quoted_turn may_trail behind_quoted
    quoted_tail quoted_scalar steps behind_comment skipped_comment comment pieces turns event_line quoted_char digits
    encode
returns-clause-paragraph_separator c = refl

pub returns-clause-two_digits : goal.returns-clause-two_digits
unfolding is_printable is_break is_blank is_breakz is_blank_or_breakz is_flow is_z is_hex is_digit hex_value step past
    past_break letter_value digit_count is_high is_low is_closing digits_or second_half_or numbered_or escape_or
    is_strictly_left is_loosely_left over_blank over_break quoted_content quoted_turn may_trail behind_quoted
    quoted_tail quoted_scalar steps behind_comment skipped_comment comment pieces turns event_line quoted_char digits
    encode
returns-clause-two_digits c = refl

pub returns-clause-four_digits : goal.returns-clause-four_digits
unfolding is_printable is_break is_blank is_breakz is_blank_or_breakz is_flow is_z is_hex is_digit hex_value step past
    past_break letter_value digit_count is_high is_low is_closing digits_or second_half_or numbered_or escape_or
    is_strictly_left is_loosely_left over_blank over_break quoted_content quoted_turn may_trail behind_quoted
    quoted_tail quoted_scalar steps behind_comment skipped_comment comment pieces turns event_line quoted_char digits
    encode
returns-clause-four_digits c = refl

pub returns-clause-eight_digits : goal.returns-clause-eight_digits
unfolding is_printable is_break is_blank is_breakz is_blank_or_breakz is_flow is_z is_hex is_digit hex_value step past
    past_break letter_value digit_count is_high is_low is_closing digits_or second_half_or numbered_or escape_or
    is_strictly_left is_loosely_left over_blank over_break quoted_content quoted_turn may_trail behind_quoted
    quoted_tail quoted_scalar steps behind_comment skipped_comment comment pieces turns event_line quoted_char digits
    encode
returns-clause-eight_digits c = refl

pub returns-clause-two_halves : goal.returns-clause-two_halves
unfolding is_printable is_break is_blank is_breakz is_blank_or_breakz is_flow is_z is_hex is_digit hex_value step past
    past_break letter_value digit_count is_high is_low is_closing digits_or second_half_or numbered_or escape_or
    is_strictly_left is_loosely_left over_blank over_break quoted_content quoted_turn may_trail behind_quoted
    quoted_tail quoted_scalar steps behind_comment skipped_comment comment pieces turns event_line quoted_char digits
    encode
returns-clause-two_halves c = refl
