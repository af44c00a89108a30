-- Each example is a computation.
use Rattle.std.proofs.Common.{refl}
use lib.Utf8.{encode}
use Rattle.std.specs.Fmt.{digits}
use Rattle.granit_base.specs.Classes.{is_printable, is_break, is_blank, is_breakz, is_blank_or_breakz, is_flow, is_z}
use Rattle.granit_base.specs.Classes.{is_hex, is_digit, hex_value}
use Rattle.granit_lexemes.specs.Comment.{behind_comment, skipped_comment, comment}
use Rattle.granit_lexemes.specs.Decoding.{letter_value, digit_count, is_high, is_low}
use Rattle.granit_lexemes.specs.Here.{step, past}
use Rattle.granit_lexemes.specs.Line.{event_line, quoted_char}
use Rattle.granit_lexemes.specs.Moves.{steps}
use Rattle.granit_lexemes.specs.Pieces.{pieces, turns}
use Rattle.granit_lexemes.specs.Basics.{past_break}
use Rattle.granit_lexemes.specs.QuotedScalar.{is_closing, digits_or, second_half_or, numbered_or, escape_or}
use Rattle.granit_lexemes.specs.QuotedScalar.{is_strictly_left, is_loosely_left, over_blank, over_break, quoted_content}
use Rattle.granit_lexemes.specs.QuotedScalar.{quoted_turn, may_trail, behind_quoted, quoted_tail, quoted_scalar}
use Rattle.granit_scalar_examples.proofs.quoted_examples.places_of_quoted_examples.Goals as goal

pub returns-clause-strict_in_flow : goal.returns-clause-strict_in_flow
unfolding is_printable is_break is_blank is_breakz is_blank_or_breakz is_flow is_z is_hex is_digit hex_value step past
    past_break letter_value digit_count is_high is_low is_closing digits_or second_half_or numbered_or escape_or
    is_strictly_left is_loosely_left over_blank over_break quoted_content quoted_turn may_trail behind_quoted
    quoted_tail quoted_scalar steps behind_comment skipped_comment comment pieces turns event_line quoted_char digits
    encode
returns-clause-strict_in_flow c = refl

pub returns-clause-strict_escaped : goal.returns-clause-strict_escaped
unfolding is_printable is_break is_blank is_breakz is_blank_or_breakz is_flow is_z is_hex is_digit hex_value step past
    past_break letter_value digit_count is_high is_low is_closing digits_or second_half_or numbered_or escape_or
    is_strictly_left is_loosely_left over_blank over_break quoted_content quoted_turn may_trail behind_quoted
    quoted_tail quoted_scalar steps behind_comment skipped_comment comment pieces turns event_line quoted_char digits
    encode
returns-clause-strict_escaped c = refl

pub returns-clause-strict_quote_in_flow : goal.returns-clause-strict_quote_in_flow
unfolding is_printable is_break is_blank is_breakz is_blank_or_breakz is_flow is_z is_hex is_digit hex_value step past
    past_break letter_value digit_count is_high is_low is_closing digits_or second_half_or numbered_or escape_or
    is_strictly_left is_loosely_left over_blank over_break quoted_content quoted_turn may_trail behind_quoted
    quoted_tail quoted_scalar steps behind_comment skipped_comment comment pieces turns event_line quoted_char digits
    encode
returns-clause-strict_quote_in_flow c = refl

pub returns-clause-strict_in_flow_to_the_right : goal.returns-clause-strict_in_flow_to_the_right
unfolding is_printable is_break is_blank is_breakz is_blank_or_breakz is_flow is_z is_hex is_digit hex_value step past
    past_break letter_value digit_count is_high is_low is_closing digits_or second_half_or numbered_or escape_or
    is_strictly_left is_loosely_left over_blank over_break quoted_content quoted_turn may_trail behind_quoted
    quoted_tail quoted_scalar steps behind_comment skipped_comment comment pieces turns event_line quoted_char digits
    encode
returns-clause-strict_in_flow_to_the_right c = refl

pub returns-clause-in_flow : goal.returns-clause-in_flow
unfolding is_printable is_break is_blank is_breakz is_blank_or_breakz is_flow is_z is_hex is_digit hex_value step past
    past_break letter_value digit_count is_high is_low is_closing digits_or second_half_or numbered_or escape_or
    is_strictly_left is_loosely_left over_blank over_break quoted_content quoted_turn may_trail behind_quoted
    quoted_tail quoted_scalar steps behind_comment skipped_comment comment pieces turns event_line quoted_char digits
    encode
returns-clause-in_flow c = refl

pub returns-clause-escaped : goal.returns-clause-escaped
unfolding is_printable is_break is_blank is_breakz is_blank_or_breakz is_flow is_z is_hex is_digit hex_value step past
    past_break letter_value digit_count is_high is_low is_closing digits_or second_half_or numbered_or escape_or
    is_strictly_left is_loosely_left over_blank over_break quoted_content quoted_turn may_trail behind_quoted
    quoted_tail quoted_scalar steps behind_comment skipped_comment comment pieces turns event_line quoted_char digits
    encode
returns-clause-escaped c = refl

pub returns-clause-strict_end_in_flow : goal.returns-clause-strict_end_in_flow
unfolding is_printable is_break is_blank is_breakz is_blank_or_breakz is_flow is_z is_hex is_digit hex_value step past
    past_break letter_value digit_count is_high is_low is_closing digits_or second_half_or numbered_or escape_or
    is_strictly_left is_loosely_left over_blank over_break quoted_content quoted_turn may_trail behind_quoted
    quoted_tail quoted_scalar steps behind_comment skipped_comment comment pieces turns event_line quoted_char digits
    encode
returns-clause-strict_end_in_flow c = refl

pub returns-clause-tab : goal.returns-clause-tab
unfolding is_printable is_break is_blank is_breakz is_blank_or_breakz is_flow is_z is_hex is_digit hex_value step past
    past_break letter_value digit_count is_high is_low is_closing digits_or second_half_or numbered_or escape_or
    is_strictly_left is_loosely_left over_blank over_break quoted_content quoted_turn may_trail behind_quoted
    quoted_tail quoted_scalar steps behind_comment skipped_comment comment pieces turns event_line quoted_char digits
    encode
returns-clause-tab c = refl

pub returns-clause-tab_before_content : goal.returns-clause-tab_before_content
unfolding is_printable is_break is_blank is_breakz is_blank_or_breakz is_flow is_z is_hex is_digit hex_value step past
    past_break letter_value digit_count is_high is_low is_closing digits_or second_half_or numbered_or escape_or
    is_strictly_left is_loosely_left over_blank over_break quoted_content quoted_turn may_trail behind_quoted
    quoted_tail quoted_scalar steps behind_comment skipped_comment comment pieces turns event_line quoted_char digits
    encode
returns-clause-tab_before_content c = refl

pub returns-clause-tab_at_the_column : goal.returns-clause-tab_at_the_column
unfolding is_printable is_break is_blank is_breakz is_blank_or_breakz is_flow is_z is_hex is_digit hex_value step past
    past_break letter_value digit_count is_high is_low is_closing digits_or second_half_or numbered_or escape_or
    is_strictly_left is_loosely_left over_blank over_break quoted_content quoted_turn may_trail behind_quoted
    quoted_tail quoted_scalar steps behind_comment skipped_comment comment pieces turns event_line quoted_char digits
    encode
returns-clause-tab_at_the_column c = refl

pub returns-clause-tab_on_an_empty_line : goal.returns-clause-tab_on_an_empty_line
unfolding is_printable is_break is_blank is_breakz is_blank_or_breakz is_flow is_z is_hex is_digit hex_value step past
    past_break letter_value digit_count is_high is_low is_closing digits_or second_half_or numbered_or escape_or
    is_strictly_left is_loosely_left over_blank over_break quoted_content quoted_turn may_trail behind_quoted
    quoted_tail quoted_scalar steps behind_comment skipped_comment comment pieces turns event_line quoted_char digits
    encode
returns-clause-tab_on_an_empty_line c = refl

pub returns-clause-tab_before_the_quote : goal.returns-clause-tab_before_the_quote
unfolding is_printable is_break is_blank is_breakz is_blank_or_breakz is_flow is_z is_hex is_digit hex_value step past
    past_break letter_value digit_count is_high is_low is_closing digits_or second_half_or numbered_or escape_or
    is_strictly_left is_loosely_left over_blank over_break quoted_content quoted_turn may_trail behind_quoted
    quoted_tail quoted_scalar steps behind_comment skipped_comment comment pieces turns event_line quoted_char digits
    encode
returns-clause-tab_before_the_quote c = refl

pub returns-clause-tab_behind_an_escaped_break : goal.returns-clause-tab_behind_an_escaped_break
unfolding is_printable is_break is_blank is_breakz is_blank_or_breakz is_flow is_z is_hex is_digit hex_value step past
    past_break letter_value digit_count is_high is_low is_closing digits_or second_half_or numbered_or escape_or
    is_strictly_left is_loosely_left over_blank over_break quoted_content quoted_turn may_trail behind_quoted
    quoted_tail quoted_scalar steps behind_comment skipped_comment comment pieces turns event_line quoted_char digits
    encode
returns-clause-tab_behind_an_escaped_break c = refl

pub returns-clause-tab_at_the_root : goal.returns-clause-tab_at_the_root
unfolding is_printable is_break is_blank is_breakz is_blank_or_breakz is_flow is_z is_hex is_digit hex_value step past
    past_break letter_value digit_count is_high is_low is_closing digits_or second_half_or numbered_or escape_or
    is_strictly_left is_loosely_left over_blank over_break quoted_content quoted_turn may_trail behind_quoted
    quoted_tail quoted_scalar steps behind_comment skipped_comment comment pieces turns event_line quoted_char digits
    encode
returns-clause-tab_at_the_root c = refl

pub returns-clause-left : goal.returns-clause-left
unfolding is_printable is_break is_blank is_breakz is_blank_or_breakz is_flow is_z is_hex is_digit hex_value step past
    past_break letter_value digit_count is_high is_low is_closing digits_or second_half_or numbered_or escape_or
    is_strictly_left is_loosely_left over_blank over_break quoted_content quoted_turn may_trail behind_quoted
    quoted_tail quoted_scalar steps behind_comment skipped_comment comment pieces turns event_line quoted_char digits
    encode
returns-clause-left c = refl

pub returns-clause-left_content : goal.returns-clause-left_content
unfolding is_printable is_break is_blank is_breakz is_blank_or_breakz is_flow is_z is_hex is_digit hex_value step past
    past_break letter_value digit_count is_high is_low is_closing digits_or second_half_or numbered_or escape_or
    is_strictly_left is_loosely_left over_blank over_break quoted_content quoted_turn may_trail behind_quoted
    quoted_tail quoted_scalar steps behind_comment skipped_comment comment pieces turns event_line quoted_char digits
    encode
returns-clause-left_content c = refl

pub returns-clause-left_doubled : goal.returns-clause-left_doubled
unfolding is_printable is_break is_blank is_breakz is_blank_or_breakz is_flow is_z is_hex is_digit hex_value step past
    past_break letter_value digit_count is_high is_low is_closing digits_or second_half_or numbered_or escape_or
    is_strictly_left is_loosely_left over_blank over_break quoted_content quoted_turn may_trail behind_quoted
    quoted_tail quoted_scalar steps behind_comment skipped_comment comment pieces turns event_line quoted_char digits
    encode
returns-clause-left_doubled c = refl

pub returns-clause-left_quote : goal.returns-clause-left_quote
unfolding is_printable is_break is_blank is_breakz is_blank_or_breakz is_flow is_z is_hex is_digit hex_value step past
    past_break letter_value digit_count is_high is_low is_closing digits_or second_half_or numbered_or escape_or
    is_strictly_left is_loosely_left over_blank over_break quoted_content quoted_turn may_trail behind_quoted
    quoted_tail quoted_scalar steps behind_comment skipped_comment comment pieces turns event_line quoted_char digits
    encode
returns-clause-left_quote c = refl

pub returns-clause-strict_left_quote : goal.returns-clause-strict_left_quote
unfolding is_printable is_break is_blank is_breakz is_blank_or_breakz is_flow is_z is_hex is_digit hex_value step past
    past_break letter_value digit_count is_high is_low is_closing digits_or second_half_or numbered_or escape_or
    is_strictly_left is_loosely_left over_blank over_break quoted_content quoted_turn may_trail behind_quoted
    quoted_tail quoted_scalar steps behind_comment skipped_comment comment pieces turns event_line quoted_char digits
    encode
returns-clause-strict_left_quote c = refl

pub returns-clause-right : goal.returns-clause-right
unfolding is_printable is_break is_blank is_breakz is_blank_or_breakz is_flow is_z is_hex is_digit hex_value step past
    past_break letter_value digit_count is_high is_low is_closing digits_or second_half_or numbered_or escape_or
    is_strictly_left is_loosely_left over_blank over_break quoted_content quoted_turn may_trail behind_quoted
    quoted_tail quoted_scalar steps behind_comment skipped_comment comment pieces turns event_line quoted_char digits
    encode
returns-clause-right c = refl

pub returns-clause-left_mark : goal.returns-clause-left_mark
unfolding is_printable is_break is_blank is_breakz is_blank_or_breakz is_flow is_z is_hex is_digit hex_value step past
    past_break letter_value digit_count is_high is_low is_closing digits_or second_half_or numbered_or escape_or
    is_strictly_left is_loosely_left over_blank over_break quoted_content quoted_turn may_trail behind_quoted
    quoted_tail quoted_scalar steps behind_comment skipped_comment comment pieces turns event_line quoted_char digits
    encode
returns-clause-left_mark c = refl

pub returns-clause-dashes : goal.returns-clause-dashes
unfolding is_printable is_break is_blank is_breakz is_blank_or_breakz is_flow is_z is_hex is_digit hex_value step past
    past_break letter_value digit_count is_high is_low is_closing digits_or second_half_or numbered_or escape_or
    is_strictly_left is_loosely_left over_blank over_break quoted_content quoted_turn may_trail behind_quoted
    quoted_tail quoted_scalar steps behind_comment skipped_comment comment pieces turns event_line quoted_char digits
    encode
returns-clause-dashes c = refl

pub returns-clause-dots : goal.returns-clause-dots
unfolding is_printable is_break is_blank is_breakz is_blank_or_breakz is_flow is_z is_hex is_digit hex_value step past
    past_break letter_value digit_count is_high is_low is_closing digits_or second_half_or numbered_or escape_or
    is_strictly_left is_loosely_left over_blank over_break quoted_content quoted_turn may_trail behind_quoted
    quoted_tail quoted_scalar steps behind_comment skipped_comment comment pieces turns event_line quoted_char digits
    encode
returns-clause-dots c = refl

pub returns-clause-dashes_in_flow : goal.returns-clause-dashes_in_flow
unfolding is_printable is_break is_blank is_breakz is_blank_or_breakz is_flow is_z is_hex is_digit hex_value step past
    past_break letter_value digit_count is_high is_low is_closing digits_or second_half_or numbered_or escape_or
    is_strictly_left is_loosely_left over_blank over_break quoted_content quoted_turn may_trail behind_quoted
    quoted_tail quoted_scalar steps behind_comment skipped_comment comment pieces turns event_line quoted_char digits
    encode
returns-clause-dashes_in_flow c = refl

pub returns-clause-unclosed : goal.returns-clause-unclosed
unfolding is_printable is_break is_blank is_breakz is_blank_or_breakz is_flow is_z is_hex is_digit hex_value step past
    past_break letter_value digit_count is_high is_low is_closing digits_or second_half_or numbered_or escape_or
    is_strictly_left is_loosely_left over_blank over_break quoted_content quoted_turn may_trail behind_quoted
    quoted_tail quoted_scalar steps behind_comment skipped_comment comment pieces turns event_line quoted_char digits
    encode
returns-clause-unclosed c = refl

pub returns-clause-unclosed_behind_a_break : goal.returns-clause-unclosed_behind_a_break
unfolding is_printable is_break is_blank is_breakz is_blank_or_breakz is_flow is_z is_hex is_digit hex_value step past
    past_break letter_value digit_count is_high is_low is_closing digits_or second_half_or numbered_or escape_or
    is_strictly_left is_loosely_left over_blank over_break quoted_content quoted_turn may_trail behind_quoted
    quoted_tail quoted_scalar steps behind_comment skipped_comment comment pieces turns event_line quoted_char digits
    encode
returns-clause-unclosed_behind_a_break c = refl

pub returns-clause-unclosed_behind_an_escaped_break : goal.returns-clause-unclosed_behind_an_escaped_break
unfolding is_printable is_break is_blank is_breakz is_blank_or_breakz is_flow is_z is_hex is_digit hex_value step past
    past_break letter_value digit_count is_high is_low is_closing digits_or second_half_or numbered_or escape_or
    is_strictly_left is_loosely_left over_blank over_break quoted_content quoted_turn may_trail behind_quoted
    quoted_tail quoted_scalar steps behind_comment skipped_comment comment pieces turns event_line quoted_char digits
    encode
returns-clause-unclosed_behind_an_escaped_break c = refl

pub returns-clause-unprintable : goal.returns-clause-unprintable
unfolding is_printable is_break is_blank is_breakz is_blank_or_breakz is_flow is_z is_hex is_digit hex_value step past
    past_break letter_value digit_count is_high is_low is_closing digits_or second_half_or numbered_or escape_or
    is_strictly_left is_loosely_left over_blank over_break quoted_content quoted_turn may_trail behind_quoted
    quoted_tail quoted_scalar steps behind_comment skipped_comment comment pieces turns event_line quoted_char digits
    encode
returns-clause-unprintable c = refl

pub returns-clause-nul : goal.returns-clause-nul
unfolding is_printable is_break is_blank is_breakz is_blank_or_breakz is_flow is_z is_hex is_digit hex_value step past
    past_break letter_value digit_count is_high is_low is_closing digits_or second_half_or numbered_or escape_or
    is_strictly_left is_loosely_left over_blank over_break quoted_content quoted_turn may_trail behind_quoted
    quoted_tail quoted_scalar steps behind_comment skipped_comment comment pieces turns event_line quoted_char digits
    encode
returns-clause-nul c = refl

pub returns-clause-left_unprintable : goal.returns-clause-left_unprintable
unfolding is_printable is_break is_blank is_breakz is_blank_or_breakz is_flow is_z is_hex is_digit hex_value step past
    past_break letter_value digit_count is_high is_low is_closing digits_or second_half_or numbered_or escape_or
    is_strictly_left is_loosely_left over_blank over_break quoted_content quoted_turn may_trail behind_quoted
    quoted_tail quoted_scalar steps behind_comment skipped_comment comment pieces turns event_line quoted_char digits
    encode
returns-clause-left_unprintable c = refl
