-- Each example is a computation.
use Rattle.std.proofs.Common.{refl}
use lib.Utf8.{encode}
use Rattle.std.specs.Fmt.{digits}
use Rattle.granit_base.specs.Classes.{is_printable, is_break, is_blank, is_breakz, is_blank_or_breakz, is_flow, is_z}
use Rattle.granit_base.specs.Classes.{is_hex, is_digit, hex_value}
use Rattle.granit_lexemes.specs.Comment.{behind_comment, skipped_comment, comment}
use Rattle.granit_lexemes.specs.Decoding.{letter_value, digit_count, is_high, is_low}
use Rattle.granit_lexemes.specs.Here.{step, past}
use Rattle.granit_lexemes.specs.Line.{event_line, quoted_char}
use Rattle.granit_lexemes.specs.Moves.{steps}
use Rattle.granit_lexemes.specs.Pieces.{pieces, turns}
use Rattle.granit_lexemes.specs.Basics.{past_break}
use Rattle.granit_lexemes.specs.QuotedScalar.{is_closing, digits_or, second_half_or, numbered_or, escape_or}
use Rattle.granit_lexemes.specs.QuotedScalar.{is_strictly_left, is_loosely_left, over_blank, over_break, quoted_content}
use Rattle.granit_lexemes.specs.QuotedScalar.{quoted_turn, may_trail, behind_quoted, quoted_tail, quoted_scalar}
use Rattle.granit_scalar_examples.proofs.quoted_examples.ends_of_quoted_examples.Goals as goal

pub returns-clause-bracket : goal.returns-clause-bracket
unfolding is_printable is_break is_blank is_breakz is_blank_or_breakz is_flow is_z is_hex is_digit hex_value step past
    past_break letter_value digit_count is_high is_low is_closing digits_or second_half_or numbered_or escape_or
    is_strictly_left is_loosely_left over_blank over_break quoted_content quoted_turn may_trail behind_quoted
    quoted_tail quoted_scalar steps behind_comment skipped_comment comment pieces turns event_line quoted_char digits
    encode
returns-clause-bracket c = refl

pub returns-clause-curly : goal.returns-clause-curly
unfolding is_printable is_break is_blank is_breakz is_blank_or_breakz is_flow is_z is_hex is_digit hex_value step past
    past_break letter_value digit_count is_high is_low is_closing digits_or second_half_or numbered_or escape_or
    is_strictly_left is_loosely_left over_blank over_break quoted_content quoted_turn may_trail behind_quoted
    quoted_tail quoted_scalar steps behind_comment skipped_comment comment pieces turns event_line quoted_char digits
    encode
returns-clause-curly c = refl

pub returns-clause-comma : goal.returns-clause-comma
unfolding is_printable is_break is_blank is_breakz is_blank_or_breakz is_flow is_z is_hex is_digit hex_value step past
    past_break letter_value digit_count is_high is_low is_closing digits_or second_half_or numbered_or escape_or
    is_strictly_left is_loosely_left over_blank over_break quoted_content quoted_turn may_trail behind_quoted
    quoted_tail quoted_scalar steps behind_comment skipped_comment comment pieces turns event_line quoted_char digits
    encode
returns-clause-comma c = refl

pub returns-clause-colon_in_flow : goal.returns-clause-colon_in_flow
unfolding is_printable is_break is_blank is_breakz is_blank_or_breakz is_flow is_z is_hex is_digit hex_value step past
    past_break letter_value digit_count is_high is_low is_closing digits_or second_half_or numbered_or escape_or
    is_strictly_left is_loosely_left over_blank over_break quoted_content quoted_turn may_trail behind_quoted
    quoted_tail quoted_scalar steps behind_comment skipped_comment comment pieces turns event_line quoted_char digits
    encode
returns-clause-colon_in_flow c = refl

pub returns-clause-colon_on_its_line : goal.returns-clause-colon_on_its_line
unfolding is_printable is_break is_blank is_breakz is_blank_or_breakz is_flow is_z is_hex is_digit hex_value step past
    past_break letter_value digit_count is_high is_low is_closing digits_or second_half_or numbered_or escape_or
    is_strictly_left is_loosely_left over_blank over_break quoted_content quoted_turn may_trail behind_quoted
    quoted_tail quoted_scalar steps behind_comment skipped_comment comment pieces turns event_line quoted_char digits
    encode
returns-clause-colon_on_its_line c = refl

pub returns-clause-colon_on_another_line : goal.returns-clause-colon_on_another_line
unfolding is_printable is_break is_blank is_breakz is_blank_or_breakz is_flow is_z is_hex is_digit hex_value step past
    past_break letter_value digit_count is_high is_low is_closing digits_or second_half_or numbered_or escape_or
    is_strictly_left is_loosely_left over_blank over_break quoted_content quoted_turn may_trail behind_quoted
    quoted_tail quoted_scalar steps behind_comment skipped_comment comment pieces turns event_line quoted_char digits
    encode
returns-clause-colon_on_another_line c = refl

pub returns-clause-colon_on_another_line_in_flow : goal.returns-clause-colon_on_another_line_in_flow
unfolding is_printable is_break is_blank is_breakz is_blank_or_breakz is_flow is_z is_hex is_digit hex_value step past
    past_break letter_value digit_count is_high is_low is_closing digits_or second_half_or numbered_or escape_or
    is_strictly_left is_loosely_left over_blank over_break quoted_content quoted_turn may_trail behind_quoted
    quoted_tail quoted_scalar steps behind_comment skipped_comment comment pieces turns event_line quoted_char digits
    encode
returns-clause-colon_on_another_line_in_flow c = refl

pub returns-clause-letter : goal.returns-clause-letter
unfolding is_printable is_break is_blank is_breakz is_blank_or_breakz is_flow is_z is_hex is_digit hex_value step past
    past_break letter_value digit_count is_high is_low is_closing digits_or second_half_or numbered_or escape_or
    is_strictly_left is_loosely_left over_blank over_break quoted_content quoted_turn may_trail behind_quoted
    quoted_tail quoted_scalar steps behind_comment skipped_comment comment pieces turns event_line quoted_char digits
    encode
returns-clause-letter c = refl

pub returns-clause-letter_in_double : goal.returns-clause-letter_in_double
unfolding is_printable is_break is_blank is_breakz is_blank_or_breakz is_flow is_z is_hex is_digit hex_value step past
    past_break letter_value digit_count is_high is_low is_closing digits_or second_half_or numbered_or escape_or
    is_strictly_left is_loosely_left over_blank over_break quoted_content quoted_turn may_trail behind_quoted
    quoted_tail quoted_scalar steps behind_comment skipped_comment comment pieces turns event_line quoted_char digits
    encode
returns-clause-letter_in_double c = refl

pub returns-clause-letter_behind_a_blank : goal.returns-clause-letter_behind_a_blank
unfolding is_printable is_break is_blank is_breakz is_blank_or_breakz is_flow is_z is_hex is_digit hex_value step past
    past_break letter_value digit_count is_high is_low is_closing digits_or second_half_or numbered_or escape_or
    is_strictly_left is_loosely_left over_blank over_break quoted_content quoted_turn may_trail behind_quoted
    quoted_tail quoted_scalar steps behind_comment skipped_comment comment pieces turns event_line quoted_char digits
    encode
returns-clause-letter_behind_a_blank c = refl

pub returns-clause-comma_outside_flow : goal.returns-clause-comma_outside_flow
unfolding is_printable is_break is_blank is_breakz is_blank_or_breakz is_flow is_z is_hex is_digit hex_value step past
    past_break letter_value digit_count is_high is_low is_closing digits_or second_half_or numbered_or escape_or
    is_strictly_left is_loosely_left over_blank over_break quoted_content quoted_turn may_trail behind_quoted
    quoted_tail quoted_scalar steps behind_comment skipped_comment comment pieces turns event_line quoted_char digits
    encode
returns-clause-comma_outside_flow c = refl

pub returns-clause-quote_behind_it : goal.returns-clause-quote_behind_it
unfolding is_printable is_break is_blank is_breakz is_blank_or_breakz is_flow is_z is_hex is_digit hex_value step past
    past_break letter_value digit_count is_high is_low is_closing digits_or second_half_or numbered_or escape_or
    is_strictly_left is_loosely_left over_blank over_break quoted_content quoted_turn may_trail behind_quoted
    quoted_tail quoted_scalar steps behind_comment skipped_comment comment pieces turns event_line quoted_char digits
    encode
returns-clause-quote_behind_it c = refl

pub returns-clause-hash : goal.returns-clause-hash
unfolding is_printable is_break is_blank is_breakz is_blank_or_breakz is_flow is_z is_hex is_digit hex_value step past
    past_break letter_value digit_count is_high is_low is_closing digits_or second_half_or numbered_or escape_or
    is_strictly_left is_loosely_left over_blank over_break quoted_content quoted_turn may_trail behind_quoted
    quoted_tail quoted_scalar steps behind_comment skipped_comment comment pieces turns event_line quoted_char digits
    encode
returns-clause-hash c = refl

pub returns-clause-hash_in_single : goal.returns-clause-hash_in_single
unfolding is_printable is_break is_blank is_breakz is_blank_or_breakz is_flow is_z is_hex is_digit hex_value step past
    past_break letter_value digit_count is_high is_low is_closing digits_or second_half_or numbered_or escape_or
    is_strictly_left is_loosely_left over_blank over_break quoted_content quoted_turn may_trail behind_quoted
    quoted_tail quoted_scalar steps behind_comment skipped_comment comment pieces turns event_line quoted_char digits
    encode
returns-clause-hash_in_single c = refl

pub returns-clause-comment : goal.returns-clause-comment
unfolding is_printable is_break is_blank is_breakz is_blank_or_breakz is_flow is_z is_hex is_digit hex_value step past
    past_break letter_value digit_count is_high is_low is_closing digits_or second_half_or numbered_or escape_or
    is_strictly_left is_loosely_left over_blank over_break quoted_content quoted_turn may_trail behind_quoted
    quoted_tail quoted_scalar steps behind_comment skipped_comment comment pieces turns event_line quoted_char digits
    encode
returns-clause-comment c = refl

pub returns-clause-unprintable_comment : goal.returns-clause-unprintable_comment
unfolding is_printable is_break is_blank is_breakz is_blank_or_breakz is_flow is_z is_hex is_digit hex_value step past
    past_break letter_value digit_count is_high is_low is_closing digits_or second_half_or numbered_or escape_or
    is_strictly_left is_loosely_left over_blank over_break quoted_content quoted_turn may_trail behind_quoted
    quoted_tail quoted_scalar steps behind_comment skipped_comment comment pieces turns event_line quoted_char digits
    encode
returns-clause-unprintable_comment c = refl

pub returns-clause-unprintable_behind_it : goal.returns-clause-unprintable_behind_it
unfolding is_printable is_break is_blank is_breakz is_blank_or_breakz is_flow is_z is_hex is_digit hex_value step past
    past_break letter_value digit_count is_high is_low is_closing digits_or second_half_or numbered_or escape_or
    is_strictly_left is_loosely_left over_blank over_break quoted_content quoted_turn may_trail behind_quoted
    quoted_tail quoted_scalar steps behind_comment skipped_comment comment pieces turns event_line quoted_char digits
    encode
returns-clause-unprintable_behind_it c = refl

pub returns-clause-nul_behind_it : goal.returns-clause-nul_behind_it
unfolding is_printable is_break is_blank is_breakz is_blank_or_breakz is_flow is_z is_hex is_digit hex_value step past
    past_break letter_value digit_count is_high is_low is_closing digits_or second_half_or numbered_or escape_or
    is_strictly_left is_loosely_left over_blank over_break quoted_content quoted_turn may_trail behind_quoted
    quoted_tail quoted_scalar steps behind_comment skipped_comment comment pieces turns event_line quoted_char digits
    encode
returns-clause-nul_behind_it c = refl

pub returns-clause-bracket_that_opens_in_flow : goal.returns-clause-bracket_that_opens_in_flow
unfolding is_printable is_break is_blank is_breakz is_blank_or_breakz is_flow is_z is_hex is_digit hex_value step past
    past_break letter_value digit_count is_high is_low is_closing digits_or second_half_or numbered_or escape_or
    is_strictly_left is_loosely_left over_blank over_break quoted_content quoted_turn may_trail behind_quoted
    quoted_tail quoted_scalar steps behind_comment skipped_comment comment pieces turns event_line quoted_char digits
    encode
returns-clause-bracket_that_opens_in_flow c = refl
