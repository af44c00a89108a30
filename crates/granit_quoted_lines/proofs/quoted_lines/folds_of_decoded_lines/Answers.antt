-- Each example is a computation.
use Rattle.std.proofs.Common.{refl}
use Rattle.granit_base.specs.Classes.{is_break, is_blank, is_hex, is_digit, hex_value}
use Rattle.granit_lexemes.specs.Decoding.{letter_value, digit_count, is_high, is_low}
use Rattle.granit_quoted_lines.proofs.quoted_lines.folds_of_decoded_lines.Goals as goal

pub returns-clause-escaped_break : goal.returns-clause-escaped_break
unfolding is_break is_blank is_hex is_digit hex_value letter_value digit_count is_high is_low
returns-clause-escaped_break c = refl

pub returns-clause-double : goal.returns-clause-double
unfolding is_break is_blank is_hex is_digit hex_value letter_value digit_count is_high is_low
returns-clause-double c = refl

pub returns-clause-single : goal.returns-clause-single
unfolding is_break is_blank is_hex is_digit hex_value letter_value digit_count is_high is_low
returns-clause-single c = refl

pub returns-clause-doubled : goal.returns-clause-doubled
unfolding is_break is_blank is_hex is_digit hex_value letter_value digit_count is_high is_low
returns-clause-doubled c = refl

pub returns-clause-empty_line_behind : goal.returns-clause-empty_line_behind
unfolding is_break is_blank is_hex is_digit hex_value letter_value digit_count is_high is_low
returns-clause-empty_line_behind c = refl

pub returns-clause-alone_on_its_line : goal.returns-clause-alone_on_its_line
unfolding is_break is_blank is_hex is_digit hex_value letter_value digit_count is_high is_low
returns-clause-alone_on_its_line c = refl

pub returns-clause-escaped_blanks : goal.returns-clause-escaped_blanks
unfolding is_break is_blank is_hex is_digit hex_value letter_value digit_count is_high is_low
returns-clause-escaped_blanks c = refl

pub returns-clause-numbers : goal.returns-clause-numbers
unfolding is_break is_blank is_hex is_digit hex_value letter_value digit_count is_high is_low
returns-clause-numbers c = refl

pub returns-clause-on_one_line : goal.returns-clause-on_one_line
unfolding is_break is_blank is_hex is_digit hex_value letter_value digit_count is_high is_low
returns-clause-on_one_line c = refl
