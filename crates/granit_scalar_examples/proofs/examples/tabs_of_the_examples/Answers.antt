-- Each example is a computation.
use Rattle.std.proofs.Common.{refl}
use lib.Utf8.{encode}
use Rattle.std.specs.Fmt.{digits}
use Rattle.granit_base.specs.Classes.{is_printable, is_break, is_blank, is_breakz, is_blank_or_breakz, is_flow, is_z}
use Rattle.granit_lexemes.specs.Here.{step}
use Rattle.granit_lexemes.specs.Line.{event_line, quoted_char}
use Rattle.granit_lexemes.specs.Pieces.{pieces, turns}
use Rattle.granit_lexemes.specs.Basics.{past_break}
use Rattle.granit_lexemes.specs.PlainScalar.{on_content, on_blank, on_break, plain_turn, behind_plain, plain_scalar}
use Rattle.granit_scalar_examples.proofs.examples.tabs_of_the_examples.Goals as goal

pub returns-clause-left : goal.returns-clause-left
unfolding is_printable is_break is_blank is_breakz is_blank_or_breakz is_flow is_z step past_break on_content on_blank
    on_break plain_turn behind_plain plain_scalar pieces turns event_line quoted_char digits encode
returns-clause-left c = refl

pub returns-clause-right : goal.returns-clause-right
unfolding is_printable is_break is_blank is_breakz is_blank_or_breakz is_flow is_z step past_break on_content on_blank
    on_break plain_turn behind_plain plain_scalar pieces turns event_line quoted_char digits encode
returns-clause-right c = refl

pub returns-clause-left_of_two : goal.returns-clause-left_of_two
unfolding is_printable is_break is_blank is_breakz is_blank_or_breakz is_flow is_z step past_break on_content on_blank
    on_break plain_turn behind_plain plain_scalar pieces turns event_line quoted_char digits encode
returns-clause-left_of_two c = refl

pub returns-clause-right_of_two : goal.returns-clause-right_of_two
unfolding is_printable is_break is_blank is_breakz is_blank_or_breakz is_flow is_z step past_break on_content on_blank
    on_break plain_turn behind_plain plain_scalar pieces turns event_line quoted_char digits encode
returns-clause-right_of_two c = refl

pub returns-clause-at_the_root : goal.returns-clause-at_the_root
unfolding is_printable is_break is_blank is_breakz is_blank_or_breakz is_flow is_z step past_break on_content on_blank
    on_break plain_turn behind_plain plain_scalar pieces turns event_line quoted_char digits encode
returns-clause-at_the_root c = refl

pub returns-clause-empty_line : goal.returns-clause-empty_line
unfolding is_printable is_break is_blank is_breakz is_blank_or_breakz is_flow is_z step past_break on_content on_blank
    on_break plain_turn behind_plain plain_scalar pieces turns event_line quoted_char digits encode
returns-clause-empty_line c = refl

pub returns-clause-in_flow : goal.returns-clause-in_flow
unfolding is_printable is_break is_blank is_breakz is_blank_or_breakz is_flow is_z step past_break on_content on_blank
    on_break plain_turn behind_plain plain_scalar pieces turns event_line quoted_char digits encode
returns-clause-in_flow c = refl

pub returns-clause-before_the_next_key : goal.returns-clause-before_the_next_key
unfolding is_printable is_break is_blank is_breakz is_blank_or_breakz is_flow is_z step past_break on_content on_blank
    on_break plain_turn behind_plain plain_scalar pieces turns event_line quoted_char digits encode
returns-clause-before_the_next_key c = refl

pub returns-clause-before_an_indicator : goal.returns-clause-before_an_indicator
unfolding is_printable is_break is_blank is_breakz is_blank_or_breakz is_flow is_z step past_break on_content on_blank
    on_break plain_turn behind_plain plain_scalar pieces turns event_line quoted_char digits encode
returns-clause-before_an_indicator c = refl
