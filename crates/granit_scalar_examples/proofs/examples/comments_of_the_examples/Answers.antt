-- Each example is a computation.
use Rattle.std.proofs.Common.{refl}
use lib.Utf8.{encode}
use Rattle.std.specs.Fmt.{digits}
use Rattle.granit_base.specs.Classes.{is_printable, is_break, is_blank, is_breakz, is_blank_or_breakz, is_flow, is_z}
use Rattle.granit_lexemes.specs.Here.{step}
use Rattle.granit_lexemes.specs.Line.{event_line, quoted_char}
use Rattle.granit_lexemes.specs.Pieces.{pieces, turns}
use Rattle.granit_lexemes.specs.Basics.{past_break}
use Rattle.granit_lexemes.specs.PlainScalar.{on_content, on_blank, on_break, plain_turn, behind_plain, plain_scalar}
use Rattle.granit_scalar_examples.proofs.examples.comments_of_the_examples.Goals as goal

pub returns-clause-after_a_blank : goal.returns-clause-after_a_blank
unfolding is_printable is_break is_blank is_breakz is_blank_or_breakz is_flow is_z step past_break on_content on_blank
    on_break plain_turn behind_plain plain_scalar pieces turns event_line quoted_char digits encode
returns-clause-after_a_blank c = refl

pub returns-clause-after_a_tab : goal.returns-clause-after_a_tab
unfolding is_printable is_break is_blank is_breakz is_blank_or_breakz is_flow is_z step past_break on_content on_blank
    on_break plain_turn behind_plain plain_scalar pieces turns event_line quoted_char digits encode
returns-clause-after_a_tab c = refl

pub returns-clause-on_the_next_line : goal.returns-clause-on_the_next_line
unfolding is_printable is_break is_blank is_breakz is_blank_or_breakz is_flow is_z step past_break on_content on_blank
    on_break plain_turn behind_plain plain_scalar pieces turns event_line quoted_char digits encode
returns-clause-on_the_next_line c = refl

pub returns-clause-behind_a_left_tab : goal.returns-clause-behind_a_left_tab
unfolding is_printable is_break is_blank is_breakz is_blank_or_breakz is_flow is_z step past_break on_content on_blank
    on_break plain_turn behind_plain plain_scalar pieces turns event_line quoted_char digits encode
returns-clause-behind_a_left_tab c = refl

pub returns-clause-behind_a_right_tab : goal.returns-clause-behind_a_right_tab
unfolding is_printable is_break is_blank is_breakz is_blank_or_breakz is_flow is_z step past_break on_content on_blank
    on_break plain_turn behind_plain plain_scalar pieces turns event_line quoted_char digits encode
returns-clause-behind_a_right_tab c = refl

pub returns-clause-in_flow : goal.returns-clause-in_flow
unfolding is_printable is_break is_blank is_breakz is_blank_or_breakz is_flow is_z step past_break on_content on_blank
    on_break plain_turn behind_plain plain_scalar pieces turns event_line quoted_char digits encode
returns-clause-in_flow c = refl
