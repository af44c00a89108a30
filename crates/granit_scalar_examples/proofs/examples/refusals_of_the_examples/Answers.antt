-- Each example is a computation.
use Rattle.std.proofs.Common.{refl}
use lib.Utf8.{encode}
use Rattle.std.specs.Fmt.{digits}
use Rattle.granit_base.specs.Classes.{is_printable, is_break, is_blank, is_breakz, is_blank_or_breakz, is_flow, is_z}
use Rattle.granit_lexemes.specs.Here.{step}
use Rattle.granit_lexemes.specs.Line.{event_line, quoted_char}
use Rattle.granit_lexemes.specs.Pieces.{pieces, turns}
use Rattle.granit_lexemes.specs.Basics.{past_break}
use Rattle.granit_lexemes.specs.PlainScalar.{on_content, on_blank, on_break, plain_turn, behind_plain, plain_scalar}
use Rattle.granit_scalar_examples.proofs.examples.refusals_of_the_examples.Goals as goal

pub returns-clause-nul : goal.returns-clause-nul
unfolding is_printable is_break is_blank is_breakz is_blank_or_breakz is_flow is_z step past_break on_content on_blank
    on_break plain_turn behind_plain plain_scalar pieces turns event_line quoted_char digits encode
returns-clause-nul c = refl

pub returns-clause-nul_behind_a_blank : goal.returns-clause-nul_behind_a_blank
unfolding is_printable is_break is_blank is_breakz is_blank_or_breakz is_flow is_z step past_break on_content on_blank
    on_break plain_turn behind_plain plain_scalar pieces turns event_line quoted_char digits encode
returns-clause-nul_behind_a_blank c = refl

pub returns-clause-nul_behind_a_left_tab : goal.returns-clause-nul_behind_a_left_tab
unfolding is_printable is_break is_blank is_breakz is_blank_or_breakz is_flow is_z step past_break on_content on_blank
    on_break plain_turn behind_plain plain_scalar pieces turns event_line quoted_char digits encode
returns-clause-nul_behind_a_left_tab c = refl

pub returns-clause-unprintable_inside : goal.returns-clause-unprintable_inside
unfolding is_printable is_break is_blank is_breakz is_blank_or_breakz is_flow is_z step past_break on_content on_blank
    on_break plain_turn behind_plain plain_scalar pieces turns event_line quoted_char digits encode
returns-clause-unprintable_inside c = refl

pub returns-clause-two_unprintable : goal.returns-clause-two_unprintable
unfolding is_printable is_break is_blank is_breakz is_blank_or_breakz is_flow is_z step past_break on_content on_blank
    on_break plain_turn behind_plain plain_scalar pieces turns event_line quoted_char digits encode
returns-clause-two_unprintable c = refl

pub returns-clause-tab_before_unprintable : goal.returns-clause-tab_before_unprintable
unfolding is_printable is_break is_blank is_breakz is_blank_or_breakz is_flow is_z step past_break on_content on_blank
    on_break plain_turn behind_plain plain_scalar pieces turns event_line quoted_char digits encode
returns-clause-tab_before_unprintable c = refl

pub returns-clause-dash_comma : goal.returns-clause-dash_comma
unfolding is_printable is_break is_blank is_breakz is_blank_or_breakz is_flow is_z step past_break on_content on_blank
    on_break plain_turn behind_plain plain_scalar pieces turns event_line quoted_char digits encode
returns-clause-dash_comma c = refl

pub returns-clause-dash_left_square : goal.returns-clause-dash_left_square
unfolding is_printable is_break is_blank is_breakz is_blank_or_breakz is_flow is_z step past_break on_content on_blank
    on_break plain_turn behind_plain plain_scalar pieces turns event_line quoted_char digits encode
returns-clause-dash_left_square c = refl

pub returns-clause-dash_right_square : goal.returns-clause-dash_right_square
unfolding is_printable is_break is_blank is_breakz is_blank_or_breakz is_flow is_z step past_break on_content on_blank
    on_break plain_turn behind_plain plain_scalar pieces turns event_line quoted_char digits encode
returns-clause-dash_right_square c = refl

pub returns-clause-dash_left_curly : goal.returns-clause-dash_left_curly
unfolding is_printable is_break is_blank is_breakz is_blank_or_breakz is_flow is_z step past_break on_content on_blank
    on_break plain_turn behind_plain plain_scalar pieces turns event_line quoted_char digits encode
returns-clause-dash_left_curly c = refl

pub returns-clause-dash_right_curly : goal.returns-clause-dash_right_curly
unfolding is_printable is_break is_blank is_breakz is_blank_or_breakz is_flow is_z step past_break on_content on_blank
    on_break plain_turn behind_plain plain_scalar pieces turns event_line quoted_char digits encode
returns-clause-dash_right_curly c = refl

pub returns-clause-dash_letter : goal.returns-clause-dash_letter
unfolding is_printable is_break is_blank is_breakz is_blank_or_breakz is_flow is_z step past_break on_content on_blank
    on_break plain_turn behind_plain plain_scalar pieces turns event_line quoted_char digits encode
returns-clause-dash_letter c = refl
