-- Each example is a computation.
use Rattle.std.proofs.Common.{refl}
use lib.Utf8.{encode}
use Rattle.std.specs.Fmt.{digits}
use Rattle.granit_base.specs.Classes.{is_printable, is_break, is_blank, is_breakz, is_blank_or_breakz, is_flow, is_z}
use Rattle.granit_lexemes.specs.Here.{step}
use Rattle.granit_lexemes.specs.Line.{event_line, quoted_char}
use Rattle.granit_lexemes.specs.Pieces.{pieces, turns}
use Rattle.granit_lexemes.specs.Basics.{past_break}
use Rattle.granit_lexemes.specs.PlainScalar.{on_content, on_blank, on_break, plain_turn, behind_plain, plain_scalar}
use Rattle.granit_scalar_examples.proofs.examples.folds_of_the_examples.Goals as goal

pub returns-clause-one : goal.returns-clause-one
unfolding is_printable is_break is_blank is_breakz is_blank_or_breakz is_flow is_z step past_break on_content on_blank
    on_break plain_turn behind_plain plain_scalar pieces turns event_line quoted_char digits encode
returns-clause-one c = refl

pub returns-clause-two : goal.returns-clause-two
unfolding is_printable is_break is_blank is_breakz is_blank_or_breakz is_flow is_z step past_break on_content on_blank
    on_break plain_turn behind_plain plain_scalar pieces turns event_line quoted_char digits encode
returns-clause-two c = refl

pub returns-clause-three : goal.returns-clause-three
unfolding is_printable is_break is_blank is_breakz is_blank_or_breakz is_flow is_z step past_break on_content on_blank
    on_break plain_turn behind_plain plain_scalar pieces turns event_line quoted_char digits encode
returns-clause-three c = refl

pub returns-clause-cr : goal.returns-clause-cr
unfolding is_printable is_break is_blank is_breakz is_blank_or_breakz is_flow is_z step past_break on_content on_blank
    on_break plain_turn behind_plain plain_scalar pieces turns event_line quoted_char digits encode
returns-clause-cr c = refl

pub returns-clause-cr_lf : goal.returns-clause-cr_lf
unfolding is_printable is_break is_blank is_breakz is_blank_or_breakz is_flow is_z step past_break on_content on_blank
    on_break plain_turn behind_plain plain_scalar pieces turns event_line quoted_char digits encode
returns-clause-cr_lf c = refl

pub returns-clause-two_cr_lf : goal.returns-clause-two_cr_lf
unfolding is_printable is_break is_blank is_breakz is_blank_or_breakz is_flow is_z step past_break on_content on_blank
    on_break plain_turn behind_plain plain_scalar pieces turns event_line quoted_char digits encode
returns-clause-two_cr_lf c = refl

pub returns-clause-cr_and_lf : goal.returns-clause-cr_and_lf
unfolding is_printable is_break is_blank is_breakz is_blank_or_breakz is_flow is_z step past_break on_content on_blank
    on_break plain_turn behind_plain plain_scalar pieces turns event_line quoted_char digits encode
returns-clause-cr_and_lf c = refl

pub returns-clause-blanks_around : goal.returns-clause-blanks_around
unfolding is_printable is_break is_blank is_breakz is_blank_or_breakz is_flow is_z step past_break on_content on_blank
    on_break plain_turn behind_plain plain_scalar pieces turns event_line quoted_char digits encode
returns-clause-blanks_around c = refl

pub returns-clause-blanks_inside : goal.returns-clause-blanks_inside
unfolding is_printable is_break is_blank is_breakz is_blank_or_breakz is_flow is_z step past_break on_content on_blank
    on_break plain_turn behind_plain plain_scalar pieces turns event_line quoted_char digits encode
returns-clause-blanks_inside c = refl

pub returns-clause-four_lines : goal.returns-clause-four_lines
unfolding is_printable is_break is_blank is_breakz is_blank_or_breakz is_flow is_z step past_break on_content on_blank
    on_break plain_turn behind_plain plain_scalar pieces turns event_line quoted_char digits encode
returns-clause-four_lines c = refl
