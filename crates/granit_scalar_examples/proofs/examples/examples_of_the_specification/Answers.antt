-- Each example is a computation.
use Rattle.std.proofs.Common.{refl}
use lib.Utf8.{encode}
use Rattle.std.specs.Fmt.{digits}
use Rattle.granit_base.specs.Classes.{is_printable, is_break, is_blank, is_breakz, is_blank_or_breakz, is_flow, is_z}
use Rattle.granit_lexemes.specs.Here.{step}
use Rattle.granit_lexemes.specs.Line.{event_line, quoted_char}
use Rattle.granit_lexemes.specs.Pieces.{pieces, turns}
use Rattle.granit_lexemes.specs.Basics.{past_break}
use Rattle.granit_lexemes.specs.PlainScalar.{on_content, on_blank, on_break, plain_turn, behind_plain, plain_scalar}
use Rattle.granit_scalar_examples.proofs.examples.examples_of_the_specification.Goals as goal

pub returns-clause-vector : goal.returns-clause-vector
unfolding is_printable is_break is_blank is_breakz is_blank_or_breakz is_flow is_z step past_break on_content on_blank
    on_break plain_turn behind_plain plain_scalar pieces turns event_line quoted_char digits encode
returns-clause-vector c = refl

pub returns-clause-words : goal.returns-clause-words
unfolding is_printable is_break is_blank is_breakz is_blank_or_breakz is_flow is_z step past_break on_content on_blank
    on_break plain_turn behind_plain plain_scalar pieces turns event_line quoted_char digits encode
returns-clause-words c = refl

pub returns-clause-number : goal.returns-clause-number
unfolding is_printable is_break is_blank is_breakz is_blank_or_breakz is_flow is_z step past_break on_content on_blank
    on_break plain_turn behind_plain plain_scalar pieces turns event_line quoted_char digits encode
returns-clause-number c = refl

pub returns-clause-address : goal.returns-clause-address
unfolding is_printable is_break is_blank is_breakz is_blank_or_breakz is_flow is_z step past_break on_content on_blank
    on_break plain_turn behind_plain plain_scalar pieces turns event_line quoted_char digits encode
returns-clause-address c = refl

pub returns-clause-vector_in_flow : goal.returns-clause-vector_in_flow
unfolding is_printable is_break is_blank is_breakz is_blank_or_breakz is_flow is_z step past_break on_content on_blank
    on_break plain_turn behind_plain plain_scalar pieces turns event_line quoted_char digits encode
returns-clause-vector_in_flow c = refl

pub returns-clause-number_in_flow : goal.returns-clause-number_in_flow
unfolding is_printable is_break is_blank is_breakz is_blank_or_breakz is_flow is_z step past_break on_content on_blank
    on_break plain_turn behind_plain plain_scalar pieces turns event_line quoted_char digits encode
returns-clause-number_in_flow c = refl

pub returns-clause-address_in_flow : goal.returns-clause-address_in_flow
unfolding is_printable is_break is_blank is_breakz is_blank_or_breakz is_flow is_z step past_break on_content on_blank
    on_break plain_turn behind_plain plain_scalar pieces turns event_line quoted_char digits encode
returns-clause-address_in_flow c = refl

pub returns-clause-lines : goal.returns-clause-lines
unfolding is_printable is_break is_blank is_breakz is_blank_or_breakz is_flow is_z step past_break on_content on_blank
    on_break plain_turn behind_plain plain_scalar pieces turns event_line quoted_char digits encode
returns-clause-lines c = refl
