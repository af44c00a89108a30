-- Each is a computation.
use Rattle.granit_base.specs.Classes.{is_z, is_break, is_breakz, is_blank, is_blank_or_breakz}
use Rattle.granit_lexemes.specs.Here.{begins_behind, tab_behind, step}
use Rattle.granit_lexemes.specs.Moves.{steps}
use Rattle.granit_machine.specs.PossibleKeys.{is_allowed, is_far_below, is_stale}
use Rattle.granit_machine.specs.IndicatorLexemes.{is_tabbed_dash}
use Rattle.granit_machine.specs.Gaps.{goes_on_behind}
use Rattle.granit_lexemes.specs.declared.layout.Bracket.TheVariants.{Square}
use Rattle.granit_lexemes.specs.declared.layout.LastLexeme.TheVariants.{Another, BehindDash, BehindQuestion, Opener}
use Rattle.granit_machine.specs.Laid.{laid_start}
use Rattle.granit_read_answers.specs.Examples.{after_characters, in_bracket, in_column}
use Rattle.std.specs.Prelude.{codes}
use Rattle.std.proofs.Common.{refl, [], ◌∷◌, ◌++◌}
use Rattle.granit_reading.proofs.Deciding.{tells, denies, begin_decided}
use Rattle.granit_read_answers.proofs.examples.entries_of_the_examples.Goals as goal

pub returns-clause-line : goal.returns-clause-line
unfolding is_z is_break is_breakz is_blank is_blank_or_breakz begins_behind tab_behind step steps is_allowed
    is_tabbed_dash is_far_below is_stale goes_on_behind
returns-clause-line c = tells (begin_decided (after_characters 0 (codes "- a")) laid_start) refl

pub returns-clause-inside_line : goal.returns-clause-inside_line
unfolding is_z is_break is_breakz is_blank is_blank_or_breakz begins_behind tab_behind step steps is_allowed
    is_tabbed_dash is_far_below is_stale goes_on_behind
returns-clause-inside_line c = denies (begin_decided (after_characters 2 (codes "a - b")) laid_start) refl

pub returns-clause-dash : goal.returns-clause-dash
unfolding is_z is_break is_breakz is_blank is_blank_or_breakz begins_behind tab_behind step steps is_allowed
    is_tabbed_dash is_far_below is_stale goes_on_behind
returns-clause-dash c = tells (begin_decided (after_characters 2 (codes "- - a")) (in_column 0 BehindDash)) refl

pub returns-clause-question : goal.returns-clause-question
unfolding is_z is_break is_breakz is_blank is_blank_or_breakz begins_behind tab_behind step steps is_allowed
    is_tabbed_dash is_far_below is_stale goes_on_behind
returns-clause-question c = tells (begin_decided (after_characters 2 (codes "? - a")) (in_column 0 BehindQuestion)) refl

pub returns-clause-question_tab : goal.returns-clause-question_tab
unfolding is_z is_break is_breakz is_blank is_blank_or_breakz begins_behind tab_behind step steps is_allowed
    is_tabbed_dash is_far_below is_stale goes_on_behind
returns-clause-question_tab c = denies (begin_decided (after_characters 2 ((codes "?") ++ (0x9 ∷ []) ++ (codes "- a")))
    (in_column 0 BehindQuestion)) refl

pub returns-clause-opener : goal.returns-clause-opener
unfolding is_z is_break is_breakz is_blank is_blank_or_breakz begins_behind tab_behind step steps is_allowed
    is_tabbed_dash is_far_below is_stale goes_on_behind
returns-clause-opener c = tells (begin_decided (after_characters 1 (codes "[a")) (in_bracket Square 0 Opener)) refl

pub returns-clause-in_flow : goal.returns-clause-in_flow
unfolding is_z is_break is_breakz is_blank is_blank_or_breakz begins_behind tab_behind step steps is_allowed
    is_tabbed_dash is_far_below is_stale goes_on_behind
returns-clause-in_flow c = denies (begin_decided (after_characters 2 (codes "[a")) (in_bracket Square 0 Another)) refl
