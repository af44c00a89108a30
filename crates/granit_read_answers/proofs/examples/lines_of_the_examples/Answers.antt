-- Each is a computation.
use Rattle.granit_base.specs.Classes.{is_z, is_break, is_breakz, is_blank, is_blank_or_breakz}
use Rattle.granit_lexemes.specs.Here.{begins_behind, tab_behind, step, mark_of, start_of}
use Rattle.granit_lexemes.specs.Moves.{steps}
use Rattle.granit_machine.specs.PossibleKeys.{is_allowed, is_far_below, is_stale}
use Rattle.granit_machine.specs.IndicatorLexemes.{is_tabbed_dash}
use Rattle.granit_machine.specs.Gaps.{goes_on_behind}
use Rattle.granit_error.specs.OptionsData.{default_options}
use Rattle.granit_lexemes.specs.declared.layout.Bracket.TheVariants.{Curly, Square}
use Rattle.granit_lexemes.specs.declared.layout.LastLexeme.TheVariants.{Another, Opener}
use Rattle.granit_machine.specs.Laid.{laid_start}
use Rattle.granit_read_answers.specs.Examples.{after_characters, first_key, in_bracket, in_column}
use Rattle.std.specs.Prelude.{codes}
use Rattle.std.proofs.Common.{refl, [], ◌∷◌, ◌++◌}
use Rattle.granit_reading.proofs.Deciding.{tells, denies, block_tab_decided, far_decided, goes_decided, prefix_decided}
use Rattle.granit_reading.proofs.Deciding.{stale_decided}
use Rattle.granit_read_answers.proofs.examples.lines_of_the_examples.Goals as goal

pub returns-clause-far : goal.returns-clause-far
unfolding is_z is_break is_breakz is_blank is_blank_or_breakz begins_behind tab_behind step steps is_allowed
    is_tabbed_dash is_far_below is_stale goes_on_behind
returns-clause-far c = tells (far_decided (after_characters 2 ((0xA ∷ []) ++ (codes " :")))
    (in_bracket Square 0 Another) first_key) refl

pub returns-clause-far_left : goal.returns-clause-far_left
unfolding is_z is_break is_breakz is_blank is_blank_or_breakz begins_behind tab_behind step steps is_allowed
    is_tabbed_dash is_far_below is_stale goes_on_behind
returns-clause-far_left c = tells (far_decided (after_characters 1 ((0xA ∷ []) ++ (codes ":")))
    (in_bracket Curly 0 Another) first_key) refl

pub returns-clause-near : goal.returns-clause-near
unfolding is_z is_break is_breakz is_blank is_blank_or_breakz begins_behind tab_behind step steps is_allowed
    is_tabbed_dash is_far_below is_stale goes_on_behind
returns-clause-near c = denies (far_decided (after_characters 2 ((0xA ∷ []) ++ (codes " :")))
    (in_bracket Curly 0 Another) first_key) refl

pub returns-clause-left_behind : goal.returns-clause-left_behind
unfolding is_z is_break is_breakz is_blank is_blank_or_breakz begins_behind tab_behind step steps is_allowed
    is_tabbed_dash is_far_below is_stale goes_on_behind
returns-clause-left_behind c = tells (stale_decided default_options laid_start (mark_of (after_characters 1 (0xA ∷ [])))
    first_key) refl

pub returns-clause-in_flow : goal.returns-clause-in_flow
unfolding is_z is_break is_breakz is_blank is_blank_or_breakz begins_behind tab_behind step steps is_allowed
    is_tabbed_dash is_far_below is_stale goes_on_behind
returns-clause-in_flow c = denies (stale_decided default_options (in_bracket Curly 0 Another)
    (mark_of (after_characters 1 (0xA ∷ []))) first_key) refl

pub returns-clause-left_tab : goal.returns-clause-left_tab
unfolding is_z is_break is_breakz is_blank is_blank_or_breakz begins_behind tab_behind step steps is_allowed
    is_tabbed_dash is_far_below is_stale goes_on_behind
returns-clause-left_tab c = tells (block_tab_decided default_options (in_column 1 Another)
    (mark_of (start_of (0x9 ∷ [])))) refl

pub returns-clause-right_tab : goal.returns-clause-right_tab
unfolding is_z is_break is_breakz is_blank is_blank_or_breakz begins_behind tab_behind step steps is_allowed
    is_tabbed_dash is_far_below is_stale goes_on_behind
returns-clause-right_tab c = denies (block_tab_decided default_options (in_column 0 Another)
    (mark_of (start_of (0x9 ∷ [])))) refl

pub returns-clause-cut : goal.returns-clause-cut
unfolding is_z is_break is_breakz is_blank is_blank_or_breakz begins_behind tab_behind step steps is_allowed
    is_tabbed_dash is_far_below is_stale goes_on_behind
returns-clause-cut c = tells (goes_decided laid_start (after_characters 1 ((0xA ∷ []) ++ (codes "b")))
    (mark_of (start_of []))) refl

pub returns-clause-marked : goal.returns-clause-marked
unfolding is_z is_break is_breakz is_blank is_blank_or_breakz begins_behind tab_behind step steps is_allowed
    is_tabbed_dash is_far_below is_stale goes_on_behind
returns-clause-marked c = denies (goes_decided laid_start (after_characters 1 ((0xA ∷ []) ++ (codes "---")))
    (mark_of (start_of []))) refl

pub returns-clause-later : goal.returns-clause-later
unfolding is_z is_break is_breakz is_blank is_blank_or_breakz begins_behind tab_behind step steps is_allowed
    is_tabbed_dash is_far_below is_stale goes_on_behind
returns-clause-later c = denies (goes_decided laid_start (after_characters 2 ((0xA ∷ 0xA ∷ []) ++ (codes "b")))
    (mark_of (start_of []))) refl

pub returns-clause-prefix : goal.returns-clause-prefix
unfolding is_z is_break is_breakz is_blank is_blank_or_breakz begins_behind tab_behind step steps is_allowed
    is_tabbed_dash is_far_below is_stale goes_on_behind
returns-clause-prefix c = tells (prefix_decided laid_start) refl

pub returns-clause-no_prefix : goal.returns-clause-no_prefix
unfolding is_z is_break is_breakz is_blank is_blank_or_breakz begins_behind tab_behind step steps is_allowed
    is_tabbed_dash is_far_below is_stale goes_on_behind
returns-clause-no_prefix c = denies (prefix_decided (in_bracket Square 0 Opener)) refl
