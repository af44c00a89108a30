-- Each is a computation.
use Rattle.granit_base.specs.Classes.{is_z, is_break, is_breakz, is_blank, is_blank_or_breakz}
use Rattle.granit_lexemes.specs.Here.{begins_behind, tab_behind, step}
use Rattle.granit_lexemes.specs.Moves.{steps}
use Rattle.granit_machine.specs.PossibleKeys.{is_allowed, is_far_below, is_stale}
use Rattle.granit_machine.specs.IndicatorLexemes.{is_tabbed_dash}
use Rattle.granit_machine.specs.Gaps.{goes_on_behind}
use Rattle.granit_read_answers.specs.Examples.{after_characters}
use Rattle.std.specs.Prelude.{codes}
use Rattle.std.proofs.Common.{refl, [], ◌∷◌, ◌++◌}
use Rattle.granit_reading.proofs.Deciding.{tells, denies, nul_decided, tabbed_decided, touches_decided}
use Rattle.granit_read_answers.proofs.examples.signs_of_the_examples.Goals as goal

pub returns-clause-tabbed : goal.returns-clause-tabbed
unfolding is_z is_break is_breakz is_blank is_blank_or_breakz begins_behind tab_behind step steps is_allowed
    is_tabbed_dash is_far_below is_stale goes_on_behind
returns-clause-tabbed c = tells (tabbed_decided (after_characters 2 ((codes "-") ++ (0x9 ∷ []) ++ (codes "- a")))) refl

pub returns-clause-untabbed : goal.returns-clause-untabbed
unfolding is_z is_break is_breakz is_blank is_blank_or_breakz begins_behind tab_behind step steps is_allowed
    is_tabbed_dash is_far_below is_stale goes_on_behind
returns-clause-untabbed c = denies (tabbed_decided (after_characters 2 (codes "- - a"))) refl

pub returns-clause-no_sign : goal.returns-clause-no_sign
unfolding is_z is_break is_breakz is_blank is_blank_or_breakz begins_behind tab_behind step steps is_allowed
    is_tabbed_dash is_far_below is_stale goes_on_behind
returns-clause-no_sign c = denies (tabbed_decided (after_characters 2 ((codes "-") ++ (0x9 ∷ []) ++ (codes "-a")))) refl

pub returns-clause-nul : goal.returns-clause-nul
unfolding is_z is_break is_breakz is_blank is_blank_or_breakz begins_behind tab_behind step steps is_allowed
    is_tabbed_dash is_far_below is_stale goes_on_behind
returns-clause-nul c = tells (nul_decided (after_characters 0 ((codes "?") ++ (0 ∷ [])))) refl

pub returns-clause-end : goal.returns-clause-end
unfolding is_z is_break is_breakz is_blank is_blank_or_breakz begins_behind tab_behind step steps is_allowed
    is_tabbed_dash is_far_below is_stale goes_on_behind
returns-clause-end c = denies (nul_decided (after_characters 0 (codes "?"))) refl

pub returns-clause-touching : goal.returns-clause-touching
unfolding is_z is_break is_breakz is_blank is_blank_or_breakz begins_behind tab_behind step steps is_allowed
    is_tabbed_dash is_far_below is_stale goes_on_behind
returns-clause-touching c = tells (touches_decided (after_characters 0 (codes ":["))) refl

pub returns-clause-apart : goal.returns-clause-apart
unfolding is_z is_break is_breakz is_blank is_blank_or_breakz begins_behind tab_behind step steps is_allowed
    is_tabbed_dash is_far_below is_stale goes_on_behind
returns-clause-apart c = denies (touches_decided (after_characters 0 (codes ": ["))) refl
