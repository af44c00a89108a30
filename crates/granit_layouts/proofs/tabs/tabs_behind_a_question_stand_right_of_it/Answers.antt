use Rattle.granit_before.proofs.QuestionTabs.{tabs_fit, fit_tabs}
use Rattle.granit_layouts.proofs.tabs.tabs_behind_a_question_stand_right_of_it.Goals as goal

pub returns-clause-fit : goal.returns-clause-fit
returns-clause-fit c = tabs_fit

pub returns-clause-right : goal.returns-clause-right
returns-clause-right c = fit_tabs
