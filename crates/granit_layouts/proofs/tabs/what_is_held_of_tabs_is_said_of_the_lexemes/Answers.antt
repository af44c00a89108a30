use Rattle.granit_before.proofs.QuestionSaid.{question_said}
use Rattle.granit_layouts.proofs.TabRows.{innermost_said, widths_said}
use Rattle.granit_layouts.proofs.tabs.what_is_held_of_tabs_is_said_of_the_lexemes.Goals as goal

pub returns-clause-innermost : goal.returns-clause-innermost
returns-clause-innermost c = innermost_said

pub returns-clause-columns : goal.returns-clause-columns
returns-clause-columns c = widths_said

pub returns-clause-question : goal.returns-clause-question
returns-clause-question c = question_said
