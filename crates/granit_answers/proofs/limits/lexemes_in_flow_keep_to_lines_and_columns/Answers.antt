use Rattle.granit_answers.proofs.FlowColumns.{flow_stands_right}
use Rattle.granit_answers.proofs.FlowLimits.{keys_on_lines}
use Rattle.granit_answers.proofs.limits.lexemes_in_flow_keep_to_lines_and_columns.Goals as goal

pub returns-clause-lines : goal.returns-clause-lines
returns-clause-lines c = keys_on_lines

pub returns-clause-columns : goal.returns-clause-columns
returns-clause-columns c = flow_stands_right
