use Rattle.granit_answers.proofs.FlowLimits.{nested_within, held_brackets}
use Rattle.granit_answers.proofs.limits.brackets_nest_within_the_limit.Goals as goal

pub returns-clause-within : goal.returns-clause-within
returns-clause-within c = nested_within

pub returns-clause-held : goal.returns-clause-held
returns-clause-held c = held_brackets
