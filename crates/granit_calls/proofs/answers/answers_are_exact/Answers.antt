use Rattle.granit_calls.proofs.FollowLaws.{false_is_exact, true_is_exact}
use Rattle.granit_calls.proofs.answers.answers_are_exact.Goals as goal

pub returns-clause-on_true : goal.returns-clause-on_true
returns-clause-on_true c = true_is_exact

pub returns-clause-on_false : goal.returns-clause-on_false
returns-clause-on_false c = false_is_exact
