use Rattle.granit_answers.proofs.CommentsCaused.{any_fault_caused}
use Rattle.granit_answers.proofs.answers.every_fault_has_its_cause.Goals as goal

pub returns : goal.returns
returns c = any_fault_caused
