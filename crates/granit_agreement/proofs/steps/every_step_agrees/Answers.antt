use Rattle.granit_frame_steps.proofs.WholeSteps.{step_next}
use Rattle.granit_agreement.proofs.steps.every_step_agrees.Goals as goal

pub returns : goal.returns
returns c = λ b s l o st d. step_next b l.kind l.key s l o st d
