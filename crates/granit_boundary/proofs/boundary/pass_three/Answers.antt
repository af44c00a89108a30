use Rattle.granit_lexemes.specs.Here.{step}
use Rattle.granit_lexemes.specs.Moves.{steps}
use Rattle.granit_boundary.proofs.boundary.pass_three.Goals as goal

pub returns-clause-here : goal.returns-clause-here
unfolding steps
returns-clause-here g c = λ h k.
    c.step-3.ensures.here (step (step h)) (c.step-2.ensures.here (step h) (c.step.ensures.here h k))
