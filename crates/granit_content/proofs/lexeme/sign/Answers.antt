use Rattle.granit_lexemes.specs.Here.{step}
use Rattle.granit_content.proofs.lexeme.sign.Goals as goal

pub returns-clause-here : goal.returns-clause-here
returns-clause-here g c = λ h k.
    let on = c.step.ensures.here h k in
    (on, rw (c.mark.ensures.here (step h) on) at (c.write_lexeme.ensures h (c.start_of-start.ensures h k)))
