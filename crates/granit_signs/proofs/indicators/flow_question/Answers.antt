use Rattle.std.proofs.Common.{refl}
use Rattle.granit_signs.proofs.indicators.flow_question.Goals as goal

pub returns-clause-here : goal.returns-clause-here
returns-clause-here g c = λ h k.
    let signed = c.sign.ensures.here h k in
    (signed.0, rw (signed.1, c.count_lexeme.ensures, c.forget_key.ensures) refl)
