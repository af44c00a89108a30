use Rattle.granit_quoted.proofs.quoted.lexed_quoted.Goals as goal

pub returns-in-Ok-clause-here : goal.returns-in-Ok-clause-here
returns-in-Ok-clause-here g c = λ h k.
    rw (c.into_lexed.ensures, c.mark-start.ensures.here h k) (c.in-Ok.ensures.here h k)
