use Rattle.granit_stepper.proofs.stepper.Stepper.advance_alone.Goals as goal

pub returns-in-Err-clause-known : goal.returns-in-Err-clause-known
returns-in-Err-clause-known g c = λ m at told none. rw c.error_of.ensures (c.in-Err.ensures.known m at told none)

pub returns-in-Err-clause-refused : goal.returns-in-Err-clause-refused
returns-in-Err-clause-refused g c = λ m at told none calm.
    rw c.error_of.ensures (c.in-Err.ensures.refused m at told none calm)
