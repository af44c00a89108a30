use Rattle.granit_declared.proofs.CauseSaid.{cause_declared, declared_cause}
use Rattle.granit_declared.proofs.reading.the_cause_of_a_refusal_is_declared.Goals as goal

pub returns-clause-declared : goal.returns-clause-declared
returns-clause-declared c = cause_declared

pub returns-clause-caused : goal.returns-clause-caused
returns-clause-caused c = declared_cause
