use Rattle.granit_directive_laws.proofs.FirstLaw.{one_directive_cause}
use Rattle.granit_directive_laws.proofs.directives.one_directive_cause.Goals as goal

pub returns : goal.returns
returns c = one_directive_cause
