use Rattle.granit_directive_laws.proofs.FirstLaw.{directive_cause_refused}
use Rattle.granit_directive_laws.proofs.directives.every_directive_cause_is_refused.Goals as goal

pub returns : goal.returns
returns c = directive_cause_refused
