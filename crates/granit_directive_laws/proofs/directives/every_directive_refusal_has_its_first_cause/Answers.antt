use Rattle.granit_directive_laws.proofs.LineLaw.{whole_caused}
use Rattle.granit_directive_laws.proofs.directives.every_directive_refusal_has_its_first_cause.Goals as goal

pub returns : goal.returns
returns c = whole_caused
