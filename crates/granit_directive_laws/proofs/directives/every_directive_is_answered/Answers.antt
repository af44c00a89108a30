use Rattle.granit_directive_laws.proofs.LineLaw.{whole_is}
use Rattle.granit_directive_laws.proofs.directives.every_directive_is_answered.Goals as goal

pub returns : goal.returns
returns c = whole_is
