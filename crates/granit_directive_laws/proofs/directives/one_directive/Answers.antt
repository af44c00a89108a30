use Rattle.granit_directive_laws.proofs.LineLaw.{one_whole}
use Rattle.granit_directive_laws.proofs.directives.one_directive.Goals as goal

pub returns : goal.returns
returns c = one_whole
