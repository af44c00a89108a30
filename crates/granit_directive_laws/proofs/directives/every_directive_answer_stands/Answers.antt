use Rattle.granit_directive_laws.proofs.LineLaw.{whole_stands}
use Rattle.granit_directive_laws.proofs.directives.every_directive_answer_stands.Goals as goal

pub returns : goal.returns
returns c = whole_stands
