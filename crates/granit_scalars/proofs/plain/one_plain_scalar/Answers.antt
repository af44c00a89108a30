use Rattle.granit_scalars.proofs.PlainOnce.{one_standing}
use Rattle.granit_scalars.proofs.PlainSpelling.{one_extent}
use Rattle.granit_scalars.proofs.plain.one_plain_scalar.Goals as goal

pub returns-clause-extent : goal.returns-clause-extent
returns-clause-extent c = λ at text source behind other rest p q. one_extent p q

pub returns-clause-standing : goal.returns-clause-standing
returns-clause-standing c = one_standing
