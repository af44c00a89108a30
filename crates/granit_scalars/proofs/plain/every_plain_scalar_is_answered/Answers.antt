use Rattle.granit_scalars.proofs.PlainOnce.{is_answered}
use Rattle.granit_scalars.proofs.plain.every_plain_scalar_is_answered.Goals as goal

pub returns : goal.returns
returns c = is_answered
