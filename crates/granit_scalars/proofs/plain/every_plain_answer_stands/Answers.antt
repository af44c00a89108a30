use Rattle.granit_scalars.proofs.PlainOnce.{is_standing}
use Rattle.granit_scalars.proofs.plain.every_plain_answer_stands.Goals as goal

pub returns : goal.returns
returns c = is_standing
