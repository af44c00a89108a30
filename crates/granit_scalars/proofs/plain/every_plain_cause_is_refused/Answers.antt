use Rattle.granit_scalars.proofs.PlainOnce.{plain_cause_refused}
use Rattle.granit_scalars.proofs.plain.every_plain_cause_is_refused.Goals as goal

pub returns : goal.returns
returns c = plain_cause_refused
