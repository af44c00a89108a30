use Rattle.granit_scalars.proofs.Nameless.{plain_none}
use Rattle.granit_scalars.proofs.PlainOnce.{is_refused}
use Rattle.granit_scalars.proofs.plain.every_plain_refusal_has_its_cause.Goals as goal

pub returns : goal.returns
returns c = λ at h f y e. (is_refused at h f y e, (plain_none at h).none f e)
