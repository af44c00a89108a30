use Rattle.granit_scalars.proofs.Nameless.{quoted_none}
use Rattle.granit_quoted_laws.proofs.QuotedLaw.{quoted_refused}
use Rattle.granit_quoted_laws.proofs.quoted.every_quoted_refusal_has_its_cause.Goals as goal

pub returns : goal.returns
returns c = λ single at h f y e. (quoted_refused single at h f y e, (quoted_none single at h).none f e)
