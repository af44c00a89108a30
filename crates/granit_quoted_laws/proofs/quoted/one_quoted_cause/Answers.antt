use Rattle.granit_quoted_laws.proofs.QuotedCauses.{one_quoted_cause}
use Rattle.granit_quoted_laws.proofs.quoted.one_quoted_cause.Goals as goal

pub returns : goal.returns
returns c = one_quoted_cause
