use Rattle.granit_quoted_laws.proofs.QuotedCauses.{quoted_cause_refused}
use Rattle.granit_quoted_laws.proofs.quoted.every_quoted_cause_is_refused.Goals as goal

pub returns : goal.returns
returns c = quoted_cause_refused
