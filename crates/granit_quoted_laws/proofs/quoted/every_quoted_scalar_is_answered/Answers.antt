use Rattle.granit_quoted_laws.proofs.QuotedOnce.{quoted_is_answered}
use Rattle.granit_quoted_laws.proofs.quoted.every_quoted_scalar_is_answered.Goals as goal

pub returns : goal.returns
returns c = quoted_is_answered
