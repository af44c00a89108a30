use Rattle.granit_quoted_laws.proofs.QuotedLaw.{quoted_standing}
use Rattle.granit_quoted_laws.proofs.quoted.every_quoted_answer_stands.Goals as goal

pub returns : goal.returns
returns c = quoted_standing
