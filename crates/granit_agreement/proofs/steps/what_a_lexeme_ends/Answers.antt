use Rattle.granit_views.proofs.Closes.{close_agrees}
use Rattle.granit_agreement.proofs.steps.what_a_lexeme_ends.Goals as goal

pub returns : goal.returns
returns c = close_agrees
