use Rattle.granit_tokens.proofs.Whole.{front_begins}
use Rattle.granit_tokens.proofs.balance.each_end_has_its_start.Goals as goal

pub returns : goal.returns
returns c = front_begins
