use Rattle.granit_scan.proofs.TokenLaws.{tokens_tell}
use Rattle.granit_scan.proofs.laws.the_calls_give_all_tokens.Goals as goal

pub returns : goal.returns
returns c = tokens_tell
