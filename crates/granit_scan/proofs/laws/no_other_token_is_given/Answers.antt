use Rattle.granit_scan.proofs.TokenLaws.{only_tokens}
use Rattle.granit_scan.proofs.laws.no_other_token_is_given.Goals as goal

pub returns : goal.returns
returns c = only_tokens
