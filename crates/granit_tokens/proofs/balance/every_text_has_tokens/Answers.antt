use Rattle.granit_tokens.proofs.TextTokens.{have_tokens}
use Rattle.granit_tokens.proofs.balance.every_text_has_tokens.Goals as goal

pub returns : goal.returns
returns c = have_tokens
