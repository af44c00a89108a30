use Rattle.granit_scan_laws.proofs.Written.{written_tokens}
use Rattle.granit_scan_laws.proofs.tokens.written_tokens_are_the_texts.Goals as goal

pub returns : goal.returns
returns c = written_tokens
