use Rattle.granit_tokens.proofs.Whole.{text_balanced, answer_balanced}
use Rattle.granit_tokens.proofs.balance.tokens_of_texts_balance.Goals as goal

pub returns-clause-whole : goal.returns-clause-whole
returns-clause-whole c = text_balanced

pub returns-clause-answered : goal.returns-clause-answered
returns-clause-answered c = answer_balanced
