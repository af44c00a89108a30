use Rattle.granit_tokens.proofs.KeyCounts.{keys_in_all, keys_in_front}
use Rattle.granit_tokens.proofs.balance.inserted_keys_have_values.Goals as goal

pub returns-clause-fronts : goal.returns-clause-fronts
returns-clause-fronts c = keys_in_front

pub returns-clause-all : goal.returns-clause-all
returns-clause-all c = keys_in_all
