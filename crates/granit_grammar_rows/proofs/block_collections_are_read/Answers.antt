use Rattle.std.proofs.Common.{refl}
use Rattle.granit_grammar_rows.proofs.block_collections_are_read.Goals as goal

pub returns-clause-at_most_one_lexeme : goal.returns-clause-at_most_one_lexeme
returns-clause-at_most_one_lexeme c = refl

pub returns-clause-simple_keys : goal.returns-clause-simple_keys
returns-clause-simple_keys c = refl

pub returns-clause-properties_in_front : goal.returns-clause-properties_in_front
returns-clause-properties_in_front c = refl

pub returns-clause-sequences : goal.returns-clause-sequences
returns-clause-sequences c = refl

pub returns-clause-asked_keys : goal.returns-clause-asked_keys
returns-clause-asked_keys c = refl

pub returns-clause-empty_keys : goal.returns-clause-empty_keys
returns-clause-empty_keys c = refl

pub returns-clause-keys_behind_sequences : goal.returns-clause-keys_behind_sequences
returns-clause-keys_behind_sequences c = refl
