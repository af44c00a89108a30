use Rattle.std.proofs.Common.{refl}
use Rattle.granit_grammar_rows.proofs.lexemes_fit_their_lines_and_keys.Goals as goal

pub returns-clause-lines_of_items : goal.returns-clause-lines_of_items
returns-clause-lines_of_items c = refl

pub returns-clause-lines : goal.returns-clause-lines
returns-clause-lines c = refl

pub returns-clause-keys_of_items : goal.returns-clause-keys_of_items
returns-clause-keys_of_items c = refl

pub returns-clause-keys : goal.returns-clause-keys
returns-clause-keys c = refl
