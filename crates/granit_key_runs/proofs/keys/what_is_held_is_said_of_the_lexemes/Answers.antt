use Rattle.granit_key_runs.proofs.HeldLaw.{held_said, lexemes_counted}
use Rattle.granit_key_runs.proofs.keys.what_is_held_is_said_of_the_lexemes.Goals as goal

pub returns-clause-keys : goal.returns-clause-keys
returns-clause-keys c = held_said

pub returns-clause-number : goal.returns-clause-number
returns-clause-number c = lexemes_counted
