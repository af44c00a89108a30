use Rattle.granit_places.proofs.KeysLaw.{keys_fit, lines_fit}
use Rattle.granit_places.proofs.fitting.flagged_lexemes_fit.Goals as goal

pub returns-clause-keys : goal.returns-clause-keys
returns-clause-keys c = keys_fit

pub returns-clause-lines : goal.returns-clause-lines
returns-clause-lines c = lines_fit
