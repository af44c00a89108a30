use Rattle.granit_readings.proofs.TerminalsFit as fit
use Rattle.granit_readings.proofs.fitting.the_lexemes_of_a_text_fit.Goals as goal

pub returns-clause-lines : goal.returns-clause-lines
returns-clause-lines c = fit.terminals_lines

pub returns-clause-keys : goal.returns-clause-keys
returns-clause-keys c = fit.terminals_keys

pub returns-clause-scoped_lines : goal.returns-clause-scoped_lines
returns-clause-scoped_lines c = fit.scoped_lines

pub returns-clause-scoped_keys : goal.returns-clause-scoped_keys
returns-clause-scoped_keys c = fit.scoped_keys
