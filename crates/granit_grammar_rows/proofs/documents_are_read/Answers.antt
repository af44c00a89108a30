use Rattle.std.proofs.Common.{refl}
use Rattle.granit_grammar_rows.proofs.documents_are_read.Goals as goal

pub returns-clause-marks_in_front : goal.returns-clause-marks_in_front
returns-clause-marks_in_front c = refl

pub returns-clause-marks_behind : goal.returns-clause-marks_behind
returns-clause-marks_behind c = refl
