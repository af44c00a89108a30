-- Each is a computation.
use Rattle.std.proofs.Common.{refl}
use Rattle.granit_cause_rows.proofs.Computing.{computing}
use Rattle.granit_cause_rows.proofs.RowLemmas.{uncaused}
use Rattle.granit_cause_rows.proofs.near.no_cause_where_a_lexeme_is_mended.Goals as goal

pub returns-clause-kind_53 : goal.returns-clause-kind_53
unfolding computing
returns-clause-kind_53 c = uncaused refl

pub returns-clause-kind_54 : goal.returns-clause-kind_54
unfolding computing
returns-clause-kind_54 c = uncaused refl

pub returns-clause-kind_55 : goal.returns-clause-kind_55
unfolding computing
returns-clause-kind_55 c = uncaused refl

pub returns-clause-kind_56 : goal.returns-clause-kind_56
unfolding computing
returns-clause-kind_56 c = uncaused refl

pub returns-clause-kind_57 : goal.returns-clause-kind_57
unfolding computing
returns-clause-kind_57 c = uncaused refl

pub returns-clause-kind_58 : goal.returns-clause-kind_58
unfolding computing
returns-clause-kind_58 c = uncaused refl

pub returns-clause-kind_60 : goal.returns-clause-kind_60
unfolding computing
returns-clause-kind_60 c = uncaused refl

pub returns-clause-kind_61 : goal.returns-clause-kind_61
unfolding computing
returns-clause-kind_61 c = uncaused refl

pub returns-clause-kind_62 : goal.returns-clause-kind_62
unfolding computing
returns-clause-kind_62 c = uncaused refl

pub returns-clause-kind_63 : goal.returns-clause-kind_63
unfolding computing
returns-clause-kind_63 c = uncaused refl

pub returns-clause-kind_64 : goal.returns-clause-kind_64
unfolding computing
returns-clause-kind_64 c = uncaused refl

pub returns-clause-kind_65 : goal.returns-clause-kind_65
unfolding computing
returns-clause-kind_65 c = uncaused refl

pub returns-clause-kind_66 : goal.returns-clause-kind_66
unfolding computing
returns-clause-kind_66 c = uncaused refl

pub returns-clause-kind_67 : goal.returns-clause-kind_67
unfolding computing
returns-clause-kind_67 c = uncaused refl

pub returns-clause-kind_68 : goal.returns-clause-kind_68
unfolding computing
returns-clause-kind_68 c = uncaused refl

pub returns-clause-kind_69 : goal.returns-clause-kind_69
unfolding computing
returns-clause-kind_69 c = uncaused refl

pub returns-clause-kind_70 : goal.returns-clause-kind_70
unfolding computing
returns-clause-kind_70 c = uncaused refl

pub returns-clause-kind_71 : goal.returns-clause-kind_71
unfolding computing
returns-clause-kind_71 c = uncaused refl

pub returns-clause-kind_74 : goal.returns-clause-kind_74
unfolding computing
returns-clause-kind_74 c = uncaused refl

pub returns-clause-kind_75 : goal.returns-clause-kind_75
unfolding computing
returns-clause-kind_75 c = uncaused refl

pub returns-clause-kind_76 : goal.returns-clause-kind_76
unfolding computing
returns-clause-kind_76 c = uncaused refl

pub returns-clause-kind_77 : goal.returns-clause-kind_77
unfolding computing
returns-clause-kind_77 c = uncaused refl
