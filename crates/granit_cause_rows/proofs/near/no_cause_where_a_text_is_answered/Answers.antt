-- Each is a computation.
use Rattle.std.proofs.Common.{refl}
use Rattle.granit_cause_rows.proofs.Computing.{computing}
use Rattle.granit_cause_rows.proofs.RowLemmas.{uncaused}
use Rattle.granit_cause_rows.proofs.near.no_cause_where_a_text_is_answered.Goals as goal

pub returns-clause-kind_2 : goal.returns-clause-kind_2
unfolding computing
returns-clause-kind_2 c = uncaused refl

pub returns-clause-kind_3 : goal.returns-clause-kind_3
unfolding computing
returns-clause-kind_3 c = uncaused refl

pub returns-clause-kind_4 : goal.returns-clause-kind_4
unfolding computing
returns-clause-kind_4 c = uncaused refl

pub returns-clause-kind_11 : goal.returns-clause-kind_11
unfolding computing
returns-clause-kind_11 c = uncaused refl

pub returns-clause-kind_12 : goal.returns-clause-kind_12
unfolding computing
returns-clause-kind_12 c = uncaused refl

pub returns-clause-kind_13 : goal.returns-clause-kind_13
unfolding computing
returns-clause-kind_13 c = uncaused refl

pub returns-clause-kind_14 : goal.returns-clause-kind_14
unfolding computing
returns-clause-kind_14 c = uncaused refl

pub returns-clause-kind_15 : goal.returns-clause-kind_15
unfolding computing
returns-clause-kind_15 c = uncaused refl

pub returns-clause-kind_20 : goal.returns-clause-kind_20
unfolding computing
returns-clause-kind_20 c = uncaused refl

pub returns-clause-kind_24 : goal.returns-clause-kind_24
unfolding computing
returns-clause-kind_24 c = uncaused refl

pub returns-clause-kind_30 : goal.returns-clause-kind_30
unfolding computing
returns-clause-kind_30 c = uncaused refl

pub returns-clause-kind_31 : goal.returns-clause-kind_31
unfolding computing
returns-clause-kind_31 c = uncaused refl

pub returns-clause-kind_32 : goal.returns-clause-kind_32
unfolding computing
returns-clause-kind_32 c = uncaused refl

pub returns-clause-kind_33 : goal.returns-clause-kind_33
unfolding computing
returns-clause-kind_33 c = uncaused refl

pub returns-clause-kind_34 : goal.returns-clause-kind_34
unfolding computing
returns-clause-kind_34 c = uncaused refl

pub returns-clause-kind_35 : goal.returns-clause-kind_35
unfolding computing
returns-clause-kind_35 c = uncaused refl

pub returns-clause-kind_37 : goal.returns-clause-kind_37
unfolding computing
returns-clause-kind_37 c = uncaused refl

pub returns-clause-kind_38 : goal.returns-clause-kind_38
unfolding computing
returns-clause-kind_38 c = uncaused refl

pub returns-clause-kind_39 : goal.returns-clause-kind_39
unfolding computing
returns-clause-kind_39 c = uncaused refl

pub returns-clause-kind_40 : goal.returns-clause-kind_40
unfolding computing
returns-clause-kind_40 c = uncaused refl

pub returns-clause-kind_42 : goal.returns-clause-kind_42
unfolding computing
returns-clause-kind_42 c = uncaused refl

pub returns-clause-kind_43 : goal.returns-clause-kind_43
unfolding computing
returns-clause-kind_43 c = uncaused refl

pub returns-clause-kind_44 : goal.returns-clause-kind_44
unfolding computing
returns-clause-kind_44 c = uncaused refl

pub returns-clause-kind_49 : goal.returns-clause-kind_49
unfolding computing
returns-clause-kind_49 c = uncaused refl
