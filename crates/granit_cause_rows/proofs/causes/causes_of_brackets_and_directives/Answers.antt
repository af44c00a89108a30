-- Each is a computation.
use Rattle.std.proofs.Common.{refl}
use Rattle.granit_cause_rows.proofs.Computing.{computing}
use Rattle.granit_cause_rows.proofs.RowLemmas.{caused}
use Rattle.granit_cause_rows.proofs.causes.causes_of_brackets_and_directives.Goals as goal

pub returns-clause-kind_2 : goal.returns-clause-kind_2
unfolding computing
returns-clause-kind_2 c = caused refl

pub returns-clause-kind_3 : goal.returns-clause-kind_3
unfolding computing
returns-clause-kind_3 c = caused refl

pub returns-clause-kind_4 : goal.returns-clause-kind_4
unfolding computing
returns-clause-kind_4 c = caused refl

pub returns-clause-kind_5 : goal.returns-clause-kind_5
unfolding computing
returns-clause-kind_5 c = caused refl

pub returns-clause-kind_6 : goal.returns-clause-kind_6
unfolding computing
returns-clause-kind_6 c = caused refl

pub returns-clause-kind_7 : goal.returns-clause-kind_7
unfolding computing
returns-clause-kind_7 c = caused refl

pub returns-clause-kind_8 : goal.returns-clause-kind_8
unfolding computing
returns-clause-kind_8 c = caused refl

pub returns-clause-kind_9 : goal.returns-clause-kind_9
unfolding computing
returns-clause-kind_9 c = caused refl

pub returns-clause-kind_10 : goal.returns-clause-kind_10
unfolding computing
returns-clause-kind_10 c = caused refl

pub returns-clause-kind_11 : goal.returns-clause-kind_11
unfolding computing
returns-clause-kind_11 c = caused refl

pub returns-clause-kind_12 : goal.returns-clause-kind_12
unfolding computing
returns-clause-kind_12 c = caused refl

pub returns-clause-kind_13 : goal.returns-clause-kind_13
unfolding computing
returns-clause-kind_13 c = caused refl

pub returns-clause-kind_14 : goal.returns-clause-kind_14
unfolding computing
returns-clause-kind_14 c = caused refl

pub returns-clause-kind_15 : goal.returns-clause-kind_15
unfolding computing
returns-clause-kind_15 c = caused refl

pub returns-clause-kind_16 : goal.returns-clause-kind_16
unfolding computing
returns-clause-kind_16 c = caused refl

pub returns-clause-kind_17 : goal.returns-clause-kind_17
unfolding computing
returns-clause-kind_17 c = caused refl

pub returns-clause-kind_18 : goal.returns-clause-kind_18
unfolding computing
returns-clause-kind_18 c = caused refl

pub returns-clause-kind_19 : goal.returns-clause-kind_19
unfolding computing
returns-clause-kind_19 c = caused refl

pub returns-clause-kind_20 : goal.returns-clause-kind_20
unfolding computing
returns-clause-kind_20 c = caused refl

pub returns-clause-kind_21 : goal.returns-clause-kind_21
unfolding computing
returns-clause-kind_21 c = caused refl

pub returns-clause-kind_22 : goal.returns-clause-kind_22
unfolding computing
returns-clause-kind_22 c = caused refl

pub returns-clause-kind_23 : goal.returns-clause-kind_23
unfolding computing
returns-clause-kind_23 c = caused refl

pub returns-clause-kind_24 : goal.returns-clause-kind_24
unfolding computing
returns-clause-kind_24 c = caused refl

pub returns-clause-kind_25 : goal.returns-clause-kind_25
unfolding computing
returns-clause-kind_25 c = caused refl

pub returns-clause-kind_26 : goal.returns-clause-kind_26
unfolding computing
returns-clause-kind_26 c = caused refl

pub returns-clause-kind_27 : goal.returns-clause-kind_27
unfolding computing
returns-clause-kind_27 c = caused refl

pub returns-clause-kind_28 : goal.returns-clause-kind_28
unfolding computing
returns-clause-kind_28 c = caused refl

pub returns-clause-kind_29 : goal.returns-clause-kind_29
unfolding computing
returns-clause-kind_29 c = caused refl
