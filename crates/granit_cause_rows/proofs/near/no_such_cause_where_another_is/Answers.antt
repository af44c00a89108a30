-- Each is a computation.
use Rattle.std.proofs.Common.{refl}
use Rattle.granit_cause_rows.proofs.Computing.{computing}
use Rattle.granit_cause_rows.proofs.RowLemmas.{caused, caused_otherwise}
use Rattle.granit_cause_rows.proofs.near.no_such_cause_where_another_is.Goals as goal

pub returns-clause-kind_5 : goal.returns-clause-kind_5
unfolding computing
returns-clause-kind_5 c = caused_otherwise refl

pub returns-clause-other_than_5 : goal.returns-clause-other_than_5
unfolding computing
returns-clause-other_than_5 c = caused refl

pub returns-clause-kind_6 : goal.returns-clause-kind_6
unfolding computing
returns-clause-kind_6 c = caused_otherwise refl

pub returns-clause-other_than_6 : goal.returns-clause-other_than_6
unfolding computing
returns-clause-other_than_6 c = caused refl

pub returns-clause-kind_7 : goal.returns-clause-kind_7
unfolding computing
returns-clause-kind_7 c = caused_otherwise refl

pub returns-clause-other_than_7 : goal.returns-clause-other_than_7
unfolding computing
returns-clause-other_than_7 c = caused refl

pub returns-clause-kind_8 : goal.returns-clause-kind_8
unfolding computing
returns-clause-kind_8 c = caused_otherwise refl

pub returns-clause-other_than_8 : goal.returns-clause-other_than_8
unfolding computing
returns-clause-other_than_8 c = caused refl

pub returns-clause-kind_9 : goal.returns-clause-kind_9
unfolding computing
returns-clause-kind_9 c = caused_otherwise refl

pub returns-clause-other_than_9 : goal.returns-clause-other_than_9
unfolding computing
returns-clause-other_than_9 c = caused refl

pub returns-clause-kind_10 : goal.returns-clause-kind_10
unfolding computing
returns-clause-kind_10 c = caused_otherwise refl

pub returns-clause-other_than_10 : goal.returns-clause-other_than_10
unfolding computing
returns-clause-other_than_10 c = caused refl

pub returns-clause-kind_19 : goal.returns-clause-kind_19
unfolding computing
returns-clause-kind_19 c = caused_otherwise refl

pub returns-clause-other_than_19 : goal.returns-clause-other_than_19
unfolding computing
returns-clause-other_than_19 c = caused refl

pub returns-clause-kind_21 : goal.returns-clause-kind_21
unfolding computing
returns-clause-kind_21 c = caused_otherwise refl

pub returns-clause-other_than_21 : goal.returns-clause-other_than_21
unfolding computing
returns-clause-other_than_21 c = caused refl

pub returns-clause-kind_23 : goal.returns-clause-kind_23
unfolding computing
returns-clause-kind_23 c = caused_otherwise refl

pub returns-clause-other_than_23 : goal.returns-clause-other_than_23
unfolding computing
returns-clause-other_than_23 c = caused refl

pub returns-clause-kind_25 : goal.returns-clause-kind_25
unfolding computing
returns-clause-kind_25 c = caused_otherwise refl

pub returns-clause-other_than_25 : goal.returns-clause-other_than_25
unfolding computing
returns-clause-other_than_25 c = caused refl

pub returns-clause-kind_27 : goal.returns-clause-kind_27
unfolding computing
returns-clause-kind_27 c = caused_otherwise refl

pub returns-clause-other_than_27 : goal.returns-clause-other_than_27
unfolding computing
returns-clause-other_than_27 c = caused refl

pub returns-clause-kind_41 : goal.returns-clause-kind_41
unfolding computing
returns-clause-kind_41 c = caused_otherwise refl

pub returns-clause-other_than_41 : goal.returns-clause-other_than_41
unfolding computing
returns-clause-other_than_41 c = caused refl

pub returns-clause-kind_45 : goal.returns-clause-kind_45
unfolding computing
returns-clause-kind_45 c = caused_otherwise refl

pub returns-clause-other_than_45 : goal.returns-clause-other_than_45
unfolding computing
returns-clause-other_than_45 c = caused refl

pub returns-clause-kind_50 : goal.returns-clause-kind_50
unfolding computing
returns-clause-kind_50 c = caused_otherwise refl

pub returns-clause-other_than_50 : goal.returns-clause-other_than_50
unfolding computing
returns-clause-other_than_50 c = caused refl

pub returns-clause-kind_73 : goal.returns-clause-kind_73
unfolding computing
returns-clause-kind_73 c = caused_otherwise refl

pub returns-clause-other_than_73 : goal.returns-clause-other_than_73
unfolding computing
returns-clause-other_than_73 c = caused refl
