-- Each is a computation.
use Rattle.std.proofs.Common.{refl}
use Rattle.granit_cause_rows.proofs.Computing.{computing}
use Rattle.granit_cause_rows.proofs.RowLemmas.{caused}
use Rattle.granit_cause_rows.proofs.causes.causes_of_places_and_quotes.Goals as goal

pub returns-clause-kind_30 : goal.returns-clause-kind_30
unfolding computing
returns-clause-kind_30 c = caused refl

pub returns-clause-kind_31 : goal.returns-clause-kind_31
unfolding computing
returns-clause-kind_31 c = caused refl

pub returns-clause-kind_32 : goal.returns-clause-kind_32
unfolding computing
returns-clause-kind_32 c = caused refl

pub returns-clause-kind_33 : goal.returns-clause-kind_33
unfolding computing
returns-clause-kind_33 c = caused refl

pub returns-clause-kind_34 : goal.returns-clause-kind_34
unfolding computing
returns-clause-kind_34 c = caused refl

pub returns-clause-kind_35 : goal.returns-clause-kind_35
unfolding computing
returns-clause-kind_35 c = caused refl

pub returns-clause-kind_36 : goal.returns-clause-kind_36
unfolding computing
returns-clause-kind_36 c = caused refl

pub returns-clause-kind_37 : goal.returns-clause-kind_37
unfolding computing
returns-clause-kind_37 c = caused refl

pub returns-clause-kind_38 : goal.returns-clause-kind_38
unfolding computing
returns-clause-kind_38 c = caused refl

pub returns-clause-kind_39 : goal.returns-clause-kind_39
unfolding computing
returns-clause-kind_39 c = caused refl

pub returns-clause-kind_40 : goal.returns-clause-kind_40
unfolding computing
returns-clause-kind_40 c = caused refl

pub returns-clause-kind_41 : goal.returns-clause-kind_41
unfolding computing
returns-clause-kind_41 c = caused refl

pub returns-clause-kind_42 : goal.returns-clause-kind_42
unfolding computing
returns-clause-kind_42 c = caused refl

pub returns-clause-kind_43 : goal.returns-clause-kind_43
unfolding computing
returns-clause-kind_43 c = caused refl

pub returns-clause-kind_44 : goal.returns-clause-kind_44
unfolding computing
returns-clause-kind_44 c = caused refl

pub returns-clause-kind_45 : goal.returns-clause-kind_45
unfolding computing
returns-clause-kind_45 c = caused refl

pub returns-clause-kind_46 : goal.returns-clause-kind_46
unfolding computing
returns-clause-kind_46 c = caused refl

pub returns-clause-kind_47 : goal.returns-clause-kind_47
unfolding computing
returns-clause-kind_47 c = caused refl

pub returns-clause-kind_48 : goal.returns-clause-kind_48
unfolding computing
returns-clause-kind_48 c = caused refl

pub returns-clause-kind_49 : goal.returns-clause-kind_49
unfolding computing
returns-clause-kind_49 c = caused refl

pub returns-clause-kind_50 : goal.returns-clause-kind_50
unfolding computing
returns-clause-kind_50 c = caused refl

pub returns-clause-kind_51 : goal.returns-clause-kind_51
unfolding computing
returns-clause-kind_51 c = caused refl
