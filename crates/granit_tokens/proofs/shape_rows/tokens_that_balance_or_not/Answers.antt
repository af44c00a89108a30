use Rattle.std.proofs.Common.{refl}
use Rattle.granit_tokens.proofs.Openings.{balanced, begins_balanced}
use Rattle.granit_tokens.proofs.Stacked.{balanced_passes, front_passes}
use Rattle.granit_tokens.proofs.shape_rows.tokens_that_balance_or_not.Goals as goal

pub returns-clause-sequence : goal.returns-clause-sequence
returns-clause-sequence c m n = balanced _ refl

pub returns-clause-key : goal.returns-clause-key
returns-clause-key c m = balanced _ refl

pub returns-clause-pair : goal.returns-clause-pair
returns-clause-pair c m n = balanced _ refl

pub returns-clause-start_alone : goal.returns-clause-start_alone
returns-clause-start_alone c m b = absurd (let e = balanced_passes _ b in cc)

pub returns-clause-end_alone : goal.returns-clause-end_alone
returns-clause-end_alone c m b = absurd (let e = balanced_passes _ b in cc)

pub returns-clause-other_end : goal.returns-clause-other_end
returns-clause-other_end c m n b = absurd (let e = balanced_passes _ b in cc)

pub returns-clause-crossed : goal.returns-clause-crossed
returns-clause-crossed c m b = absurd (let e = balanced_passes _ b in cc)

pub returns-clause-front : goal.returns-clause-front
returns-clause-front c m = begins_balanced _ _ refl

pub returns-clause-no_front : goal.returns-clause-no_front
returns-clause-no_front c m b = absurd (let e = (front_passes _ b).1 in cc)

pub returns-clause-no_crossed_front : goal.returns-clause-no_crossed_front
returns-clause-no_crossed_front c m b = absurd (let e = (front_passes _ b).1 in cc)
