use Rattle.granit_tokens.proofs.Whole.{text_counts, front_counts}
use Rattle.granit_tokens.proofs.balance.blocks_end_as_often_as_they_start.Goals as goal

pub returns-clause-fronts : goal.returns-clause-fronts
returns-clause-fronts c = front_counts

pub returns-clause-whole : goal.returns-clause-whole
returns-clause-whole c = text_counts
