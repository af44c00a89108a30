use Rattle.granit_blocks.proofs.BlockCauses.{cause_refused}
use Rattle.granit_blocks.proofs.laws.every_block_cause_is_refused.Goals as goal

pub returns : goal.returns
returns c = λ literal block h kind m p. cause_refused literal block h p
