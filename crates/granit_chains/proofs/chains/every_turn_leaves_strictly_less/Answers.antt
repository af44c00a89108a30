use Rattle.granit_chains.proofs.LeftTurns.{falls}
use Rattle.granit_chains.proofs.chains.every_turn_leaves_strictly_less.Goals as goal

pub returns : goal.returns
returns c = falls
