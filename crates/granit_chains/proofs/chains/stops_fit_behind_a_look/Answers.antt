use Rattle.granit_chains.proofs.ChainLaws.{looked_fit}
use Rattle.granit_chains.proofs.chains.stops_fit_behind_a_look.Goals as goal

pub returns : goal.returns
returns c = looked_fit
