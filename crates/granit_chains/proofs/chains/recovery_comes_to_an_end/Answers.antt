use Rattle.granit_chains.proofs.ChainLaws.{no_chain}
use Rattle.granit_chains.proofs.chains.recovery_comes_to_an_end.Goals as goal

pub returns : goal.returns
returns c = no_chain c.an_open_call_gives_something.ensures
