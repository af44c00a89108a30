use Rattle.granit_chains.proofs.ChainLaws.{once_less, once_reached, once_resumed}
use Rattle.granit_chains.proofs.chains.each_recovery_leaves_less.Goals as goal

pub returns-clause-less : goal.returns-clause-less
returns-clause-less c = once_less c.an_open_call_gives_something.ensures

pub returns-clause-reached : goal.returns-clause-reached
returns-clause-reached c = once_reached

pub returns-clause-resumed : goal.returns-clause-resumed
returns-clause-resumed c = once_resumed
