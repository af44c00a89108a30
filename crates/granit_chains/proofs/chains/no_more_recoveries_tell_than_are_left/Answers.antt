use Rattle.granit_chains.proofs.ChainLaws.{chain_less, chain_most}
use Rattle.granit_chains.proofs.chains.no_more_recoveries_tell_than_are_left.Goals as goal

pub returns-clause-told : goal.returns-clause-told
returns-clause-told c = λ o n x d. chain_less c.an_open_call_gives_something.ensures o n x d

pub returns-clause-start : goal.returns-clause-start
returns-clause-start c = chain_most c.an_open_call_gives_something.ensures
