use Rattle.granit_calls.proofs.AskLaws.{asks_here, asks_looked}
use Rattle.granit_calls.proofs.asking.a_look_tells_where_recovery_asks.Goals as goal

pub returns-clause-here : goal.returns-clause-here
returns-clause-here c = asks_here

pub returns-clause-looked : goal.returns-clause-looked
returns-clause-looked c = asks_looked
