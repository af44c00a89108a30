use Rattle.granit_parser_laws.proofs.AgainLemmas.{ends_law, met_law}
use Rattle.granit_parser_laws.proofs.again.calls_of_recovery_come_to_an_end.Goals as goal

pub returns-clause-ends : goal.returns-clause-ends
returns-clause-ends g c = ends_law g.T.Input.unread g.T.Input.origin c.an_open_call_gives_something.ensures

pub returns-clause-met : goal.returns-clause-met
returns-clause-met g c = met_law g.T.Input.unread g.T.Input.origin c.an_open_call_gives_something.ensures
