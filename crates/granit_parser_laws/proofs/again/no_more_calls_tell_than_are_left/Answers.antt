use Rattle.granit_parser_laws.proofs.AgainLemmas.{left_law, start_law}
use Rattle.granit_parser_laws.proofs.again.no_more_calls_tell_than_are_left.Goals as goal

pub returns-clause-left : goal.returns-clause-left
returns-clause-left g c = left_law g.T.Input.unread g.T.Input.origin c.an_open_call_gives_something.ensures

pub returns-clause-start : goal.returns-clause-start
returns-clause-start g c = start_law g.T.Input.unread g.T.Input.origin c.an_open_call_gives_something.ensures
