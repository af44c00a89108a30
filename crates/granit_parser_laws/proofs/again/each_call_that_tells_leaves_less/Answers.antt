use Rattle.granit_parser_laws.proofs.AgainLemmas.{less_law, told_law}
use Rattle.granit_parser_laws.proofs.again.each_call_that_tells_leaves_less.Goals as goal

pub returns-clause-told : goal.returns-clause-told
returns-clause-told g c = told_law g.T.Input.unread g.T.Input.origin

pub returns-clause-less : goal.returns-clause-less
returns-clause-less g c = less_law g.T.Input.unread g.T.Input.origin c.an_open_call_gives_something.ensures
