use Rattle.granit_parser_laws.proofs.AgainLemmas.{number_law}
use Rattle.granit_parser_laws.proofs.again.numbers_are_met_where_one_was_set.Goals as goal

pub returns-clause-behind : goal.returns-clause-behind
returns-clause-behind g c = λ renumbered o d met. met.meets.3.0

pub returns-clause-met : goal.returns-clause-met
returns-clause-met g c = number_law g.T.Input.unread g.T.Input.origin
