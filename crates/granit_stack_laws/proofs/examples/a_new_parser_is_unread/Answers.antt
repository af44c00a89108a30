use Rattle.std.proofs.Common.{subst}
use Rattle.granit_steps.specs.Steps.{start_from}
use Rattle.granit_parser.specs.Parsing.{StandsBefore}
use Rattle.granit_stack_laws.proofs.examples.a_new_parser_is_unread.Goals as goal

pub returns : goal.returns
returns g c = λ p h at unseen. record {
  start = h;
  count = 0;
  stands = subst (λ r. StandsBefore g.T.Input.unread r p.stepper (start_from h)) unseen at;
  unseen = unseen;
}
