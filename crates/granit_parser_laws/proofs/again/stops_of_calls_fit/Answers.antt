use Rattle.std.proofs.Common.{refl}
use Rattle.granit_parser_laws.proofs.StopLemmas.{fit_there, parser_fit}
use Rattle.granit_parser_laws.proofs.again.stops_of_calls_fit.Goals as goal

pub returns : goal.returns
returns g c = λ p cursor stops d at told refusal.
    parser_fit p.stepper.scanner.options stops g.T.Input.unread p d refl at
    (fit_there p.stepper.scanner.options stops g.T.Input.unread cursor d told refusal)
