use Rattle.std.proofs.Common.{refl}
use Rattle.granit_parser.proofs.InLemmas.{starts_in}
use Rattle.granit_parser.proofs.parser.Parser.with_options.Goals as goal

pub returns-clause-calls : goal.returns-clause-calls
returns-clause-calls g c = λ h read place begins tab.
    starts_in g.T.Input.unread _ h (c.new.ensures.start h read place begins tab) refl refl refl
