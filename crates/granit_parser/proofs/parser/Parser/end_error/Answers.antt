use Rattle.granit_parser.proofs.SourceLemmas.{behind_on}
use Rattle.granit_parser.proofs.parser.Parser.end_error.Goals as goal

pub invariant_of-self : goal.invariant_of-self
invariant_of-self g c = (
  behind_on c.self.inside.peeked c.self.inside.given c.self.inside.stepper c.end_error.new.self c.end_error.result
      c.end_error.ensures.failed c.self.invariant.0,
  c.self.invariant.1,
)
