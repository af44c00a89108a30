use Rattle.std.proofs.Common.{◌≡◌, length}
use Rattle.granit_restart.specs.Skipping.{ahead}
use Rattle.granit_stepper.proofs.stepper.Stepper.drop_events.Given as goal

abbrev pub invariant-events : goal.invariant-events
invariant-events g l = record {
  ends : ahead l.self.parser.given ≡ ahead l.fn.self.parser.given;
  rest : l.self ≡ record (l.fn.self) { parser = record (l.fn.self.parser) { given = l.self.parser.given } };
}

abbrev pub decreases-events : goal.decreases-events
decreases-events g l = length l.self.parser.given
