use Rattle.std.proofs.Common.{sym, ap, subst}
use Rattle.granit_scanner.specs.Scans.{Scanning}
use Rattle.granit_stepper.proofs.RefusalLemmas.{held_moved}
use Rattle.granit_stepper.specs.Refusals.{HoldsRefusal}
use Rattle.granit_stepper.specs.Stepping.{Stepping}
use Rattle.granit_stepper.proofs.stepper.Stepper.take_source_error.Goals as goal

pub returns-in_err-kind-clause-held : goal.returns-in_err-kind-clause-held
returns-in_err-kind-clause-held g c = λ m held none.
    let unread = g.T.Input.unread in
    let inside : Stepping g.row.T.Denot = record {
      scanner = c.self.inside.scanner;
      parser = c.self.inside.parser;
      first = c.self.inside.first;
      failed = c.self.inside.failed;
      renumbered = c.self.inside.renumbered;
      ahead = c.self.inside.ahead;
      refusal = c.self.inside.refusal;
    } in
    let rest = c.take_source_error.ensures.rest in
    held_moved unread inside c.take_source_error.new.self c.take_source_error.ensures.known_by
    (ap (λ (s : Scanning g.row.T.Denot). s.fault) rest) (ap (λ (s : Scanning g.row.T.Denot). s.options) rest) m
    (subst (λ (s : Stepping g.row.T.Denot). HoldsRefusal unread s m) (sym c.self.view_is) held)
