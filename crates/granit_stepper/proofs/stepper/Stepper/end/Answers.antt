use Rattle.std.proofs.Common.{Some, sym, ap, subst, ◌∙◌}
use Rattle.granit_scanner.specs.Scans.{Scanning}
use Rattle.granit_stepper.specs.Refusals.{RefusedIn}
use Rattle.granit_stepper.specs.Stepping.{Stepping, StandsIn}
use Rattle.granit_stepper.proofs.RefusalLemmas.{read_refuses}
use Rattle.granit_stepper.proofs.stepper.Stepper.end.Goals as goal

pub returns-in-Some-clause-refused : goal.returns-in-Some-clause-refused
returns-in-Some-clause-refused g c = λ m at told none waits. rw c.refuse.ensures.told (λ other.
    let unread = g.T.Input.unread in
    let inside : Stepping g.row.T.Denot = record {
      scanner = c.self.inside.scanner;
      parser = c.self.inside.parser;
      first = c.self.inside.first;
      failed = c.self.inside.failed;
      renumbered = c.self.inside.renumbered;
      ahead = c.self.inside.ahead;
      refusal = c.self.inside.refusal;
    } in
    let here = subst (λ (s : Stepping g.row.T.Denot). StandsIn unread s m) (sym c.self.view_is) at in
    let first = ap (λ (s : Stepping g.row.T.Denot). s.first) c.self.view_is ∙ told in
    subst (λ (sc : Scanning g.row.T.Denot). RefusedIn unread
    (record inside { scanner = sc; refusal = Some c.at_read.result }) m c.in-Some.error) (sym c.take_fault.ensures.rest)
    (read_refuses unread inside m c.in-Some.error none c.at_read.result here first (sym c.in-Some.ensures.given)
    waits c.at_read.ensures))
