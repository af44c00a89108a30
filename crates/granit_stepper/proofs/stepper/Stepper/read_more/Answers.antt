use Rattle.std.proofs.Common.{◌≡◌, false, sym, ap, subst, ◌∙◌}
use Rattle.granit_error.specs.OptionsData.{OptionsData}
use Rattle.granit_scanner.specs.Scans.{ReadsOn}
use Rattle.granit_stepper.specs.Stepping.{Stepping, StandsIn}
use Rattle.granit_stepper.proofs.FreeLemmas.{is_over_kept}
use Rattle.granit_stepper.proofs.StateLemmas.{no_fault_yet, reads}
use Rattle.granit_stepper.proofs.stepper.Stepper.read_more.Goals as goal
use Rattle.granit_steps.specs.Steps.{is_over}

pub returns-clause-known : goal.returns-clause-known
returns-clause-known g c = λ m at waits.
    let unread = g.T.Input.unread in
    let inside : Stepping g.row.T.Denot = record {
      scanner = c.self.inside.scanner;
      parser = c.self.inside.parser;
      first = c.self.inside.first;
      failed = c.self.inside.failed;
      renumbered = c.self.inside.renumbered;
      ahead = c.self.inside.ahead;
      refusal = c.self.inside.refusal;
    } in
    let after = c.read_on.new.self in
    let here : StandsIn unread inside m = subst
    (λ (s : Stepping g.row.T.Denot). StandsIn unread s m) (sym c.self.view_is) at in
    let going : is_over m.reading ≡ false =
    sym (c.is_over.ensures.known m.reading m.queue here.reading) ∙ c.if-is_over.false in
    let none = no_fault_yet unread inside m here going in
    let read = c.in_ok-read_on.ensures.known m.reading m.queue here.reading none waits in
    let options = ap (λ (s : Stepping g.row.T.Denot). s.scanner.options) c.self.view_is in
    reads unread inside m here c.args.self.now.scanner.options after going
    (subst (λ (o : OptionsData). ReadsOn unread o after m.reading m.queue) options read)

pub returns-in_err-read_on-clause-at_once : goal.returns-in_err-read_on-clause-at_once
returns-in_err-read_on-clause-at_once g c = λ e kept.
    let same = ap (λ (s : Stepping g.row.T.Denot). s.scanner.fault) c.self.view_is ∙ kept in
    absurd (is_over_kept c.self.inside.scanner.ended c.self.inside.scanner.fault e same
    (sym c.is_over.ensures.seen ∙ c.if-is_over.false))

pub returns-clause-at_once : goal.returns-clause-at_once
returns-clause-at_once g c = λ e kept.
    let same = ap (λ (s : Stepping g.row.T.Denot). s.scanner.fault) c.self.view_is ∙ kept in
    absurd (is_over_kept c.self.inside.scanner.ended c.self.inside.scanner.fault e same
    (sym c.is_over.ensures.seen ∙ c.if-is_over.false))
