use Rattle.std.proofs.Common.{None, Some, false, refl, sym, ap, subst, ◌∙◌}
use Rattle.granit_stepper.proofs.RefusalLemmas.{restarts_behind}
use Rattle.granit_stepper.specs.Recovering.{RestartsIn}
use Rattle.granit_stepper.specs.RecoveryMemory.{RestartsFree}
use Rattle.granit_stepper.specs.Refusals.{StandsRefused}
use Rattle.granit_stepper.specs.Stepping.{Stepping}
use Rattle.granit_stepper.proofs.stepper.Stepper.restart_behind.Goals as goal

pub returns-clause-known : goal.returns-clause-known
returns-clause-known g c = λ m e refused turned.
    let unread = g.T.Input.unread in
    let inside : Stepping g.row.T.Denot = record {
      scanner = c.self.inside.scanner;
      parser = c.self.inside.parser;
      first = c.self.inside.first;
      failed = c.self.inside.failed;
      renumbered = c.self.inside.renumbered;
      ahead = c.self.inside.ahead;
      refusal = Some c.args.refusal;
    } in
    let here = subst (λ (s : Stepping g.row.T.Denot). StandsRefused unread
    (record s { refusal = Some c.args.refusal }) m e) (sym c.self.view_is) refused in
    let new : Stepping g.row.T.Denot = record {
      scanner = c.restart.new.self;
      parser = c.drop_document.new.self;
      first = None;
      failed = false;
      renumbered = c.self.inside.renumbered;
      ahead = None;
      refusal = c.self.inside.refusal;
    } in
    subst (λ (s : Stepping g.row.T.Denot). RestartsIn unread s.scanner.cursor c.in_ok-starts.starts new m)
    c.self.view_is
    (restarts_behind unread inside m e here c.args.refusal refl c.args.self.now.scanner.options turned
    (sym c.is_lost.ensures ∙ c.if-is_lost.false) new c.in_ok-starts.starts c.in_ok-starts.ensures.known
    c.drop_document.ensures refl refl refl)

pub returns-then-is_lost-clause-free : goal.returns-then-is_lost-clause-free
returns-then-is_lost-clause-free g c = λ free.
    let lost = ap (λ (s : Stepping g.row.T.Denot). s.scanner.cursor.lost) c.self.view_is ∙ free.known in
    absurd (let clash = sym c.if-is_lost.true ∙ c.is_lost.ensures ∙ lost in cc)

pub returns-in_err-starts-clause-free : goal.returns-in_err-starts-clause-free
returns-in_err-starts-clause-free g c = λ free.
    let here = subst (λ (s : Stepping g.row.T.Denot). RestartsFree g.T.Input.unread s.scanner c.args.refusal)
    (sym c.self.view_is) free in
    absurd (let fine = c.in_err-starts.ensures.memory here.here here.stands here.few here.read in cc)
