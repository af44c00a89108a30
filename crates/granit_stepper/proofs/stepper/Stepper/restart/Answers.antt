use Rattle.std.proofs.Common.{◌≡◌, Option, sym, ap, subst, ◌∙◌}
use Rattle.std.specs.Prelude.{IfOk}
use Rattle.granit_restart.specs.Turned.{Turned}
use Rattle.granit_stepper.specs.Recovering.{RestartsIn}
use Rattle.granit_stepper.specs.RecoveryMemory.{RestartsFree}
use Rattle.granit_stepper.specs.Refusals.{StandsRefused}
use Rattle.granit_stepper.specs.Stepping.{Stepping}
use Rattle.granit_refusals.specs.declared.refusal.Refusal.{Refusal}
use Rattle.granit_stepper.proofs.stepper.Stepper.restart.Goals as goal

pub returns-in-Some-clause-known : goal.returns-in-Some-clause-known
returns-in-Some-clause-known g c = λ m e refused turned.
    let unread = g.T.Input.unread in
    let inside : Stepping g.row.T.Denot = record {
      scanner = c.self.inside.scanner;
      parser = c.self.inside.parser;
      first = c.self.inside.first;
      failed = c.self.inside.failed;
      renumbered = c.self.inside.renumbered;
      ahead = c.self.inside.ahead;
      refusal = c.self.inside.refusal;
    } in
    let here = subst (λ (s : Stepping g.row.T.Denot). StandsRefused unread s m e) (sym c.self.view_is) refused in
    let given = c.restart_behind.ensures.known m e
    (subst (λ (r : Option Refusal). StandsRefused unread (record inside { refusal = r }) m e)
    (sym c.take.ensures.value ∙ c.in-Some.is) here)
    (subst (λ (s : Stepping g.row.T.Denot). Turned s.scanner.options m) (sym c.self.view_is) turned) in
    subst (λ (s : Stepping g.row.T.Denot). IfOk c.restart_behind.result
    (λ starts. RestartsIn unread s.scanner.cursor starts c.restart_behind.new.self m)) c.self.view_is given

pub returns-in-None-clause-free : goal.returns-in-None-clause-free
returns-in-None-clause-free g c = λ r refused free.
    let is = ap (λ (s : Stepping g.row.T.Denot). s.refusal) c.self.view_is ∙ refused in
    absurd (let clash = sym is ∙ sym c.take.ensures.value ∙ c.in-None.is in cc)

pub returns-in-Some-clause-free : goal.returns-in-Some-clause-free
returns-in-Some-clause-free g c = λ r refused free.
    let is = ap (λ (s : Stepping g.row.T.Denot). s.refusal) c.self.view_is ∙ refused in
    let both = sym is ∙ sym c.take.ensures.value ∙ c.in-Some.is in
    let same : r ≡ c.in-Some.refusal = cc in
    let here = subst (λ (s : Stepping g.row.T.Denot). RestartsFree g.T.Input.unread s.scanner r) (sym c.self.view_is)
    free in
    c.restart_behind.ensures.free (subst (λ (x : Refusal). RestartsFree g.T.Input.unread c.self.inside.scanner x) same
    here)
