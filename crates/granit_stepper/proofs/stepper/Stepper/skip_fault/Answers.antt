use Rattle.std.proofs.Common.{◌≡◌, Bool, true, false, ◌&&◌, inl, inr, Option, sym, ap, subst, ◌∙◌}
use Rattle.std.proofs.lemmas.Result.{on_ok_weaker}
use Rattle.std.specs.Prelude.{IfSome}
use Rattle.granit_error.specs.OptionsData.{OptionsData}
use Rattle.granit_refusals.specs.BeforeTurn.{refusal_outside}
use Rattle.granit_refusals.specs.declared.refusal.Refusal.{Refusal}
use Rattle.granit_restart.specs.Restart.{behind_fault}
use Rattle.granit_restart.specs.Turned.{Turned}
use Rattle.granit_stepper.proofs.FaultLemmas.{fault_alone, fault_in_header, restarts_turned}
use Rattle.granit_stepper.specs.Recovering.{SkipsHeader}
use Rattle.granit_stepper.proofs.stepper.Stepper.skip_fault.Goals as goal

pub returns-then-starts-clause-known : goal.returns-then-starts-clause-known
returns-then-starts-clause-known g c = λ m e refused turned.
    let unread = g.T.Input.unread in
    let o = c.args.self.now.scanner.options in
    let mid = c.restart.new.self in
    let new = c.skip_header.new.self in
    let starts = c.in_ok-starts.starts in
    let goes = c.in_ok-starts.ensures.known m e refused turned in
    let is : (c.is_in_header-in_header.result && starts) ≡ true =
    ap (λ (b : Bool). b && starts) c.if-in_header.true ∙ c.if-starts.true in
    let next = (behind_fault goes.0 m).1 in
    let behind = subst (λ (p : OptionsData). Turned p next) (sym c.in_ok-starts.ensures.options)
    (restarts_turned o goes.0 m turned) in
    on_ok_weaker c.skip_header.result
    (λ given. fault_in_header unread o new m e c.args.self.now.scanner.cursor c.is_in_header-in_header.result starts
    (c.is_in_header-in_header.ensures.known m e refused) mid goes is
    (subst (λ (p : OptionsData). SkipsHeader unread p new next) c.in_ok-starts.ensures.options given))
    (c.skip_header.ensures.known next goes.3 behind)

pub returns-clause-known : goal.returns-clause-known
returns-clause-known g c = λ m e refused turned.
    let header = c.is_in_header-in_header.result in
    let starts = c.in_ok-starts.starts in
    let other : (header && starts) ≡ false = elim c.else-in_header.either [
      | inl both ↦ ap (λ (b : Bool). b && starts) both.0 ∙ both.1
      | inr none ↦ ap (λ (b : Bool). b && starts) none
    ] in
    fault_alone g.T.Input.unread c.args.self.now.scanner.options c.restart.new.self m e
    c.args.self.now.scanner.cursor header starts
    (c.is_in_header-in_header.ensures.known m e refused) (c.in_ok-starts.ensures.known m e refused turned) other

pub returns-in_err-starts-clause-free : goal.returns-in_err-starts-clause-free
returns-in_err-starts-clause-free g c = λ free.
    absurd (let fine = c.in_err-starts.ensures.free free.refusal free.refused free.restarts in cc)

pub returns-then-starts-clause-free : goal.returns-then-starts-clause-free
returns-then-starts-clause-free g c = λ free.
    let header = c.is_in_header-in_header.result in
    let inside = subst
    (λ (x : Option Refusal). IfSome x (λ r. refusal_outside r ≡ false → header ≡ false)) free.refused
    c.is_in_header-in_header.ensures.inside free.inside in
    absurd (let clash = sym c.if-in_header.true ∙ inside in cc)
