use Rattle.std.proofs.Common.{◌≡◌, Bool, true, false, inl, refl, sym, subst}
use Rattle.std.proofs.lemmas.Result.{on_ok_weaker}
use Rattle.granit_error.specs.OptionsData.{OptionsData}
use Rattle.granit_restart.specs.Turned.{Turned}
use Rattle.granit_stepper.proofs.FaultLemmas.{document_failed}
use Rattle.granit_stepper.proofs.HoldingLemmas.{skips_behind, skips_passed}
use Rattle.granit_stepper.proofs.SkipLemmas.{drops_turned}
use Rattle.granit_stepper.specs.Holding.{held_skip}
use Rattle.granit_stepper.specs.Recovering.{Skips, SkipsFault}
use Rattle.granit_stepper.proofs.stepper.Stepper.skip_document.Goals as goal

pub returns-then-branch-clause-known : goal.returns-then-branch-clause-known
returns-then-branch-clause-known g c = λ m stands turned.
    let o = c.args.self.now.scanner.options in
    let new = c.pass_document.new.self in
    let is : c.in_ok-pass_document.field-0 ≡ true = c.if-branch.true in
    inl (subst (λ (b : Bool). Skips g.T.Input.unread o b new m) is
    (c.in_ok-pass_document.ensures.known m stands turned))

pub returns-else-branch-clause-known : goal.returns-else-branch-clause-known
returns-else-branch-clause-known g c = λ m stands turned.
    let o = c.args.self.now.scanner.options in
    let mid = c.pass_document.new.self in
    let new = c.skip_fault.new.self in
    let is : c.in_ok-pass_document.field-0 ≡ false = c.if-branch.false in
    let given = subst (λ (b : Bool). Skips g.T.Input.unread o b mid m) is
    (c.in_ok-pass_document.ensures.known m stands turned) in
    let behind = subst (λ (p : OptionsData). Turned p given.0) (sym c.in_ok-pass_document.ensures.options)
    (drops_turned o turned given.2) in
    on_ok_weaker c.skip_fault.result
    (λ fault. document_failed g.T.Input.unread o new m mid c.skip_fault.ensures.renumbered given mid.scanner.cursor
    (subst (λ (p : OptionsData). SkipsFault g.T.Input.unread p mid.scanner.cursor given.1 new given.0)
    c.in_ok-pass_document.ensures.options fault))
    (c.skip_fault.ensures.known given.0 given.1 given.4.stands behind)

pub returns-then-branch-clause-held : goal.returns-then-branch-clause-held
returns-then-branch-clause-held g c = λ m e h turned.
    let old = c.args.self.now in
    skips_passed g.T.Input.unread old.scanner.options old c.pass_document.new.self c.pass_document.new.self m e
    (held_skip e m) c.in_ok-pass_document.field-0 c.if-branch.true (c.in_ok-pass_document.ensures.held m e h)

pub returns-else-branch-clause-held : goal.returns-else-branch-clause-held
returns-else-branch-clause-held g c = λ m e h turned.
    let old = c.args.self.now in
    skips_behind g.T.Input.unread old.scanner.options old c.pass_document.new.self c.skip_fault.new.self m e
    c.skip_fault.result (held_skip e m) c.in_ok-pass_document.field-0 refl c.if-branch.false
    (c.in_ok-pass_document.ensures.held m e h) c.in_ok-pass_document.ensures.options turned c.skip_fault.ensures.known
