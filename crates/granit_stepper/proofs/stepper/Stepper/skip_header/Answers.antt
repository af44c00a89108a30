use Rattle.std.proofs.Common.{◌≡◌, Bool, true, false, sym, subst}
use Rattle.granit_error.specs.OptionsData.{OptionsData}
use Rattle.granit_restart.specs.Turned.{Turned}
use Rattle.granit_stepper.proofs.FaultLemmas.{header_failed, header_passed}
use Rattle.granit_stepper.proofs.SkipLemmas.{drops_turned}
use Rattle.granit_stepper.specs.Recovering.{Skips}
use Rattle.granit_stepper.proofs.stepper.Stepper.skip_header.Goals as goal
use Rattle.std.proofs.Common.{inl}

pub returns-then-branch-clause-known : goal.returns-then-branch-clause-known
returns-then-branch-clause-known g c = λ m at turned.
    let o = c.args.self.now.scanner.options in
    let new = c.pass_document.new.self in
    let is : c.in_ok-pass_document.field-0 ≡ true = c.if-branch.true in
    header_passed g.T.Input.unread o new m (subst (λ (b : Bool). Skips g.T.Input.unread o b new m) is
    (c.in_ok-pass_document.ensures.known m (inl at) turned))

pub returns-clause-known : goal.returns-clause-known
returns-clause-known g c = λ m at turned.
    let o = c.args.self.now.scanner.options in
    let mid = c.pass_document.new.self in
    let new = c.restart.new.self in
    let is : c.in_ok-pass_document.field-0 ≡ false = c.if-branch.false in
    let given = subst (λ (b : Bool). Skips g.T.Input.unread o b mid m) is
    (c.in_ok-pass_document.ensures.known m (inl at) turned) in
    let behind = subst (λ (p : OptionsData). Turned p given.0) (sym c.in_ok-pass_document.ensures.options)
    (drops_turned o turned given.2) in
    header_failed g.T.Input.unread o new m mid c.in_ok-restart.ensures.renumbered given mid.scanner.cursor
    c.in_ok-restart.field-0
    (c.in_ok-restart.ensures.known given.0 given.1 given.4.stands behind)
