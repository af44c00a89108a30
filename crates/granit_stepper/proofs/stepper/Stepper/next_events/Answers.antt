use Rattle.std.proofs.Common.{◌⊎◌, Bool, [], Err, sym, ap, subst, ◌∙◌}
use Rattle.granit_error.specs.Refused.{Refused}
use Rattle.granit_lexemes.specs.Outcome.{Fails}
use Rattle.granit_refused.specs.Answered.{why}
use Rattle.granit_restart.specs.Skipping.{with_pending}
use Rattle.granit_stepper.specs.Numbers.{RefusesNumber}
use Rattle.granit_stepper.proofs.stepper.Stepper.next_events.Goals as goal
use Rattle.granit_steps.specs.Steps.{settle}

pub returns-in-Err-clause-known : goal.returns-in-Err-clause-known
returns-in-Err-clause-known g c = λ m at told.
    let o = c.args.self.now.scanner.options in
    let n = with_pending [] m in
    let e = why c.settle_behind.new.fault c.in-Err.refused in
    let failed = subst (λ (b : Bool). Fails e (settle o n) ⊎ RefusesNumber b o n e) c.in-Err.ensures.keeps.renumbered
    (c.in-Err.ensures.known m at told) in
    subst (λ (f : Refused). Fails f (settle o n) ⊎ RefusesNumber c.args.self.now.renumbered o n f)
    (sym c.fail_by.ensures.told) failed

pub returns-in-Err-clause-ended : goal.returns-in-Err-clause-ended
returns-in-Err-clause-ended g c = λ at. absurd (let clash = (c.in-Err.ensures.ended at).0 in cc)

pub returns-in-Err-clause-at_once : goal.returns-in-Err-clause-at_once
returns-in-Err-clause-at_once g c = λ going e free.
    ap Err c.fail_by.ensures.told ∙ c.in-Err.ensures.at_once e free
