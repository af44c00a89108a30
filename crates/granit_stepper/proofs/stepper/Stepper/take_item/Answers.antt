use Rattle.std.proofs.Common.{sym, ◌∙◌}
use Rattle.granit_stepper.proofs.stepper.Stepper.take_item.Goals as goal

pub returns-then-is_mark-clause-at_once : goal.returns-then-is_mark-clause-at_once
returns-then-is_mark-clause-at_once g c = λ e free.
    absurd (let clash = sym c.if-is_mark.true ∙ c.is_mark.ensures.marked free.unmarked in cc)

pub returns-then-is_mark-clause-eventless : goal.returns-then-is_mark-clause-eventless
returns-then-is_mark-clause-eventless g c = λ p free.
    absurd (let clash = sym c.if-is_mark.true ∙ c.is_mark.ensures.marked free.unmarked in cc)
