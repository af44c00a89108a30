use Rattle.std.proofs.Common.{refl, sym, ◌∙◌}
use Rattle.granit_stepper.proofs.RefusalLemmas.{not_memory, refused_ahead}
use Rattle.granit_stepper.proofs.stepper.Stepper.met.Goals as goal
use Rattle.std.proofs.Common.{Some}

pub returns-then-branch-clause-known : goal.returns-then-branch-clause-known
returns-then-branch-clause-known g c = λ m going fails.
    let s = c.args.self.now in
    let e = c.args.error in
    let other = not_memory e.kind (sym c.wants_memory.ensures ∙ c.if-wants_memory.false) in
    let refused = fails other in
    rw c.hold.ensures (
      sym (c.in_ok-ends_before.ensures.known m e refused.stands) ∙ c.if-branch.true,
      refl,
      going,
      other,
      refused_ahead g.T.Input.unread s m e (Some e) refused,
    )

pub returns-clause-known : goal.returns-clause-known
returns-clause-known g c = λ m going fails.
    let e = c.args.error in
    let refused = fails (not_memory e.kind (sym c.wants_memory.ensures ∙ c.if-wants_memory.false)) in
    (sym (c.in_ok-ends_before.ensures.known m e refused.stands) ∙ c.if-branch.false, refused)

pub returns-then-branch-clause-held : goal.returns-then-branch-clause-held
returns-then-branch-clause-held g c = λ m stands. rw c.hold.ensures (
  sym (c.in_ok-ends_before.ensures.known m c.args.error stands) ∙ c.if-branch.true,
  refl,
)

pub returns-clause-held : goal.returns-clause-held
returns-clause-held g c = λ m stands. sym (c.in_ok-ends_before.ensures.known m c.args.error stands) ∙ c.if-branch.false
