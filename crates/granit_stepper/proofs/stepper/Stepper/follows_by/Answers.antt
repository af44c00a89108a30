use Rattle.std.proofs.Common.{Some, refl, sym, ◌∙◌}
use Rattle.granit_stepper.proofs.RefusalLemmas.{not_memory, refused_ahead}
use Rattle.granit_stepper.proofs.stepper.Stepper.follows_by.Goals as goal

pub returns-clause-known : goal.returns-clause-known
returns-clause-known g c = λ m going fails.
    let s = c.args.self.now in
    let e = c.args.error in
    let other = not_memory e.kind (sym c.wants_memory.ensures ∙ c.if-wants_memory.false) in
    rw c.hold.ensures (
      refl,
      record {
        error = e;
        ahead = refl;
        going = going;
        other = other;
        refused = refused_ahead g.T.Input.unread s m e (Some e) (fails other);
      },
    )
