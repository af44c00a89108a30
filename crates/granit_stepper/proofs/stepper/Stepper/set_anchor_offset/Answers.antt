use Rattle.std.proofs.Common.{◌<◌, ◌-◌, ◌^◌, Some, arith, sym, ap, subst, ◌∙◌}
use Rattle.std.specs.Option.{option_map}
use Rattle.granit_stepper.proofs.RefusalLemmas.{stands_recounted}
use Rattle.granit_refusals.specs.BeforeTurn.{recounted}
use Rattle.granit_stepper.specs.Refusals.{StandsRefused}
use Rattle.granit_stepper.specs.Stepping.{Stepping}
use Rattle.granit_stepper.proofs.stepper.Stepper.set_anchor_offset.Goals as goal
use Rattle.granit_stepper.proofs.stepper.Stepper.set_anchor_offset.Goals.{in-Some, in_default}

pub returns-clause-refused : goal.returns-clause-refused
returns-clause-refused g c = λ m e refused.
    let unread = g.T.Input.unread in
    let inside : Stepping g.row.T.Denot = record {
      scanner = c.self.inside.scanner;
      parser = c.self.inside.parser;
      first = c.self.inside.first;
      failed = c.self.inside.failed;
      renumbered = c.self.inside.renumbered;
      ahead = c.self.inside.ahead;
      refusal = c.self.inside.refusal;
    } in
    let offset = c.args.offset in
    let less : offset - 1 < 2 ^ 64 - 1 = omega arith in
    let here = subst (λ (s : Stepping g.row.T.Denot). StandsRefused unread s m e) (sym c.self.view_is) refused in
    elim c.match-self.branch [
      | in-Some w ↦ rw w.self-inside-is (stands_recounted unread inside m e offset less
          c.set_anchor_offset.new.self c.set_anchor_offset.ensures (Some w.set_anchor_offset-in-Some.new.self)
          (ap (option_map (recounted offset)) w.in-Some.is ∙ ap Some (sym w.set_anchor_offset-in-Some.ensures)) here)
      | in_default w ↦ rw w.self-inside-is (stands_recounted unread inside m e offset less
          c.set_anchor_offset.new.self c.set_anchor_offset.ensures inside.refusal
          (ap (option_map (recounted offset)) w.in_default.is ∙ sym w.in_default.is) here)
    ]
