use Rattle.std.proofs.Common.{Bool, ◌&&◌, sym, ap, ◌∙◌}
use Rattle.granit_restart.specs.Header as header
use Rattle.granit_stepper.proofs.HeaderLemmas.{refused_outside}
use Rattle.granit_stepper.specs.Stepping.{Stepping}
use Rattle.granit_stepper.proofs.stepper.Stepper.is_in_header.Goals as goal

pub returns-then-fails_outside-clause-known : goal.returns-then-fails_outside-clause-known
returns-then-fails_outside-clause-known g c = λ m e refused.
    let s = c.args.self.now in
    let kept = sym (ap (λ (t : Stepping g.row.T.Denot). t.refusal) c.self.view_is) ∙ c.in-Some.is in
    let outside = sym (refused_outside g.T.Input.unread s m e refused c.in-Some.refusal kept)
    ∙ sym c.fails_outside.ensures ∙ c.if-fails_outside.true in
    c.reads_directives.ensures m e refused kept
    ∙ sym (ap (λ (b : Bool). b && header.reads_directives s.scanner.options m) outside)

pub returns-then-fails_outside-clause-inside : goal.returns-then-fails_outside-clause-inside
returns-then-fails_outside-clause-inside g c =
    let kept = sym (ap (λ (t : Stepping g.row.T.Denot). t.refusal) c.self.view_is) ∙ c.in-Some.is in
    rw kept (λ inside. absurd (let clash = sym c.if-fails_outside.true ∙ c.fails_outside.ensures ∙ inside in cc))
