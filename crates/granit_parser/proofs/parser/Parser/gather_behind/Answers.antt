use Rattle.std.proofs.Common.{[], ◌∷◌, sym, subst, ◌∙◌, ap}
use Rattle.granit_event.specs.Events.{plain_event}
use Rattle.granit_parser.specs.Parsing.{Parsing}
use Rattle.granit_parser.proofs.parser.Parser.gather_behind.Goals as goal
use Rattle.granit_sourced.specs.Gathering.{Gathered}

pub returns-in-Ok-clause-known : goal.returns-in-Ok-clause-known
returns-in-Ok-clause-known g c = λ m before.
    rw (← c.self.view_is) (c.in-Ok.ensures.known m
    (subst (λ (p : Parsing _). Gathered g.T.Input.unread p.stepper.scanner.options m (plain_event c.args.first ∷ [])
    p.stepper) (sym c.self.view_is) before))

pub returns-in-Err-clause-known : goal.returns-in-Err-clause-known
returns-in-Err-clause-known g c = λ m before.
    rw (← c.self.view_is, c.keep_refusal.ensures.rest) (c.in-Err.ensures.known m
    (subst (λ (p : Parsing _). Gathered g.T.Input.unread p.stepper.scanner.options m (plain_event c.args.first ∷ [])
    p.stepper) (sym c.self.view_is) before))

pub returns-in-Err-clause-given : goal.returns-in-Err-clause-given
returns-in-Err-clause-given g c = let kept = c.keep_refusal.ensures.given in (kept.0, kept.1)

pub returns-in-Ok-clause-renumbered : goal.returns-in-Ok-clause-renumbered
returns-in-Ok-clause-renumbered g c =
    c.in-Ok.ensures.renumbered ∙ ap (λ (p : Parsing _). p.stepper.renumbered) c.self.view_is

pub returns-in-Err-clause-renumbered : goal.returns-in-Err-clause-renumbered
returns-in-Err-clause-renumbered g c = ap (λ (p : Parsing _). p.stepper.renumbered) c.keep_refusal.ensures.rest
    ∙ c.in-Err.ensures.renumbered ∙ ap (λ (p : Parsing _). p.stepper.renumbered) c.self.view_is

pub returns-in-Ok-clause-goes : goal.returns-in-Ok-clause-goes
returns-in-Ok-clause-goes g c = rw (← c.self.view_is) c.in-Ok.ensures.goes

pub returns-in-Err-clause-goes : goal.returns-in-Err-clause-goes
returns-in-Err-clause-goes g c = rw (← c.self.view_is, c.keep_refusal.ensures.rest) c.in-Err.ensures.goes

pub returns-in-Ok-clause-onward : goal.returns-in-Ok-clause-onward
returns-in-Ok-clause-onward g c = rw (← c.self.view_is) c.in-Ok.ensures.onward

pub returns-in-Err-clause-onward : goal.returns-in-Err-clause-onward
returns-in-Err-clause-onward g c = rw (← c.self.view_is, c.keep_refusal.ensures.rest) c.in-Err.ensures.onward
