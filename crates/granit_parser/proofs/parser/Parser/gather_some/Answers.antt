use Rattle.std.proofs.Common.{Ok, sym, subst, ◌∙◌, true≢false, ap}
use Rattle.granit_event.specs.Events.{plain_events}
use Rattle.granit_parser.proofs.GatherLemmas.{gathered_some}
use Rattle.granit_parser.proofs.parser.Parser.gather_some.Goals as goal
use Rattle.granit_parser.specs.Gathering.{GathersSome}
use Rattle.granit_parser.specs.Parsing.{Next, Parsing, StandsBefore}
use Rattle.granit_sourced.specs.Gathering.{NextGathered}
use Rattle.granit_stepper.specs.Stepping.{StandsIn, Stepping}

pub returns-then-has_failed-clause-known : goal.returns-then-has_failed-clause-known
returns-then-has_failed-clause-known g c = λ m at.
    let stands = subst (λ (r : Next). StandsBefore g.T.Input.unread r c.args.self.now.stepper m) c.requires.seen at in
    absurd (true≢false (sym c.if-has_failed.true ∙ (c.has_failed.ensures ∙ stands.going)))

pub returns-in-Ok-clause-known : goal.returns-in-Ok-clause-known
returns-in-Ok-clause-known g c = λ m at.
    let unread = g.T.Input.unread in
    let stands = subst (λ (r : Next). StandsBefore unread r c.args.self.now.stepper m) c.requires.seen at in
    let es = plain_events c.gather_batch.new.batch.items in
    let o = c.self.inside.stepper.scanner.options in
    subst (λ (p : Parsing _). GathersSome unread g.T.Input.origin p.stepper.scanner.options m (Ok c.in-Ok.more) es
    c.note_batch.new.self) c.self.view_is (gathered_some unread o m g.T.Input.origin c.note_batch.new.self
    (Ok c.in-Ok.more) es
    (ap (λ (p : Parsing _). p.peeked) c.note_batch.ensures ∙ ap (λ (p : Parsing _). p.peeked) c.self.view_is
    ∙ c.requires.seen)
    (subst (λ (s : Stepping _). NextGathered unread g.T.Input.origin o m (Ok c.in-Ok.more) es s)
    (sym (ap (λ (p : Parsing _). p.stepper) c.note_batch.ensures)) (c.in-Ok.ensures.known m
    (subst (λ (p : Parsing _). StandsIn unread p.stepper m) (sym c.self.view_is) stands))))

pub returns-in-Ok-clause-over : goal.returns-in-Ok-clause-over
returns-in-Ok-clause-over g c = λ over.
    absurd (true≢false (sym over.failed ∙ sym c.has_failed.ensures ∙ c.if-has_failed.false))

pub returns-in-Err-clause-over : goal.returns-in-Err-clause-over
returns-in-Err-clause-over g c = λ over.
    absurd (true≢false (sym over.failed ∙ sym c.has_failed.ensures ∙ c.if-has_failed.false))

pub returns-in-Ok-clause-seen : goal.returns-in-Ok-clause-seen
returns-in-Ok-clause-seen g c = ap (λ (p : Parsing _). p.peeked) c.note_batch.ensures
    ∙ ap (λ (p : Parsing _). p.peeked) c.self.view_is ∙ c.requires.seen

pub returns-in-Ok-clause-options : goal.returns-in-Ok-clause-options
returns-in-Ok-clause-options g c = ap (λ (p : Parsing _). p.stepper.scanner.options) c.note_batch.ensures
    ∙ c.in-Ok.ensures.options ∙ ap (λ (p : Parsing _). p.stepper.scanner.options) c.self.view_is

pub returns-in-Ok-clause-renumbered : goal.returns-in-Ok-clause-renumbered
returns-in-Ok-clause-renumbered g c = ap (λ (p : Parsing _). p.stepper.renumbered) c.note_batch.ensures
    ∙ c.in-Ok.ensures.renumbered ∙ ap (λ (p : Parsing _). p.stepper.renumbered) c.self.view_is

pub returns-in-Err-clause-options : goal.returns-in-Err-clause-options
returns-in-Err-clause-options g c = ap (λ (p : Parsing _). p.stepper.scanner.options) c.keep_refusal.ensures.rest
    ∙ c.in-Err.ensures.options ∙ ap (λ (p : Parsing _). p.stepper.scanner.options) c.self.view_is

pub returns-in-Err-clause-renumbered : goal.returns-in-Err-clause-renumbered
returns-in-Err-clause-renumbered g c = ap (λ (p : Parsing _). p.stepper.renumbered) c.keep_refusal.ensures.rest
    ∙ c.in-Err.ensures.renumbered ∙ ap (λ (p : Parsing _). p.stepper.renumbered) c.self.view_is

pub returns-in-Ok-clause-goes : goal.returns-in-Ok-clause-goes
returns-in-Ok-clause-goes g c = rw (← c.self.view_is, c.note_batch.ensures) c.in-Ok.ensures.goes

pub returns-in-Err-clause-failed : goal.returns-in-Err-clause-failed
returns-in-Err-clause-failed g c = rw (← c.self.view_is, c.keep_refusal.ensures.rest) c.in-Err.ensures.goes

pub returns-in-Ok-clause-onward : goal.returns-in-Ok-clause-onward
returns-in-Ok-clause-onward g c = rw (← c.self.view_is, c.note_batch.ensures) c.in-Ok.ensures.onward

pub returns-in-Err-clause-onward : goal.returns-in-Err-clause-onward
returns-in-Err-clause-onward g c = rw (← c.self.view_is, c.keep_refusal.ensures.rest) c.in-Err.ensures.onward

pub returns-in-Err-clause-known : goal.returns-in-Err-clause-known
returns-in-Err-clause-known g c = λ m at.
    let unread = g.T.Input.unread in
    let stands = subst (λ (r : Next). StandsBefore unread r c.args.self.now.stepper m) c.requires.seen at in
    rw (← c.self.view_is, c.keep_refusal.ensures.rest) (c.in-Err.ensures.known m
    (subst (λ (p : Parsing _). StandsIn unread p.stepper m) (sym c.self.view_is) stands))

pub returns-in-Err-clause-given : goal.returns-in-Err-clause-given
returns-in-Err-clause-given g c = let kept = c.keep_refusal.ensures.given in (kept.0, kept.1)
