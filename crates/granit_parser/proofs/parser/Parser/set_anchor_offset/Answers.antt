use Rattle.std.proofs.Common.{refl, ap, subst, ◌∙◌}
use Rattle.granit_error.specs.Refused.{Refused}
use Rattle.granit_parser.proofs.ChangeLemmas.{changed_in, changed_there, closed_changed}
use Rattle.granit_parser.proofs.HeldLemmas.{held_then, holds_changed}
use Rattle.granit_parser.specs.Holding.{keeping_tags}
use Rattle.granit_parser.specs.Parsing.{Parsing}
use Rattle.granit_stepper.specs.Offset.{with_offset}
use Rattle.granit_stepper.proofs.NumberLemmas.{none_recounted}
use Rattle.granit_stepper.specs.Refusals.{StandsRefused}
use Rattle.granit_stepper.specs.Stepping.{StandsIn, Stepping}
use Rattle.granit_steps.specs.Steps.{StepState}
use Rattle.granit_parser.proofs.parser.Parser.set_anchor_offset.Goals as goal

pub returns-clause-calls : goal.returns-clause-calls
returns-clause-calls g c = λ calls reached opened none at.
    let unread = g.T.Input.unread in
    let p = c.args.self.now in
    let view = c.self.view_is in
    let change = with_offset c.args.offset in
    changed_in unread change p (record {
      stepper = c.set_anchor_offset.new.self;
      peeked = c.self.inside.peeked;
      given = c.self.inside.given;
      starved = c.self.inside.starved;
      between = c.self.inside.between;
      over = c.self.inside.over;
      answered = c.self.inside.answered;
    }) (subst (λ (p : Parsing _). (m : StepState) → StandsIn unread p.stepper m
    → StandsIn unread c.set_anchor_offset.new.self (change m)) view c.set_anchor_offset.ensures.known)
    (λ es m. refl) (ap (λ (p : Parsing _). p.peeked) view)
    (ap (λ (s : Stepping _). s.first) c.set_anchor_offset.ensures.rest ∙ ap (λ (p : Parsing _). p.stepper.first) view)
    (ap (λ (p : Parsing _). p.between) view) (ap (λ (p : Parsing _). p.over) view) none calls
    (c.calls_go_by_turns.ensures p.stepper.scanner.options calls reached) opened at

pub returns-clause-there : goal.returns-clause-there
returns-clause-there g c = λ calls opened unseen stands at.
    let unread = g.T.Input.unread in
    let view = c.self.view_is in
    let change = with_offset c.args.offset in
    changed_there unread change c.args.self.now (record {
      stepper = c.set_anchor_offset.new.self;
      peeked = c.self.inside.peeked;
      given = c.self.inside.given;
      starved = c.self.inside.starved;
      between = c.self.inside.between;
      over = c.self.inside.over;
      answered = c.self.inside.answered;
    }) (subst (λ (p : Parsing _). (m : StepState) → StandsIn unread p.stepper m
    → StandsIn unread c.set_anchor_offset.new.self (change m)) view c.set_anchor_offset.ensures.known)
    (λ es m. refl) (ap (λ (p : Parsing _). p.peeked) view)
    (ap (λ (s : Stepping _). s.first) c.set_anchor_offset.ensures.rest ∙ ap (λ (p : Parsing _). p.stepper.first) view)
    (ap (λ (p : Parsing _). p.between) view) (ap (λ (p : Parsing _). p.over) view) calls opened unseen stands at

pub returns-clause-failed : goal.returns-clause-failed
returns-clause-failed g c = λ calls closed at.
    let unread = g.T.Input.unread in
    let view = c.self.view_is in
    let rest = c.set_anchor_offset.ensures.rest in
    let change = with_offset c.args.offset in
    closed_changed unread change c.args.self.now (record {
      stepper = c.set_anchor_offset.new.self;
      peeked = c.self.inside.peeked;
      given = c.self.inside.given;
      starved = c.self.inside.starved;
      between = c.self.inside.between;
      over = c.self.inside.over;
      answered = c.self.inside.answered;
    }) (subst (λ (p : Parsing _). (m : StepState) (e : Refused) → StandsRefused unread p.stepper m e
    → StandsRefused unread c.set_anchor_offset.new.self (change m) e) view c.set_anchor_offset.ensures.refused)
    (λ count m. refl) (ap (λ (p : Parsing _). p.peeked) view)
    (ap (λ (s : Stepping _). s.failed) rest ∙ ap (λ (p : Parsing _). p.stepper.failed) view)
    (λ is. ap (λ (s : Stepping _). s.renumbered) rest)
    (λ none. ap (λ (s : Stepping _). s.refusal) rest
    ∙ none_recounted c.args.offset _ (ap (λ (p : Parsing _). p.stepper.refusal) view ∙ none))
    (ap (λ (p : Parsing _). p.given) view) (ap (λ (p : Parsing _). p.over) view) calls closed at

pub returns-clause-held : goal.returns-clause-held
returns-clause-held g c = λ calls f reached opened waits at.
    let unread = g.T.Input.unread in
    let p = c.args.self.now in
    let view = c.self.view_is in
    let rest = c.set_anchor_offset.ensures.rest in
    let change = with_offset c.args.offset in
    held_then unread change p (record {
      stepper = c.set_anchor_offset.new.self;
      peeked = c.self.inside.peeked;
      given = c.self.inside.given;
      starved = c.self.inside.starved;
      between = c.self.inside.between;
      over = c.self.inside.over;
      answered = c.self.inside.answered;
    }) (subst (λ (p : Parsing _). (m : StepState) (e : Refused) → StandsRefused unread p.stepper m e
    → StandsRefused unread c.set_anchor_offset.new.self (change m) e) view c.set_anchor_offset.ensures.refused)
    (λ count m. refl) (λ es m. refl)
    (λ keep. ap (λ (s : Stepping _). keeping_tags keep s.scanner.options) rest
    ∙ ap (λ (p : Parsing _). keeping_tags keep p.stepper.scanner.options) view)
    (ap (λ (p : Parsing _). p.peeked) view)
    (ap (λ (s : Stepping _). s.ahead) rest ∙ ap (λ (p : Parsing _). p.stepper.ahead) view)
    (ap (λ (s : Stepping _). s.failed) rest ∙ ap (λ (p : Parsing _). p.stepper.failed) view)
    (λ is. ap (λ (s : Stepping _). s.renumbered) rest)
    (ap (λ (p : Parsing _). p.between) view) (ap (λ (p : Parsing _). p.over) view) calls f reached
    (c.calls_go_by_turns.ensures p.stepper.scanner.options calls reached) opened waits at

pub returns-clause-holds : goal.returns-clause-holds
returns-clause-holds g c = λ calls f holds.
    let unread = g.T.Input.unread in
    let p = c.args.self.now in
    let view = c.self.view_is in
    let rest = c.set_anchor_offset.ensures.rest in
    let change = with_offset c.args.offset in
    holds_changed unread change p (record {
      stepper = c.set_anchor_offset.new.self;
      peeked = c.self.inside.peeked;
      given = c.self.inside.given;
      starved = c.self.inside.starved;
      between = c.self.inside.between;
      over = c.self.inside.over;
      answered = c.self.inside.answered;
    }) (subst (λ (p : Parsing _). (m : StepState) (e : Refused) → StandsRefused unread p.stepper m e
    → StandsRefused unread c.set_anchor_offset.new.self (change m) e) view c.set_anchor_offset.ensures.refused)
    (λ count m. refl) (λ es m. refl)
    (λ keep. ap (λ (s : Stepping _). keeping_tags keep s.scanner.options) rest
    ∙ ap (λ (p : Parsing _). keeping_tags keep p.stepper.scanner.options) view)
    (ap (λ (p : Parsing _). p.peeked) view)
    (ap (λ (s : Stepping _). s.ahead) rest ∙ ap (λ (p : Parsing _). p.stepper.ahead) view)
    (ap (λ (s : Stepping _). s.failed) rest ∙ ap (λ (p : Parsing _). p.stepper.failed) view)
    (λ is. ap (λ (s : Stepping _). s.renumbered) rest)
    (ap (λ (p : Parsing _). p.between) view) (ap (λ (p : Parsing _). p.over) view) calls f holds
