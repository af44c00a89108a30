use Rattle.std.proofs.Common.{◌∙◌, refl, sym, ap, subst}
use Rattle.granit_parser.proofs.ChangeLemmas.{changed_in, changed_there, closed_changed}
use Rattle.granit_parser.proofs.HeldLemmas.{held_then, holds_changed}
use Rattle.granit_stepper.proofs.KeepLemmas.{refused_alike, stands_alike}
use Rattle.granit_parser.specs.Holding.{keeping_tags}
use Rattle.granit_parser.specs.Parsing.{Next, Parsing, StandsBefore}
use Rattle.granit_parser.specs.Recovering.{unchanged}
use Rattle.granit_stepper.specs.Refusals.{StandsRefused}
use Rattle.granit_stepper.specs.Stepping.{StandsIn, Stepping, keeping}
use Rattle.granit_parser.proofs.parser.Parser.keep_tags.Goals as goal

pub returns-clause-known : goal.returns-clause-known
returns-clause-known g c = λ m none at.
    let unread = g.T.Input.unread in
    let seen = ap (λ (p : Parsing _). p.peeked) c.self.view_is ∙ none in
    let left = c.set_keep_tags.ensures
    ∙ ap (λ (p : Parsing _). keeping c.args.value p.stepper) c.self.view_is in
    let before = subst (λ (next : Next). StandsBefore unread next c.args.self.stepper m) none at in
    subst (λ (next : Next). StandsBefore unread next c.set_keep_tags.new.self m) (sym seen)
    (subst (λ (s : Stepping _). StandsIn unread s m) (sym left)
    (stands_alike unread c.args.value c.args.self.stepper m before))

pub returns-clause-calls : goal.returns-clause-calls
returns-clause-calls g c = λ calls reached opened none at.
    let unread = g.T.Input.unread in
    let p = c.args.self in
    let view = c.self.view_is in
    let left = c.set_keep_tags.ensures ∙ ap (λ (p : Parsing _). keeping c.args.value p.stepper) view in
    changed_in unread unchanged p (record {
      stepper = c.set_keep_tags.new.self;
      peeked = c.self.inside.peeked;
      given = c.self.inside.given;
      starved = c.self.inside.starved;
      between = c.self.inside.between;
      over = c.self.inside.over;
      answered = c.self.inside.answered;
    }) (λ m at. subst (λ (s : Stepping _). StandsIn unread s m) (sym left)
    (stands_alike unread c.args.value p.stepper m at))
    (λ es m. refl) (ap (λ (p : Parsing _). p.peeked) view) (ap (λ (s : Stepping _). s.first) left)
    (ap (λ (p : Parsing _). p.between) view) (ap (λ (p : Parsing _). p.over) view) none calls
    (c.calls_go_by_turns.ensures p.stepper.scanner.options calls reached) opened at

pub returns-clause-there : goal.returns-clause-there
returns-clause-there g c = λ calls opened unseen stands at.
    let unread = g.T.Input.unread in
    let p = c.args.self in
    let view = c.self.view_is in
    let left = c.set_keep_tags.ensures ∙ ap (λ (p : Parsing _). keeping c.args.value p.stepper) view in
    changed_there unread unchanged p (record {
      stepper = c.set_keep_tags.new.self;
      peeked = c.self.inside.peeked;
      given = c.self.inside.given;
      starved = c.self.inside.starved;
      between = c.self.inside.between;
      over = c.self.inside.over;
      answered = c.self.inside.answered;
    }) (λ m at. subst (λ (s : Stepping _). StandsIn unread s m) (sym left)
    (stands_alike unread c.args.value p.stepper m at))
    (λ es m. refl) (ap (λ (p : Parsing _). p.peeked) view) (ap (λ (s : Stepping _). s.first) left)
    (ap (λ (p : Parsing _). p.between) view) (ap (λ (p : Parsing _). p.over) view) calls opened unseen stands at

pub returns-clause-closed : goal.returns-clause-closed
returns-clause-closed g c = λ calls closed at.
    let unread = g.T.Input.unread in
    let p = c.args.self in
    let view = c.self.view_is in
    let left = c.set_keep_tags.ensures ∙ ap (λ (p : Parsing _). keeping c.args.value p.stepper) view in
    closed_changed unread unchanged p (record {
      stepper = c.set_keep_tags.new.self;
      peeked = c.self.inside.peeked;
      given = c.self.inside.given;
      starved = c.self.inside.starved;
      between = c.self.inside.between;
      over = c.self.inside.over;
      answered = c.self.inside.answered;
    }) (λ m e refused. subst (λ (s : Stepping _). StandsRefused unread s m e) (sym left)
    (refused_alike unread c.args.value p.stepper m e refused))
    (λ count m. refl) (ap (λ (p : Parsing _). p.peeked) view) (ap (λ (s : Stepping _). s.failed) left)
    (λ is. ap (λ (s : Stepping _). s.renumbered) left ∙ is) (λ none. ap (λ (s : Stepping _). s.refusal) left ∙ none)
    (ap (λ (p : Parsing _). p.given) view) (ap (λ (p : Parsing _). p.over) view) calls closed at

pub returns-clause-held : goal.returns-clause-held
returns-clause-held g c = λ calls f reached opened waits at.
    let unread = g.T.Input.unread in
    let p = c.args.self in
    let view = c.self.view_is in
    let left = c.set_keep_tags.ensures ∙ ap (λ (p : Parsing _). keeping c.args.value p.stepper) view in
    held_then unread unchanged p (record {
      stepper = c.set_keep_tags.new.self;
      peeked = c.self.inside.peeked;
      given = c.self.inside.given;
      starved = c.self.inside.starved;
      between = c.self.inside.between;
      over = c.self.inside.over;
      answered = c.self.inside.answered;
    }) (λ m e refused. subst (λ (s : Stepping _). StandsRefused unread s m e) (sym left)
    (refused_alike unread c.args.value p.stepper m e refused))
    (λ count m. refl) (λ es m. refl) (λ keep. ap (λ (s : Stepping _). keeping_tags keep s.scanner.options) left)
    (ap (λ (p : Parsing _). p.peeked) view) (ap (λ (s : Stepping _). s.ahead) left)
    (ap (λ (s : Stepping _). s.failed) left) (λ is. ap (λ (s : Stepping _). s.renumbered) left ∙ is)
    (ap (λ (p : Parsing _). p.between) view) (ap (λ (p : Parsing _). p.over) view) calls f reached
    (c.calls_go_by_turns.ensures p.stepper.scanner.options calls reached) opened waits at

pub returns-clause-holds : goal.returns-clause-holds
returns-clause-holds g c = λ calls f holds.
    let unread = g.T.Input.unread in
    let p = c.args.self in
    let view = c.self.view_is in
    let left = c.set_keep_tags.ensures ∙ ap (λ (p : Parsing _). keeping c.args.value p.stepper) view in
    holds_changed unread unchanged p (record {
      stepper = c.set_keep_tags.new.self;
      peeked = c.self.inside.peeked;
      given = c.self.inside.given;
      starved = c.self.inside.starved;
      between = c.self.inside.between;
      over = c.self.inside.over;
      answered = c.self.inside.answered;
    }) (λ m e refused. subst (λ (s : Stepping _). StandsRefused unread s m e) (sym left)
    (refused_alike unread c.args.value p.stepper m e refused))
    (λ count m. refl) (λ es m. refl) (λ keep. ap (λ (s : Stepping _). keeping_tags keep s.scanner.options) left)
    (ap (λ (p : Parsing _). p.peeked) view) (ap (λ (s : Stepping _). s.ahead) left)
    (ap (λ (s : Stepping _). s.failed) left) (λ is. ap (λ (s : Stepping _). s.renumbered) left ∙ is)
    (ap (λ (p : Parsing _). p.between) view) (ap (λ (p : Parsing _). p.over) view) calls f holds
