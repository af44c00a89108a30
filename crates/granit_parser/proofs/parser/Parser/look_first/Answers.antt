use Rattle.std.proofs.Common.{◌≡◌, true, false, ap, sym, subst, refl, ◌∙◌}
use Rattle.granit_parser.proofs.HeldLemmas.{waiting_shows}
use Rattle.granit_parser.proofs.InLemmas.{closed_failed, holds_shown}
use Rattle.granit_parser.proofs.NextLemmas.{look_stays, shows_before, shows_first}
use Rattle.granit_parser.proofs.parser.Parser.look_first.Goals as goal
use Rattle.granit_parser.specs.Holding.{ParserHolds, WaitsBehind}
use Rattle.granit_parser.specs.Parsing.{Next, Parsing}
use Rattle.granit_parser.specs.Recovering.{ParserIn}
use Rattle.granit_recovery.specs.Streams.{ReachedByCalls}
use Rattle.granit_stepper.specs.Stepping.{Stepping}

pub returns-then-looks_first-clause-calm : goal.returns-then-looks_first-clause-calm
returns-then-looks_first-clause-calm g c = λ calm.
    let asked = c.looks_first.ensures.answered c.if-looks_first.true in
    absurd (let no : true ≡ false = sym asked.0 ∙ calm in cc)

pub returns-then-looks_first-clause-over : goal.returns-then-looks_first-clause-over
returns-then-looks_first-clause-over g c = λ over.
    let asked = c.looks_first.ensures.answered c.if-looks_first.true in
    absurd (let no : true ≡ false = sym over ∙ asked.1 in cc)

pub returns-then-looks_first-clause-failed : goal.returns-then-looks_first-clause-failed
returns-then-looks_first-clause-failed g c = λ failed.
    let p : Parsing _ = record {
      stepper = c.self.inside.stepper;
      peeked = c.self.inside.peeked;
      given = c.self.inside.given;
      starved = c.self.inside.starved;
      between = c.self.inside.between;
      over = c.self.inside.over;
      answered = c.self.inside.answered;
    } in
    let t = c.step_event in
    let x = t.ensures.over (ap (λ (q : Parsing _). q.stepper.failed) c.self.view_is ∙ failed) in
    look_stays g.T.Input.unread p (record p { stepper = t.new.stepper }) t.new.next
    (ap (λ (q : Parsing _). q.peeked) c.self.view_is ∙ c.looks_first.ensures.seen c.if-looks_first.true) refl refl refl
    t.ensures.options (ap (λ (s : Stepping _). record p { stepper = s }) x.1) x.0 ∙ c.self.view_is

pub returns-then-looks_first-clause-closed : goal.returns-then-looks_first-clause-closed
returns-then-looks_first-clause-closed g c = λ calls closed at.
    let asked = c.looks_first.ensures.answered c.if-looks_first.true in
    returns-then-looks_first-clause-failed g c
    (closed_failed g.T.Input.unread c.args.self.now calls closed (sym at.over ∙ asked.1) at)

pub returns-then-looks_first-clause-next : goal.returns-then-looks_first-clause-next
returns-then-looks_first-clause-next g c = λ calls reached at answered opened.
    let p : Parsing _ = record {
      stepper = c.self.inside.stepper;
      peeked = c.self.inside.peeked;
      given = c.self.inside.given;
      starved = c.self.inside.starved;
      between = c.self.inside.between;
      over = c.self.inside.over;
      answered = c.self.inside.answered;
    } in
    let t = c.step_event in
    let none = ap (λ (q : Parsing _). q.peeked) c.self.view_is
    ∙ c.looks_first.ensures.seen c.if-looks_first.true in
    (shows_first g.T.Input.unread p (record p { stepper = t.new.stepper }) t.new.next
    none refl refl refl t.ensures.options c.self.invariant.0 t.ensures.calls t.ensures.refused t.ensures.lost
    (c.an_open_call_gives_something.ensures p.stepper.scanner.options) calls
    (subst (λ (q : Parsing _). ReachedByCalls q.stepper.scanner.options calls) (sym c.self.view_is) reached)
    (subst (λ (q : Parsing _). ParserIn g.T.Input.unread q calls) (sym c.self.view_is) at) opened)

pub returns-then-looks_first-clause-onward : goal.returns-then-looks_first-clause-onward
returns-then-looks_first-clause-onward g c = rw (← c.self.view_is) c.step_event.ensures.moves.2

pub returns-else-looks_first-clause-next : goal.returns-else-looks_first-clause-next
returns-else-looks_first-clause-next g c = λ calls reached at answered opened.
    shows_before g.T.Input.unread c.args.self.now calls at opened
    (c.looks_first.ensures.stays c.if-looks_first.false answered (at.over ∙ opened.over))

-- ---- where a refusal waits

pub returns-then-looks_first-clause-holds : goal.returns-then-looks_first-clause-holds
returns-then-looks_first-clause-holds g c = λ calls f holds answered going.
    let p : Parsing _ = record {
      stepper = c.self.inside.stepper;
      peeked = c.self.inside.peeked;
      given = c.self.inside.given;
      starved = c.self.inside.starved;
      between = c.self.inside.between;
      over = c.self.inside.over;
      answered = c.self.inside.answered;
    } in
    let t = c.step_event in
    let none = ap (λ (q : Parsing _). q.peeked) c.self.view_is
    ∙ c.looks_first.ensures.seen c.if-looks_first.true in
    let there = subst (λ (q : Parsing _). ParserHolds g.T.Input.unread q calls f) (sym c.self.view_is) holds in
    (waiting_shows g.T.Input.unread p
    (record p { stepper = t.new.stepper; peeked = t.new.next }) calls f there
    t.ensures.options t.ensures.renumbered t.new.next
    (t.ensures.waits calls.steps f
    (subst (λ (w : Next). WaitsBehind g.T.Input.unread w p.stepper calls.steps f) none there.waits))
    refl refl refl)

pub returns-else-looks_first-clause-holds : goal.returns-else-looks_first-clause-holds
returns-else-looks_first-clause-holds g c = λ calls f holds answered going.
    holds_shown g.T.Input.unread c.args.self.now calls f holds
    (c.looks_first.ensures.stays c.if-looks_first.false answered (holds.over ∙ going))
