use Rattle.std.proofs.Common.{inl, inr, ap, subst, sym, refl, ◌∙◌}
use Rattle.granit_parser.proofs.HeldLemmas.{waiting_shows}
use Rattle.granit_parser.proofs.InLemmas.{none_seen, peeks_read, peeks_unseen}
use Rattle.granit_parser.proofs.parser.Parser.look_on.Goals as goal
use Rattle.granit_parser.specs.Holding.{WaitsBehind}
use Rattle.granit_parser.specs.Parsing.{Next, Parsing}
use Rattle.granit_stepper.specs.Stepping.{Stepping}

pub returns-then-is_none-clause-peeks : goal.returns-then-is_none-clause-peeks
returns-then-is_none-clause-peeks g c =
    let p : Parsing _ = record {
      stepper = c.self.inside.stepper;
      peeked = c.self.inside.peeked;
      given = c.self.inside.given;
      starved = c.self.inside.starved;
      between = c.self.inside.between;
      over = c.self.inside.over;
      answered = c.self.inside.answered;
    } in
    let t = c.read_event in
    let none = none_seen p.peeked p.peeked c.is_none.result refl c.is_none.ensures c.if-is_none.true in
    rw (← c.self.view_is) (peeks_unseen g.T.Input.unread g.T.Input.left g.T.Input.origin p
    (record p { stepper = t.new.stepper }) t.new.next none t.ensures.sure t.ensures.options t.ensures.source
    t.ensures.at_once refl refl t.ensures.refused
    (λ failed. let x = t.ensures.over failed in (x.0, ap (λ (s : Stepping _). record p { stepper = s }) x.1))
    t.ensures.renumbered t.ensures.moves t.ensures.onward)

pub returns-then-is_none-clause-calls : goal.returns-then-is_none-clause-calls
returns-then-is_none-clause-calls g c =
    let p : Parsing _ = record {
      stepper = c.self.inside.stepper;
      peeked = c.self.inside.peeked;
      given = c.self.inside.given;
      starved = c.self.inside.starved;
      between = c.self.inside.between;
      over = c.self.inside.over;
      answered = c.self.inside.answered;
    } in
    let t = c.read_event in
    let none = none_seen p.peeked p.peeked c.is_none.result refl c.is_none.ensures c.if-is_none.true in
    let q : Parsing _ = record p { stepper = t.new.stepper; peeked = t.new.next } in
    rw (← c.self.view_is) (peeks_read g.T.Input.unread g.T.Input.origin p q t.new.next none refl
    refl refl
    (λ failed. let x = t.ensures.over failed in
    ap (λ (s : Stepping _). record p { stepper = s; peeked = t.new.next }) x.1
    ∙ ap (λ (w : Next). record p { peeked = w }) (x.0 ∙ sym none)) t.ensures.calls t.ensures.lost
    t.ensures.options (c.an_open_call_gives_something.ensures p.stepper.scanner.options)
    (λ calls f holds. elim (t.ensures.waits calls.steps f
    (subst (λ (w : Next). WaitsBehind g.T.Input.unread w p.stepper calls.steps f) none holds.waits)) [
      | inl reads ↦ inl (waiting_shows g.T.Input.unread p q calls f holds
          t.ensures.options t.ensures.renumbered t.new.next reads refl refl refl)
      | inr told ↦ inr told
    ]))
