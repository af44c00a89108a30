use Rattle.std.proofs.Common.{is_some, not, ap, sym, subst, refl, ◌∙◌, inl}
use Rattle.granit_parser.proofs.InLemmas.{none_seen}
use Rattle.granit_parser.proofs.TakeLemmas.{reads_held, reads_seen, seen_passes, seen_same, steps_seen, unseen_gives}
use Rattle.granit_parser.proofs.TakeLemmas.{unseen_some}
use Rattle.granit_parser.proofs.parser.Parser.take_event.Goals as goal
use Rattle.granit_parser.specs.Holding.{WaitsBehind}
use Rattle.granit_parser.specs.Parsing.{Next, Parsing, StandsBefore}
use Rattle.granit_parser.specs.Recovering.{SeenBy}
use Rattle.granit_stepper.specs.Stepping.{Stepping}

pub returns-then-is_none-clause-known : goal.returns-then-is_none-clause-known
returns-then-is_none-clause-known g c =
    let none = none_seen c.self.inside.peeked c.self.inside.peeked c.is_none.result refl c.is_none.ensures
    c.if-is_none.true in
    rw (← c.self.view_is) (λ m at. c.read_event.ensures.known m
    (subst (λ (r : Next). StandsBefore g.T.Input.unread r c.self.inside.stepper m) none at))

pub returns-then-is_none-clause-calls : goal.returns-then-is_none-clause-calls
returns-then-is_none-clause-calls g c =
    let none = none_seen c.self.inside.peeked c.self.inside.peeked c.is_none.result refl c.is_none.ensures
    c.if-is_none.true in
    rw (← c.self.view_is) (λ calls reached seen. c.read_event.ensures.calls calls reached
    (subst (λ (r : Next). SeenBy g.T.Input.unread r c.self.inside.stepper calls) none seen))

pub returns-then-is_none-clause-waits : goal.returns-then-is_none-clause-waits
returns-then-is_none-clause-waits g c =
    let none = none_seen c.self.inside.peeked c.self.inside.peeked c.is_none.result refl c.is_none.ensures
    c.if-is_none.true in
    rw (← c.self.view_is) (λ m f waits. c.read_event.ensures.waits m f
    (subst (λ (r : Next). WaitsBehind g.T.Input.unread r c.self.inside.stepper m f) none waits))

pub returns-then-is_none-clause-source : goal.returns-then-is_none-clause-source
returns-then-is_none-clause-source g c =
    let none = none_seen c.self.inside.peeked c.self.inside.peeked c.is_none.result refl c.is_none.ensures
    c.if-is_none.true in
    rw (← c.self.view_is) (unseen_gives _ c.self.inside.peeked none c.read_event.ensures.source)

pub returns-then-is_none-clause-at_once : goal.returns-then-is_none-clause-at_once
returns-then-is_none-clause-at_once g c =
    let none = none_seen c.self.inside.peeked c.self.inside.peeked c.is_none.result refl c.is_none.ensures
    c.if-is_none.true in
    rw (← c.self.view_is) (unseen_gives _ c.self.inside.peeked none c.read_event.ensures.at_once)

pub returns-then-is_none-clause-lost : goal.returns-then-is_none-clause-lost
returns-then-is_none-clause-lost g c =
    let none = none_seen c.self.inside.peeked c.self.inside.peeked c.is_none.result refl c.is_none.ensures
    c.if-is_none.true in
    rw (← c.self.view_is) (unseen_gives _ c.self.inside.peeked none c.read_event.ensures.lost)

pub returns-then-is_none-clause-moves : goal.returns-then-is_none-clause-moves
returns-then-is_none-clause-moves g c =
    let none = none_seen c.self.inside.peeked c.self.inside.peeked c.is_none.result refl c.is_none.ensures
    c.if-is_none.true in
    rw (← c.self.view_is) (unseen_gives _ c.self.inside.peeked none c.read_event.ensures.moves)

pub returns-then-is_none-clause-seen : goal.returns-then-is_none-clause-seen
returns-then-is_none-clause-seen g c =
    let none = none_seen c.self.inside.peeked c.self.inside.peeked c.is_none.result refl c.is_none.ensures
    c.if-is_none.true in
    rw (← c.self.view_is) (unseen_some _ c.self.inside.peeked none)

pub returns-then-is_none-clause-rest : goal.returns-then-is_none-clause-rest
returns-then-is_none-clause-rest g c =
    let none = none_seen c.self.inside.peeked c.self.inside.peeked c.is_none.result refl c.is_none.ensures
    c.if-is_none.true in
    let p : Parsing _ = record {
      stepper = c.self.inside.stepper;
      peeked = c.self.inside.peeked;
      given = c.self.inside.given;
      starved = c.self.inside.starved;
      between = c.self.inside.between;
      over = c.self.inside.over;
      answered = c.self.inside.answered;
    } in
    rw (← c.self.view_is) (ap (λ (w : Next). record p { stepper = c.read_event.new.stepper; peeked = w }) none)

pub returns-then-is_none-clause-over : goal.returns-then-is_none-clause-over
returns-then-is_none-clause-over g c =
    let none = none_seen c.self.inside.peeked c.self.inside.peeked c.is_none.result refl c.is_none.ensures
    c.if-is_none.true in
    let p : Parsing _ = record {
      stepper = c.self.inside.stepper;
      peeked = c.self.inside.peeked;
      given = c.self.inside.given;
      starved = c.self.inside.starved;
      between = c.self.inside.between;
      over = c.self.inside.over;
      answered = c.self.inside.answered;
    } in
    rw (← c.self.view_is) (λ over. let x = c.read_event.ensures.over over.failed in
    (x.0, ap (λ (s : Stepping _). record p { stepper = s }) x.1))

pub returns-else-is_none-clause-known : goal.returns-else-is_none-clause-known
returns-else-is_none-clause-known g c =
    let some = sym (ap (λ (p : Parsing _). is_some p.peeked) c.self.view_is) ∙ c.is_none.ensures
    ∙ ap not c.if-is_none.false in
    rw (c.put_seen.ensures.rest, c.put_seen.ensures.seen) (λ m at. inl (steps_seen g.T.Input.unread
    c.args.self.now.stepper c.args.self.now.peeked m some at))

pub returns-else-is_none-clause-calls : goal.returns-else-is_none-clause-calls
returns-else-is_none-clause-calls g c =
    let some = sym (ap (λ (p : Parsing _). is_some p.peeked) c.self.view_is) ∙ c.is_none.ensures
    ∙ ap not c.if-is_none.false in
    rw (c.put_seen.ensures.rest, c.put_seen.ensures.seen) (λ calls reached seen. inl (reads_seen g.T.Input.unread
    c.args.self.now.stepper c.args.self.now.peeked calls some seen))

pub returns-else-is_none-clause-waits : goal.returns-else-is_none-clause-waits
returns-else-is_none-clause-waits g c =
    let some = sym (ap (λ (p : Parsing _). is_some p.peeked) c.self.view_is) ∙ c.is_none.ensures
    ∙ ap not c.if-is_none.false in
    rw (c.put_seen.ensures.rest, c.put_seen.ensures.seen) (λ m f waits. inl (reads_held g.T.Input.unread
    c.args.self.now.stepper c.args.self.now.peeked m f some waits))

pub returns-else-is_none-clause-source : goal.returns-else-is_none-clause-source
returns-else-is_none-clause-source g c =
    let some = sym (ap (λ (p : Parsing _). is_some p.peeked) c.self.view_is) ∙ c.is_none.ensures
    ∙ ap not c.if-is_none.false in
    rw (c.put_seen.ensures.rest, c.put_seen.ensures.seen) (seen_passes _ c.args.self.now.peeked some)

pub returns-else-is_none-clause-at_once : goal.returns-else-is_none-clause-at_once
returns-else-is_none-clause-at_once g c =
    let some = sym (ap (λ (p : Parsing _). is_some p.peeked) c.self.view_is) ∙ c.is_none.ensures
    ∙ ap not c.if-is_none.false in
    rw (c.put_seen.ensures.rest, c.put_seen.ensures.seen) (seen_passes _ c.args.self.now.peeked some)

pub returns-else-is_none-clause-lost : goal.returns-else-is_none-clause-lost
returns-else-is_none-clause-lost g c =
    let some = sym (ap (λ (p : Parsing _). is_some p.peeked) c.self.view_is) ∙ c.is_none.ensures
    ∙ ap not c.if-is_none.false in
    rw (c.put_seen.ensures.rest, c.put_seen.ensures.seen) (seen_passes _ c.args.self.now.peeked some)

pub returns-else-is_none-clause-moves : goal.returns-else-is_none-clause-moves
returns-else-is_none-clause-moves g c =
    let some = sym (ap (λ (p : Parsing _). is_some p.peeked) c.self.view_is) ∙ c.is_none.ensures
    ∙ ap not c.if-is_none.false in
    rw (c.put_seen.ensures.rest, c.put_seen.ensures.seen) (seen_passes _ c.args.self.now.peeked some)

pub returns-else-is_none-clause-seen : goal.returns-else-is_none-clause-seen
returns-else-is_none-clause-seen g c =
    let some = sym (ap (λ (p : Parsing _). is_some p.peeked) c.self.view_is) ∙ c.is_none.ensures
    ∙ ap not c.if-is_none.false in
    rw (c.put_seen.ensures.rest, c.put_seen.ensures.seen) (seen_same c.args.self.now.stepper c.args.self.now.peeked)
