use Rattle.std.proofs.Common.{◌≡◌, [], true, false, ◌==◌, not, List, length, Ok, refl, sym, ap, ◌∙◌}
use Rattle.granit_refused.specs.Answered.{answered}
use Rattle.granit_lexemes.specs.PlainEvent.{PlainEvent}
use Rattle.granit_stepper.specs.Stepping.{Stepping}
use Rattle.granit_stepper.proofs.AheadLemmas.{turns_over, turns_waiting}
use Rattle.granit_stepper.proofs.StateLemmas.{waiting}
use Rattle.granit_stepper.proofs.StayLemmas.{none_stays, stays_waiting}
use Rattle.granit_stepper.proofs.TurnLemmas.{none_given, some_given, turn_waits}
use Rattle.granit_stepper.proofs.stepper.Stepper.turn.Goals as goal

pub returns-then-has_event-clause-known : goal.returns-then-has_event-clause-known
returns-then-has_event-clause-known g c = λ m at told.
    let parser = ap (λ (s : Stepping g.row.T.Denot). s.parser.given) c.self.view_is in
    let some : not (length c.self.inside.parser.given == 0) ≡ true = sym c.has_event.ensures ∙ c.if-has_event.true in
    let pending = waiting g.T.Input.unread c.args.self.now m at told ∙ sym parser in (
      m,
      at,
      turn_waits c.args.self.now.scanner.options m
          (ap (λ (es : List PlainEvent). length es == 0) pending ∙ some_given c.self.inside.parser.given some),
    )

pub returns-then-has_event-clause-ahead : goal.returns-then-has_event-clause-ahead
returns-then-has_event-clause-ahead g c =
    let some : not (length c.self.inside.parser.given == 0) ≡ true = sym c.has_event.ensures ∙ c.if-has_event.true in
    let given = ap (λ (s : Stepping g.row.T.Denot). s.parser.given) c.self.view_is in
    turns_waiting c.args.self.now (ap (λ (es : List PlainEvent). length es == 0) (sym given)
    ∙ some_given c.self.inside.parser.given some)

pub returns-clause-known : goal.returns-clause-known
returns-clause-known g c = λ m at told.
    let parser = ap (λ (s : Stepping g.row.T.Denot). s.parser.given) c.self.view_is in
    let none : not (length c.self.inside.parser.given == 0) ≡ false = sym c.has_event.ensures ∙ c.if-has_event.false in
    let pending : m.pending ≡ [] =
    waiting g.T.Input.unread c.args.self.now m at told ∙ sym parser ∙ none_given c.self.inside.parser.given none in
    c.advance.ensures.known m at told pending

pub returns-clause-refused : goal.returns-clause-refused
returns-clause-refused g c = λ m at told calm.
    let parser = ap (λ (s : Stepping g.row.T.Denot). s.parser.given) c.self.view_is in
    let none : not (length c.self.inside.parser.given == 0) ≡ false = sym c.has_event.ensures ∙ c.if-has_event.false in
    let pending : m.pending ≡ [] =
    waiting g.T.Input.unread c.args.self.now m at told ∙ sym parser ∙ none_given c.self.inside.parser.given none in
    c.advance.ensures.refused m at told pending calm

pub returns-clause-ahead : goal.returns-clause-ahead
returns-clause-ahead g c =
    let parser = ap (λ (s : Stepping g.row.T.Denot). s.parser.given) c.self.view_is in
    let none : not (length c.self.inside.parser.given == 0) ≡ false = sym c.has_event.ensures ∙ c.if-has_event.false in
    turns_over c.args.self.now c.advance.new.self (answered c.advance.new.fault c.advance.result)
    (sym parser ∙ none_given c.self.inside.parser.given none) c.advance.ensures.ahead

pub returns-then-has_event-clause-waiting : goal.returns-then-has_event-clause-waiting
returns-then-has_event-clause-waiting g c =
    stays_waiting false (Ok false) c.args.self.now c.args.self.now (λ rests. (refl, refl))

pub returns-clause-waiting : goal.returns-clause-waiting
returns-clause-waiting g c =
    let parser = ap (λ (s : Stepping g.row.T.Denot). s.parser.given) c.self.view_is in
    let none : not (length c.self.inside.parser.given == 0) ≡ false = sym c.has_event.ensures ∙ c.if-has_event.false in
    none_stays false (answered c.advance.new.fault c.advance.result) c.args.self.now c.advance.new.self
    (sym parser ∙ none_given c.self.inside.parser.given none)

pub returns-then-has_event-clause-at_once : goal.returns-then-has_event-clause-at_once
returns-then-has_event-clause-at_once g c = λ given ahead e free.
    let some : not (length c.self.inside.parser.given == 0) ≡ true = sym c.has_event.ensures ∙ c.if-has_event.true in
    let none = ap (λ (s : Stepping g.row.T.Denot). not (length s.parser.given == 0)) c.self.view_is
    ∙ ap (λ (es : List PlainEvent). not (length es == 0)) given in
    absurd (let clash = sym some ∙ none in cc)

pub returns-then-has_event-clause-eventless : goal.returns-then-has_event-clause-eventless
returns-then-has_event-clause-eventless g c = λ given ahead p free.
    let some : not (length c.self.inside.parser.given == 0) ≡ true = sym c.has_event.ensures ∙ c.if-has_event.true in
    let none = ap (λ (s : Stepping g.row.T.Denot). not (length s.parser.given == 0)) c.self.view_is
    ∙ ap (λ (es : List PlainEvent). not (length es == 0)) given in
    absurd (let clash = sym some ∙ none in cc)
