use Rattle.std.proofs.Common.{◌≡◌, true, false, ◌==◌, not, List, length, Ok, Err, refl, sym, ap, ◌∙◌}
use Rattle.granit_refused.specs.Answered.{why}
use Rattle.granit_lexemes.specs.PlainEvent.{PlainEvent}
use Rattle.granit_stepper.specs.Stepping.{Stepping}
use Rattle.granit_stepper.proofs.AheadLemmas.{settles_err, settles_ok, settles_turned, turns_over, turns_waiting}
use Rattle.granit_stepper.proofs.StayLemmas.{none_stays, stays_waiting}
use Rattle.granit_stepper.proofs.TurnLemmas.{none_given, some_given}
use Rattle.granit_stepper.proofs.stepper.Stepper.settle_ahead.Goals as goal

pub returns-then-has_event-clause-ahead : goal.returns-then-has_event-clause-ahead
returns-then-has_event-clause-ahead g c =
    let some : not (length c.self.inside.parser.given == 0) ≡ true = sym c.has_event.ensures ∙ c.if-has_event.true in
    let given = ap (λ (s : Stepping g.row.T.Denot). s.parser.given) c.self.view_is in
    settles_ok c.args.self.now c.args.self.now (turns_waiting c.args.self.now
    (ap (λ (es : List PlainEvent). length es == 0) (sym given) ∙ some_given c.self.inside.parser.given some))

pub returns-in-Ok-clause-ahead : goal.returns-in-Ok-clause-ahead
returns-in-Ok-clause-ahead g c =
    let given = ap (λ (s : Stepping g.row.T.Denot). s.parser.given) c.self.view_is in
    let none : not (length c.self.inside.parser.given == 0) ≡ false = sym c.has_event.ensures ∙ c.if-has_event.false in
    settles_turned c.args.self.now c.refuse_ahead.new.self c.in-Ok.field-0
    (turns_over c.args.self.now c.refuse_ahead.new.self (Ok c.in-Ok.field-0)
    (sym given ∙ none_given c.self.inside.parser.given none) c.in-Ok.ensures.ahead)

pub returns-in-Err-clause-ahead : goal.returns-in-Err-clause-ahead
returns-in-Err-clause-ahead g c =
    let e = why c.refuse_ahead.new.fault c.in-Err.refused in
    let given = ap (λ (s : Stepping g.row.T.Denot). s.parser.given) c.self.view_is in
    let none : not (length c.self.inside.parser.given == 0) ≡ false = sym c.has_event.ensures ∙ c.if-has_event.false in
    settles_err c.args.self.now c.refuse_ahead.new.self e (turns_over c.args.self.now c.refuse_ahead.new.self (Err e)
    (sym given ∙ none_given c.self.inside.parser.given none) c.in-Err.ensures.ahead)

pub returns-then-has_event-clause-waiting : goal.returns-then-has_event-clause-waiting
returns-then-has_event-clause-waiting g c =
    stays_waiting tt (Ok tt) c.args.self.now c.args.self.now (λ rests. (refl, refl))

pub returns-in-Ok-clause-waiting : goal.returns-in-Ok-clause-waiting
returns-in-Ok-clause-waiting g c =
    let given = ap (λ (s : Stepping g.row.T.Denot). s.parser.given) c.self.view_is in
    let none : not (length c.self.inside.parser.given == 0) ≡ false = sym c.has_event.ensures ∙ c.if-has_event.false in
    none_stays tt (Ok tt) c.args.self.now c.refuse_ahead.new.self
    (sym given ∙ none_given c.self.inside.parser.given none)

pub returns-in-Err-clause-waiting : goal.returns-in-Err-clause-waiting
returns-in-Err-clause-waiting g c =
    let given = ap (λ (s : Stepping g.row.T.Denot). s.parser.given) c.self.view_is in
    let none : not (length c.self.inside.parser.given == 0) ≡ false = sym c.has_event.ensures ∙ c.if-has_event.false in
    none_stays tt (Err (why c.refuse_ahead.new.fault c.in-Err.refused)) c.args.self.now c.refuse_ahead.new.self
    (sym given ∙ none_given c.self.inside.parser.given none)
