use Rattle.std.proofs.Common.{◌≡◌, [], ◌∷◌, None, Some, Result, Ok, Err, ap, subst}
use Rattle.granit_base.specs.declared.place.Span.{Span}
use Rattle.granit_error.specs.OptionsData.{OptionsData}
use Rattle.granit_error.specs.Refused.{Refused}
use Rattle.granit_event.specs.declared.event.Event.{Event}
use Rattle.granit_event.specs.Events.{plain_event, plain_events}
use Rattle.granit_parser.proofs.GatherLemmas.{gathered_first, none_numbered, went, went_err, went_ok}
use Rattle.granit_parser.proofs.SendLemmas.{TookOr}
use Rattle.granit_parser.proofs.SourceLemmas.{moves_seen, never_told}
use Rattle.granit_parser.proofs.parser.Parser.gather.Goals as goal
use Rattle.granit_parser.specs.Gathering.{GathersAll}
use Rattle.granit_parser.specs.Parsing.{KeepsGiven, none_given}
use Rattle.granit_sourced.proofs.AtOnceLemmas.{ended_given, if_unseen}
use Rattle.granit_sourced.specs.Gathering.{Gathered}
use Rattle.granit_sourced.specs.Sources.{TellsSource}

pub returns-in-None-clause-known : goal.returns-in-None-clause-known
returns-in-None-clause-known g c = λ m at.
    let t = never_told (c.in-None.ensures.known m at) in
    let few = none_numbered g.T.Input.unread m c.args.self.now.peeked c.args.self.now.stepper
    c.next_event.new.self.stepper c.in-None.ensures.seen at in
    rw c.new.ensures.items (m, none_given, few, (t.0, t.2))

pub returns-in-None-clause-over : goal.returns-in-None-clause-over
returns-in-None-clause-over g c = λ over. (c.new.ensures.items, tt)

pub returns-in-None-clause-goes : goal.returns-in-None-clause-goes
returns-in-None-clause-goes g c = moves_seen g.T.Input.left g.T.Input.origin None c.args.self.now.peeked
    c.args.self.now.stepper c.next_event.new.self.stepper c.in-None.ensures.seen c.in-None.ensures.moves

pub returns-in-Some-Err-clause-known : goal.returns-in-Some-Err-clause-known
returns-in-Some-Err-clause-known g c = λ m at. (
  [],
  m,
  none_given,
  subst (λ (r : Result (Event × Span) Refused). TookOr g.T.Input.unread g.T.Input.origin c.args.self.now (Some r)
      c.next_event.new.self) c.in-Some-Err.field-0-is c.in-Some-Err.ensures.known m at,
)

pub returns-in-Some-Err-clause-over : goal.returns-in-Some-Err-clause-over
returns-in-Some-Err-clause-over g c = λ over.
    absurd (let clash : Some c.in-Some-Err.field-0 ≡ None = (c.in-Some-Err.ensures.over over).0 in cc)

pub returns-in-Some-Err-clause-failed : goal.returns-in-Some-Err-clause-failed
returns-in-Some-Err-clause-failed g c = went g.T.Input.left g.T.Input.origin c.in-Some-Err.field-0
    (Err c.in-Some-Err.error) c.args.self.now c.next_event.new.self c.in-Some-Err.field-0-is c.in-Some-Err.ensures.seen
    c.in-Some-Err.ensures.moves

pub returns-in-Some-Ok-clause-known : goal.returns-in-Some-Ok-clause-known
returns-in-Some-Ok-clause-known g c = λ m at.
    let unread = g.T.Input.unread in
    let o = c.args.self.now.stepper.scanner.options in
    let e = c.in-Some-Ok.event in
    let mid = c.next_event.new.self in
    let took = subst
    (λ (r : Result (Event × Span) Refused). TookOr unread g.T.Input.origin c.args.self.now (Some r) mid)
    c.in-Some-Ok.field-0-is c.in-Some-Ok.ensures.known in
    let t = never_told (took m at) in
    subst (λ (p : OptionsData). Gathered unread p m (plain_event e ∷ []) mid.stepper
    → GathersAll g.T.Input.origin p m c.gather_behind.result (λ v. plain_events v.items) c.gather_behind.new.self)
    c.in-Some-Ok.ensures.options (c.gather_behind.ensures.known m)
    (gathered_first unread o m mid (plain_event e) c.in-Some-Ok.ensures.peeked t.0 t.1 t.2)

pub returns-in-Some-Ok-clause-over : goal.returns-in-Some-Ok-clause-over
returns-in-Some-Ok-clause-over g c = λ over.
    absurd (let clash : Some c.in-Some-Ok.field-0 ≡ None = (c.in-Some-Ok.ensures.over over).0 in cc)

pub returns-in-Some-Ok-clause-goes : goal.returns-in-Some-Ok-clause-goes
returns-in-Some-Ok-clause-goes g c = went_ok c.gather_behind.result
    (g.T.Input.origin c.args.self.now.stepper.scanner.cursor.input)
    (g.T.Input.origin c.next_event.new.self.stepper.scanner.cursor.input)
    (g.T.Input.origin c.gather_behind.new.self.stepper.scanner.cursor.input)
    (went g.T.Input.left g.T.Input.origin c.in-Some-Ok.field-0 (Ok c.in-Some-Ok.event) c.args.self.now
    c.next_event.new.self c.in-Some-Ok.field-0-is c.in-Some-Ok.ensures.seen c.in-Some-Ok.ensures.moves)
    c.gather_behind.ensures.goes

pub returns-in-Some-Ok-clause-failed : goal.returns-in-Some-Ok-clause-failed
returns-in-Some-Ok-clause-failed g c = went_err c.gather_behind.result
    (g.T.Input.origin c.args.self.now.stepper.scanner.cursor.input)
    (g.T.Input.origin c.next_event.new.self.stepper.scanner.cursor.input)
    (g.T.Input.origin c.gather_behind.new.self.stepper.scanner.cursor.input)
    (went g.T.Input.left g.T.Input.origin c.in-Some-Ok.field-0 (Ok c.in-Some-Ok.event) c.args.self.now
    c.next_event.new.self c.in-Some-Ok.field-0-is c.in-Some-Ok.ensures.seen c.in-Some-Ok.ensures.moves)
    c.gather_behind.ensures.goes

pub returns-in-Some-Err-clause-given : goal.returns-in-Some-Err-clause-given
returns-in-Some-Err-clause-given g c =
    let kept = subst
    (λ (r : Result (Event × Span) Refused). KeepsGiven (Some r) c.args.self.now.given c.next_event.new.self.given)
    c.in-Some-Err.field-0-is c.in-Some-Err.ensures.given in
    (kept.0, kept.1)

pub returns-in-Some-Ok-clause-onward : goal.returns-in-Some-Ok-clause-onward
returns-in-Some-Ok-clause-onward g c = λ start before.
    c.gather_behind.ensures.onward start (c.in-Some-Ok.ensures.onward start before)

pub returns-in-None-clause-ended : goal.returns-in-None-clause-ended
returns-in-None-clause-ended g c = λ none going at. ap plain_events c.new.ensures.items

pub returns-in-Some-Err-clause-ended : goal.returns-in-Some-Err-clause-ended
returns-in-Some-Err-clause-ended g c = λ none going at.
    let given = ended_given g.T.Input.origin c.args.self.now.stepper c.next_event.new.self.stepper
    c.in-Some-Err.field-0 (if_unseen none c.in-Some-Err.ensures.at_once) going at in
    subst (λ (r : Result (Event × Span) Refused). TellsSource g.T.Input.origin (Some r)
    c.next_event.new.self.stepper.scanner.cursor) c.in-Some-Err.field-0-is given

pub returns-in-Some-Ok-clause-ended : goal.returns-in-Some-Ok-clause-ended
returns-in-Some-Ok-clause-ended g c = λ none going at.
    let given = ended_given g.T.Input.origin c.args.self.now.stepper c.next_event.new.self.stepper
    c.in-Some-Ok.field-0 (if_unseen none c.in-Some-Ok.ensures.at_once) going at in
    absurd (subst (λ (r : Result (Event × Span) Refused). TellsSource g.T.Input.origin (Some r)
    c.next_event.new.self.stepper.scanner.cursor) c.in-Some-Ok.field-0-is given)
