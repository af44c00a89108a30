use Rattle.std.proofs.Common.{◌≡◌, true, None, Some, inl, inr, sym, ap, refl, ◌∙◌}
use Rattle.granit_sourced.proofs.GatherLemmas.{fails_on, waiting_on}
use Rattle.granit_sourced.proofs.SourceLemmas.{ends_by, gave_maybe, gave_nothing, goes_unless, source_tells}
use Rattle.granit_sourced.proofs.gathering.more_events.Goals as goal
use Rattle.granit_refused.specs.Answered.{answered}
use Rattle.granit_stepper.specs.Stepping.{Stepping}

pub returns-in-None-clause-known : goal.returns-in-None-clause-known
returns-in-None-clause-known g c = λ m at told. inl (waiting_on g.T.Input.unread
    (answered c.next_events-more.new.fault c.next_events-more.result)
    c.next_events-more.new.self c.take_source_error.new.self c.args.stepper.now.renumbered
    c.args.stepper.now.scanner.options m
    (c.in-None.ensures.renumbered ∙ c.next_events-more.ensures.renumbered)
    (λ n there. c.in-None.ensures.known n there refl) (c.next_events-more.ensures.known m at told))

pub returns-in-Some-clause-known : goal.returns-in-Some-clause-known
returns-in-Some-clause-known g c = λ m at told. rw c.refuse.ensures.told (inr (source_tells
    (g.T.Input.origin c.args.stepper.now.scanner.cursor.input)
    (g.T.Input.origin c.next_events-more.new.self.scanner.cursor.input)
    (g.T.Input.origin c.take_source_error.new.self.scanner.cursor.input)
    c.next_events-more.ensures.moves.1 c.in-Some.ensures.origin c.in-Some.error
    c.take_source_error.new.self.scanner.cursor.place c.in-Some.ensures.given c.in-Some.ensures.place.0
    c.in-Some.ensures.place.1 c.in-Some.ensures.offset))

pub returns-in-None-clause-failed : goal.returns-in-None-clause-failed
returns-in-None-clause-failed g c = fails_on c.next_events-more.result c.next_events-more.new.self
    c.take_source_error.new.self c.in-None.ensures.failed c.next_events-more.ensures.failed

pub returns-in-Some-clause-failed : goal.returns-in-Some-clause-failed
returns-in-Some-clause-failed g c = ends_by (Some c.in-Some.error) None c.next_events-more.new.self
    c.take_source_error.new.self c.in-Some.ensures.failed tt

pub returns-in-None-clause-over : goal.returns-in-None-clause-over
returns-in-None-clause-over g c = λ failed.
    let same = (c.next_events-more.ensures.over failed).1 in
    let still : c.next_events-more.new.self.failed ≡ true = ap (λ (s : Stepping _). s.failed) same ∙ failed in
    rw (c.in-None.ensures.failed, still) refl

pub returns-in-Some-clause-over : goal.returns-in-Some-clause-over
returns-in-Some-clause-over g c = λ failed. returns-in-Some-clause-failed g c

pub returns-in-None-clause-goes : goal.returns-in-None-clause-goes
returns-in-None-clause-goes g c = goes_unless
    (Some (answered c.next_events-more.new.fault c.next_events-more.result))
    (g.T.Input.origin c.args.stepper.now.scanner.cursor.input)
    (g.T.Input.origin c.take_source_error.new.self.scanner.cursor.input)
    (gave_nothing (g.T.Input.origin c.args.stepper.now.scanner.cursor.input)
    (g.T.Input.origin c.next_events-more.new.self.scanner.cursor.input)
    (g.T.Input.origin c.take_source_error.new.self.scanner.cursor.input)
    c.next_events-more.ensures.moves.1 c.in-None.ensures.origin (sym c.in-None.ensures.given))

pub returns-in-Some-clause-goes : goal.returns-in-Some-clause-goes
returns-in-Some-clause-goes g c = gave_maybe (g.T.Input.origin c.args.stepper.now.scanner.cursor.input)
    (g.T.Input.origin c.next_events-more.new.self.scanner.cursor.input)
    (g.T.Input.origin c.take_source_error.new.self.scanner.cursor.input)
    c.next_events-more.ensures.moves.1 c.in-Some.ensures.origin
