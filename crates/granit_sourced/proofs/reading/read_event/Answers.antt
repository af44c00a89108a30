use Rattle.std.proofs.Common.{◌≡◌, true, false, sym, ap, ◌∙◌, ◌||◌, arith, Option, is_some}
use Rattle.granit_error.specs.Refused.{Refused}
use Rattle.granit_sourced.proofs.AtOnceLemmas.{at_once_by}
use Rattle.granit_sourced.proofs.GoesLemmas.{stands_going}
use Rattle.granit_sourced.proofs.HeldLemmas.{waits_by, waits_kept}
use Rattle.granit_sourced.proofs.SourceLemmas.{ends_by, goes_by, known_by, lost_by, reads_by, reads_kept, source_by}
use Rattle.granit_sourced.proofs.SourceLemmas.{sure_by}
use Rattle.granit_sourced.proofs.reading.read_event.Goals as goal

pub returns-then-has_failed-clause-known : goal.returns-then-has_failed-clause-known
returns-then-has_failed-clause-known g c = λ m at.
    absurd (let no : true ≡ false = sym c.if-has_failed.true ∙ c.has_failed.ensures ∙ at.going in cc)

pub returns-then-has_failed-clause-sure : goal.returns-then-has_failed-clause-sure
returns-then-has_failed-clause-sure g c = λ m at none.
    absurd (let no : true ≡ false = sym c.if-has_failed.true ∙ c.has_failed.ensures ∙ at.going in cc)

pub returns-then-has_failed-clause-source : goal.returns-then-has_failed-clause-source
returns-then-has_failed-clause-source g c = λ f met fresh going.
    absurd (let no : true ≡ false = sym c.if-has_failed.true ∙ c.has_failed.ensures ∙ going in cc)

pub returns-then-has_failed-clause-lost : goal.returns-then-has_failed-clause-lost
returns-then-has_failed-clause-lost g c = record {
  source = λ f met fresh going.
      absurd (let no : true ≡ false = sym c.if-has_failed.true ∙ c.has_failed.ensures ∙ going in cc);
  memory = tt;
}

pub returns-then-has_failed-clause-calls : goal.returns-then-has_failed-clause-calls
returns-then-has_failed-clause-calls g c = λ calls reached goes.
    absurd (let no : true ≡ false = sym c.if-has_failed.true ∙ c.has_failed.ensures
    ∙ stands_going g.T.Input.unread c.args.stepper.now goes.steps goes.stands in cc)

pub returns-clause-calls : goal.returns-clause-calls
returns-clause-calls g c = λ calls reached goes.
    let error = c.take_source_error in
    let event = c.step_event in
    rw c.put_error.ensures (reads_by g.T.Input.unread g.T.Input.origin
    c.args.stepper.now event.new.stepper error.new.self event.ensures.moves.1 error.ensures.origin
    error.result event.new.next calls error.ensures.given error.ensures.place error.ensures.offset
    (λ none. reads_kept g.T.Input.unread event.new.stepper error.new.self error.ensures.options
    error.ensures.renumbered error.ensures.first
    (error.ensures.failed ∙ ap (λ (e : Option Refused). event.new.stepper.failed || is_some e) none)
    (λ m at. error.ensures.known m at none) (λ m at. error.ensures.held m at none)
    (λ m e at. error.ensures.refused m e at none) event.new.next calls)
    (event.ensures.calls calls reached goes))

pub returns-clause-known : goal.returns-clause-known
returns-clause-known g c = λ m at. rw c.put_error.ensures (known_by g.T.Input.unread g.T.Input.origin
    c.args.stepper.now c.step_event.new.stepper c.take_source_error.new.self
    c.step_event.ensures.moves.1 c.take_source_error.ensures.origin c.take_source_error.result
    c.step_event.new.next c.args.stepper.now.renumbered c.args.stepper.now.scanner.options m
    (c.take_source_error.ensures.renumbered ∙ c.step_event.ensures.renumbered)
    c.take_source_error.ensures.given c.take_source_error.ensures.place
    c.take_source_error.ensures.offset c.take_source_error.ensures.known
    (c.step_event.ensures.known m at))

pub returns-clause-sure : goal.returns-clause-sure
returns-clause-sure g c = λ m at none. rw c.put_error.ensures (sure_by g.T.Input.unread g.T.Input.origin
    c.args.stepper.now c.step_event.new.stepper c.take_source_error.new.self
    c.step_event.ensures.moves.1 c.take_source_error.ensures.origin c.take_source_error.result
    c.step_event.new.next c.args.stepper.now.renumbered c.args.stepper.now.scanner.options m
    (c.take_source_error.ensures.renumbered ∙ c.step_event.ensures.renumbered)
    c.take_source_error.ensures.given c.take_source_error.ensures.known none
    (c.step_event.ensures.known m at))

pub returns-clause-source : goal.returns-clause-source
returns-clause-source g c = rw c.put_error.ensures (source_by g.T.Input.unread g.T.Input.origin
    c.args.stepper.now c.step_event.new.stepper c.take_source_error.new.self
    c.step_event.ensures.moves.1 c.take_source_error.ensures.origin c.take_source_error.result
    c.step_event.new.next c.take_source_error.ensures.given c.take_source_error.ensures.place
    c.take_source_error.ensures.offset)

pub returns-clause-lost : goal.returns-clause-lost
returns-clause-lost g c = rw c.put_error.ensures (lost_by g.T.Input.unread g.T.Input.origin
    c.args.stepper.now c.step_event.new.stepper c.take_source_error.new.self
    c.step_event.ensures.moves.1 c.take_source_error.ensures.origin c.take_source_error.result
    c.step_event.new.next c.take_source_error.ensures.given c.take_source_error.ensures.failed
    c.take_source_error.ensures.lost c.take_source_error.ensures.ended c.step_event.ensures.lost)

pub returns-clause-refused : goal.returns-clause-refused
returns-clause-refused g c = rw c.put_error.ensures (ends_by c.take_source_error.result
    c.step_event.new.next c.step_event.new.stepper c.take_source_error.new.self
    c.take_source_error.ensures.failed c.step_event.ensures.refused)

pub returns-clause-moves : goal.returns-clause-moves
returns-clause-moves g c =
    let fewer = c.step_event.ensures.moves.0 in
    let left = c.take_source_error.ensures.left in
    rw c.put_error.ensures (
      omega (arith, fewer, left),
      goes_by g.T.Input.unread g.T.Input.origin
          c.args.stepper.now c.step_event.new.stepper c.take_source_error.new.self
          c.step_event.ensures.moves.1 c.take_source_error.ensures.origin c.take_source_error.result
          c.step_event.new.next c.take_source_error.ensures.given,
    )

pub returns-then-has_failed-clause-waits : goal.returns-then-has_failed-clause-waits
returns-then-has_failed-clause-waits g c = λ m f held.
    absurd (let no : true ≡ false = sym c.if-has_failed.true ∙ c.has_failed.ensures ∙ held.going in cc)

pub returns-clause-waits : goal.returns-clause-waits
returns-clause-waits g c = λ m f held.
    let error = c.take_source_error in
    let event = c.step_event in
    rw c.put_error.ensures (waits_by g.T.Input.unread g.T.Input.origin
    c.args.stepper.now event.new.stepper error.new.self event.ensures.moves.1 error.ensures.origin
    error.result event.new.next m f error.ensures.given error.ensures.place error.ensures.offset
    (λ none. waits_kept g.T.Input.unread event.new.stepper error.new.self error.ensures.ahead
    (error.ensures.failed ∙ ap (λ (e : Option Refused). event.new.stepper.failed || is_some e) none)
    (λ m e at. error.ensures.refused m e at none) event.new.next m f) (event.ensures.waits m f held))

pub returns-then-has_failed-clause-at_once : goal.returns-then-has_failed-clause-at_once
returns-then-has_failed-clause-at_once g c = record {
  waiting = λ going.
      absurd (let no : true ≡ false = sym c.if-has_failed.true ∙ c.has_failed.ensures ∙ going in cc);
  ended = λ going at.
      absurd (let no : true ≡ false = sym c.if-has_failed.true ∙ c.has_failed.ensures ∙ going in cc);
  free = λ going none.
      absurd (let no : true ≡ false = sym c.if-has_failed.true ∙ c.has_failed.ensures ∙ going in cc);
}

pub returns-clause-at_once : goal.returns-clause-at_once
returns-clause-at_once g c =
    let error = c.take_source_error in
    let event = c.step_event in
    rw c.put_error.ensures (at_once_by g.T.Input.origin c.args.stepper.now event.new.stepper
    error.new.self event.ensures.moves.1 error.ensures.origin event.new.next event.ensures.waiting
    event.ensures.ended event.ensures.free error.result error.ensures.given error.ensures.place error.ensures.offset
    error.ensures.rest)
