use Rattle.std.proofs.Common.{refl, ap, ◌∙◌}
use Rattle.granit_sourced.proofs.AtOnceLemmas.{takes_view}
use Rattle.granit_sourced.proofs.GoesLemmas.{ends_view, gives_view, goes_reads, lost_view, viewed}
use Rattle.granit_sourced.proofs.HeldLemmas.{held_view}
use Rattle.granit_sourced.proofs.reading.step_event.Goals as goal
use Rattle.granit_sourced.specs.Giving.{next_view}
use Rattle.granit_stepper.specs.Stepping.{answer_in}

pub returns-clause-known : goal.returns-clause-known
returns-clause-known g c = λ m at.
    let r = c.next_event.new.next in
    rw (viewed r) (gives_view (answer_in r) _ c.args.stepper.now.renumbered c.args.stepper.now.scanner.options m
    (c.next_event.ensures.known m at))

pub returns-clause-calls : goal.returns-clause-calls
returns-clause-calls g c = λ calls reached goes.
    let s = c.args.stepper.now in
    let r = c.next_event.new.next in
    rw (viewed r) (goes_reads g.T.Input.unread s c.next_event.new.self s.scanner.options refl
    c.next_event.ensures.options calls goes (answer_in r)
    c.next_event.ensures.failed c.next_event.ensures.renumbered c.next_event.ensures.known
    c.next_event.ensures.refused c.next_event.ensures.ahead c.next_event.ensures.first
    (c.calls_go_by_turns.ensures s.scanner.options calls reached))

pub returns-clause-refused : goal.returns-clause-refused
returns-clause-refused g c =
    let r = c.next_event.new.next in
    rw (viewed r) (ends_view (answer_in r) c.next_event.new.self c.next_event.ensures.failed)

pub returns-clause-lost : goal.returns-clause-lost
returns-clause-lost g c =
    let r = c.next_event.new.next in
    rw (viewed r) (lost_view (answer_in r) c.next_event.new.self c.next_event.ensures.lost)

pub returns-clause-waits : goal.returns-clause-waits
returns-clause-waits g c = λ m f held.
    let r = c.next_event.new.next in
    rw (viewed r) (held_view g.T.Input.unread (answer_in r) c.next_event.new.self m f c.next_event.ensures.failed
    (c.next_event.ensures.held m f held))

pub returns-clause-waiting : goal.returns-clause-waiting
returns-clause-waiting g c = λ going.
    let r = c.next_event.new.next in
    rw (viewed r) (takes_view (answer_in r) c.args.stepper.now c.next_event.new.self
    (c.next_event.ensures.waiting going))

pub returns-clause-ended : goal.returns-clause-ended
returns-clause-ended g c = λ at.
    let none = c.next_event.ensures.ended at in
    (viewed c.next_event.new.next ∙ ap next_view none.0, none.1)

pub returns-clause-free : goal.returns-clause-free
returns-clause-free g c = λ going none e fails.
    viewed c.next_event.new.next ∙ ap next_view (c.next_event.ensures.at_once going none e fails)
