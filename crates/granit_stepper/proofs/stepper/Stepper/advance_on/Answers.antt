use Rattle.std.proofs.Common.{◌≡◌, true, [], refl, sym, ap, subst, ◌∙◌}
use Rattle.granit_cursor.specs.Reading.{GivesTo}
use Rattle.granit_error.specs.OptionsData.{OptionsData}
use Rattle.granit_refused.specs.Answered.{answered}
use Rattle.granit_restart.specs.Looking.{behind_waiting}
use Rattle.granit_restart.specs.Skipping.{with_pending}
use Rattle.granit_scanner.specs.Scans.{front_view}
use Rattle.granit_stepper.proofs.EarlyLemmas.{read_behind}
use Rattle.granit_stepper.specs.Numbers.{GetsLast, GivesOr, RefusesNumber}
use Rattle.granit_stepper.specs.Stepping.{StandsIn, Stepping, feed_item, turn_view}
use Rattle.granit_stepper.specs.TurnMemory.{front_refused, read_failed}
use Rattle.granit_stepper.proofs.FreeLemmas.{front_passed_free, front_refused_free, goes_there}
use Rattle.granit_stepper.proofs.NumberLemmas.{gives_or, turn_or}
use Rattle.granit_stepper.proofs.RefusalLemmas.{item_refuses_in}
use Rattle.granit_stepper.proofs.TurnLemmas.{turn_feeds, turn_reads}
use Rattle.granit_stepper.proofs.stepper.Stepper.advance_on.Goals as goal
use Rattle.granit_steps.specs.Steps.{StepState, Turn, read_more}

pub returns-in-Some-clause-known : goal.returns-in-Some-clause-known
returns-in-Some-clause-known g c = λ m at told pending.
    let unread = g.T.Input.unread in
    let o = c.args.self.now.scanner.options in
    let x = front_view c.in-Some.front in
    let after = c.take_item.new.self in
    let r = answered c.take_item.new.fault c.take_item.result in
    let free = c.in-Some.ensures.known m at in
    let behind : StepState = record m { queue = free.0 } in
    let fed = c.take_item.ensures.known behind free.4 (c.in-Some.ensures.keeps.first ∙ told) pending in
    let same = subst
    (λ (p : OptionsData). GivesOr turn_view r (StandsIn unread after) (feed_item p x behind)
    (λ e. (after.renumbered ≡ true) × GetsLast p x m.parser e)) c.in-Some.ensures.keeps.options fed in
    subst (λ (t : Turn). GivesOr turn_view r (StandsIn unread after) t
    (RefusesNumber after.renumbered o m)) (sym (turn_feeds o m x free.0 pending free.1 free.2 free.3))
    (turn_or o m x free.0 pending free.1 free.2 free.3 turn_view r (StandsIn unread after)
    after.renumbered (feed_item o x behind) same)

pub returns-in-None-clause-known : goal.returns-in-None-clause-known
returns-in-None-clause-known g c = λ m at told pending.
    let unread = g.T.Input.unread in
    let o = c.args.self.now.scanner.options in
    let after = c.read_more.new.self in
    let r = answered c.read_more.new.fault c.read_more.result in
    let free = c.in-None.ensures.known m at in
    let read = c.read_more.ensures.known m free.1 free.0 in
    let same = subst
    (λ (p : OptionsData). GivesTo turn_view r (StandsIn unread after) (read_more p m.reading.ended m))
    c.in-None.ensures.keeps.options read in
    subst (λ (t : Turn). GivesOr turn_view r (StandsIn unread after) t
    (RefusesNumber after.renumbered o m)) (sym (turn_reads o m pending free.0))
    (gives_or turn_view r (StandsIn unread after) (read_more o m.reading.ended m)
    (RefusesNumber after.renumbered o m) same)

pub returns-in-Some-clause-refused : goal.returns-in-Some-clause-refused
returns-in-Some-clause-refused g c = λ m at told pending calm.
    let unread = g.T.Input.unread in
    let x = front_view c.in-Some.front in
    let r = answered c.take_item.new.fault c.take_item.result in
    let free = c.in-Some.ensures.known m at in
    let behind : StepState = record m { queue = free.0 } in
    item_refuses_in unread c.take_item.new.self m pending x free.0 free.1 free.2 free.3 r
    (c.take_item.ensures.refused behind free.4 (c.in-Some.ensures.keeps.first ∙ told) pending calm)

pub returns-in-None-clause-refused : goal.returns-in-None-clause-refused
returns-in-None-clause-refused g c = λ m at told pending calm.
    let free = c.in-None.ensures.known m at in
    c.read_more.ensures.refused m free.1 (c.in-None.ensures.keeps.first ∙ told) pending free.0

pub returns-in-Some-clause-early : goal.returns-in-Some-clause-early
returns-in-Some-clause-early g c = λ m at told.
    let unread = g.T.Input.unread in
    let o = c.args.self.now.scanner.options in
    let x = front_view c.in-Some.front in
    let after = c.take_item.new.self in
    let r = answered c.take_item.new.fault c.take_item.result in
    let free = c.in-Some.ensures.known m at in
    let behind : StepState = record m { queue = free.0 } in
    let fed = c.take_item.ensures.early behind free.4 (c.in-Some.ensures.keeps.first ∙ told) in
    let same = subst
    (λ (p : OptionsData). GivesOr turn_view r (StandsIn unread after)
    (behind_waiting m.pending (feed_item p x (with_pending [] behind)))
    (λ e. (after.renumbered ≡ true) × GetsLast p x m.parser e)) c.in-Some.ensures.keeps.options fed in
    let n = with_pending [] m in
    subst (λ (t : Turn). GivesOr turn_view r (StandsIn unread after) (behind_waiting m.pending t)
    (RefusesNumber after.renumbered o n)) (sym (turn_feeds o n x free.0 refl free.1 free.2 free.3))
    (turn_or o n x free.0 refl free.1 free.2 free.3 turn_view r (StandsIn unread after)
    after.renumbered (behind_waiting m.pending (feed_item o x (with_pending [] behind))) same)

pub returns-in-None-clause-early : goal.returns-in-None-clause-early
returns-in-None-clause-early g c = λ m at told.
    let unread = g.T.Input.unread in
    let o = c.args.self.now.scanner.options in
    let after = c.read_more.new.self in
    let r = answered c.read_more.new.fault c.read_more.result in
    let free = c.in-None.ensures.known m at in
    let read = c.read_more.ensures.known m free.1 free.0 in
    let same = subst
    (λ (p : OptionsData). GivesTo turn_view r (StandsIn unread after) (read_more p m.reading.ended m))
    c.in-None.ensures.keeps.options read in
    let n = with_pending [] m in
    subst (λ (t : Turn). GivesOr turn_view r (StandsIn unread after) t (RefusesNumber after.renumbered o n))
    (read_behind o m m.reading.ended ∙ ap (behind_waiting m.pending) (sym (turn_reads o n refl free.0)))
    (gives_or turn_view r (StandsIn unread after) (read_more o m.reading.ended m)
    (RefusesNumber after.renumbered o n) same)

pub returns-in-Some-clause-at_once : goal.returns-in-Some-clause-at_once
returns-in-Some-clause-at_once g c = λ ahead e free. elim free [
  | front_refused {x = x} goes item ↦
      let there = goes_there c.args.self.now c.take_free.new.self x (front_view c.in-Some.front) goes
      c.in-Some.ensures.taken in
      front_refused_free c.args.self.now c.take_free.new.self c.take_item.new.self x (front_view c.in-Some.front)
      (answered c.take_item.new.fault c.take_item.result) there.1 there.0 c.take_item.ensures.at_once e item
  | read_failed none kept ↦ absurd (let clash = (c.in-Some.ensures.none none).0 in cc)
]

pub returns-in-None-clause-at_once : goal.returns-in-None-clause-at_once
returns-in-None-clause-at_once g c = λ ahead e free. elim free [
  | front_refused goes item ↦ absurd (let clash = (c.in-None.ensures.taken goes.goes).0 ∙ goes.front in cc)
  | read_failed none kept ↦
      let same = (c.in-None.ensures.none none).1 in
      c.read_more.ensures.at_once e (ap (λ (s : Stepping g.row.T.Denot). s.scanner.fault) same ∙ kept)
]

pub returns-in-Some-clause-eventless : goal.returns-in-Some-clause-eventless
returns-in-Some-clause-eventless g c = λ ahead p free.
    let there = goes_there c.args.self.now c.take_free.new.self free.item (front_view c.in-Some.front) free.goes
    c.in-Some.ensures.taken in
    front_passed_free c.args.self.now c.take_free.new.self c.take_item.new.self free.item (front_view c.in-Some.front)
    (answered c.take_item.new.fault c.take_item.result) there.1 there.0 c.take_item.ensures.eventless p free.passes

pub returns-in-None-clause-eventless : goal.returns-in-None-clause-eventless
returns-in-None-clause-eventless g c = λ ahead p free.
    absurd (let clash = (c.in-None.ensures.taken free.goes.goes).0 ∙ free.goes.front in cc)
