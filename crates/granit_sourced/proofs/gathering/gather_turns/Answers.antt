use Rattle.std.proofs.Common.{[], Bool, true, false, Some, Ok, Err, refl, subst, ◌∙◌, ◌⊎◌, arith}
use Rattle.granit_error.specs.OptionsData.{OptionsData}
use Rattle.granit_lexemes.specs.Outcome.{Fails}
use Rattle.granit_input.proofs.OriginLemmas.{goes_nowhere, goes_on}
use Rattle.granit_refused.specs.Answered.{why}
use Rattle.granit_restart.specs.Skipping.{with_pending}
use Rattle.granit_sourced.proofs.GatheredLemmas.{gathers_all, gathers_more, gathers_refusal}
use Rattle.granit_sourced.proofs.SourceLemmas.{giving_on, never_told}
use Rattle.granit_sourced.proofs.gathering.gather_turns.Goals as goal
use Rattle.granit_sourced.specs.Sources.{TellsSource}
use Rattle.granit_stepper.specs.Gathering.{GathersBehind}
use Rattle.granit_stepper.specs.Numbers.{RefusesNumber}
use Rattle.granit_stepper.specs.Stepping.{StandsIn}
use Rattle.granit_steps.specs.Steps.{settle}

pub turns-init : goal.turns-init
turns-init g c = record {
  gathered = λ m before. (omega arith, before);
  over = λ failed. failed;
  same = refl;
  renumbered = refl;
  goes = goes_nowhere _;
  onward = λ start before. before;
}

pub returns-in-Ok-false-clause-known : goal.returns-in-Ok-false-clause-known
returns-in-Ok-false-clause-known g c = λ m before.
    let unread = g.T.Input.unread in
    let o = c.args.stepper.now.scanner.options in
    let now = c.turns.stepper in
    let after = c.more_events.new.stepper in
    gathers_all unread o m now after
    (λ n. RefusesNumber after.renumbered o (with_pending [] n)) c.in-Ok-false.ensures.first
    (λ n at told. subst (λ (p : OptionsData). GathersBehind (Ok false) (StandsIn unread after) p n
    (RefusesNumber after.renumbered p (with_pending [] n))) c.turns.invariant.same
    (never_told (subst (λ (b : Bool). GathersBehind (Ok b) (StandsIn unread after) now.scanner.options n
    (RefusesNumber after.renumbered now.scanner.options (with_pending [] n))
    ⊎ TellsSource {X = Bool} g.T.Input.origin (Some (Ok b)) after.scanner.cursor) c.in-Ok-false.field-0-test
    (c.in-Ok-false.ensures.known n at told))))
    (c.turns.invariant.gathered m before).1

pub returns-in-Err-clause-known : goal.returns-in-Err-clause-known
returns-in-Err-clause-known g c = λ m before.
    let unread = g.T.Input.unread in
    let o = c.args.stepper.now.scanner.options in
    let after = c.more_events.new.stepper in
    let e = why c.more_events.new.fault c.in-Err.refused in
    rw (c.take_waiting.ensures.rest, c.error_of.ensures)
    (gathers_refusal unread o m g.T.Input.origin c.turns.stepper after e
    (λ n at told. subst (λ (p : OptionsData). (Fails e (settle p (with_pending [] n))
    ⊎ RefusesNumber after.renumbered p (with_pending [] n) e)
    ⊎ TellsSource {X = Bool} g.T.Input.origin (Some (Err e)) after.scanner.cursor) c.turns.invariant.same
    (c.in-Err.ensures.known n at told))
    (c.turns.invariant.gathered m before).1)

pub turns-preserved : goal.turns-preserved
turns-preserved g c =
    let unread = g.T.Input.unread in
    let o = c.args.stepper.now.scanner.options in
    let now = c.turns.stepper in
    let after = c.more_events.new.stepper in
    record {
      gathered = λ m before. let w = c.turns.invariant.gathered m before in
          let more = gathers_more unread o m now after
          (λ n. RefusesNumber after.renumbered o (with_pending [] n)) c.in-Ok-true.ensures.first
          (λ n at told. subst (λ (p : OptionsData). GathersBehind (Ok true) (StandsIn unread after) p n
          (RefusesNumber after.renumbered p (with_pending [] n))) c.turns.invariant.same
          (never_told (subst (λ (b : Bool). GathersBehind (Ok b) (StandsIn unread after) now.scanner.options n
          (RefusesNumber after.renumbered now.scanner.options (with_pending [] n))
          ⊎ TellsSource {X = Bool} g.T.Input.origin (Some (Ok b)) after.scanner.cursor) c.in-Ok-true.field-0-test
          (c.in-Ok-true.ensures.known n at told))))
          w.1 in
          (omega (arith, w.0, more.0), more.1);
      over = λ failed. c.in-Ok-true.ensures.over (c.turns.invariant.over failed);
      same = c.in-Ok-true.ensures.options ∙ c.turns.invariant.same;
      renumbered = c.in-Ok-true.ensures.renumbered ∙ c.turns.invariant.renumbered;
      goes = goes_on _ _ _ c.turns.invariant.goes c.in-Ok-true.ensures.goes;
      onward = λ start before. c.in-Ok-true.ensures.onward start (c.turns.invariant.onward start before);
    }

pub returns-in-Ok-false-clause-goes : goal.returns-in-Ok-false-clause-goes
returns-in-Ok-false-clause-goes g c = goes_on _ _ _ c.turns.invariant.goes c.in-Ok-false.ensures.goes

pub returns-in-Ok-false-clause-onward : goal.returns-in-Ok-false-clause-onward
returns-in-Ok-false-clause-onward g c = λ start before. c.in-Ok-false.ensures.onward start
    (c.turns.invariant.onward start before)

pub returns-in-Ok-false-clause-renumbered : goal.returns-in-Ok-false-clause-renumbered
returns-in-Ok-false-clause-renumbered g c = c.in-Ok-false.ensures.renumbered ∙ c.turns.invariant.renumbered

pub returns-in-Ok-false-clause-options : goal.returns-in-Ok-false-clause-options
returns-in-Ok-false-clause-options g c = c.in-Ok-false.ensures.options ∙ c.turns.invariant.same

pub returns-in-Ok-false-clause-over : goal.returns-in-Ok-false-clause-over
returns-in-Ok-false-clause-over g c = λ failed. c.in-Ok-false.ensures.over (c.turns.invariant.over failed)

pub returns-in-Err-clause-over : goal.returns-in-Err-clause-over
returns-in-Err-clause-over g c = rw c.take_waiting.ensures.rest (λ failed. c.in-Err.ensures.failed)

pub returns-in-Err-clause-failed : goal.returns-in-Err-clause-failed
returns-in-Err-clause-failed g c = rw c.take_waiting.ensures.rest c.in-Err.ensures.failed

pub returns-in-Err-clause-renumbered : goal.returns-in-Err-clause-renumbered
returns-in-Err-clause-renumbered g c = rw c.take_waiting.ensures.rest
    (c.in-Err.ensures.renumbered ∙ c.turns.invariant.renumbered)

pub returns-in-Err-clause-options : goal.returns-in-Err-clause-options
returns-in-Err-clause-options g c = rw c.take_waiting.ensures.rest
    (c.in-Err.ensures.options ∙ c.turns.invariant.same)

pub returns-in-Err-clause-goes : goal.returns-in-Err-clause-goes
returns-in-Err-clause-goes g c = rw c.take_waiting.ensures.rest
    (giving_on _ _ _ c.turns.invariant.goes c.in-Err.ensures.goes)

pub returns-in-Err-clause-onward : goal.returns-in-Err-clause-onward
returns-in-Err-clause-onward g c = rw c.take_waiting.ensures.rest
    (λ start before. c.in-Err.ensures.onward start (c.turns.invariant.onward start before))

pub returns-clause-known : goal.returns-clause-known
returns-clause-known g c = λ m before.
    let w = c.turns.invariant.gathered m before in
    let least = c.turns-test.false in
    (omega (arith, least, w.0), w.1)
