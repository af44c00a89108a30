use Rattle.std.proofs.Common.{◌-◌, ◌^◌, Bool, List, [], Ok, sym, subst, inl}
use Rattle.granit_lexemes.specs.PlainEvent.{PlainEvent}
use Rattle.granit_restart.specs.Skipping.{with_pending}
use Rattle.granit_sourced.proofs.SourceLemmas.{goes_giving}
use Rattle.granit_sourced.proofs.gathering.gather_rest.Goals as goal
use Rattle.granit_sourced.specs.Gathering.{LeadsOut, WaitsOrRefuses}

pub returns-in-Ok-false-clause-known : goal.returns-in-Ok-false-clause-known
returns-in-Ok-false-clause-known g c = λ m before.
    let o = c.args.stepper.now.scanner.options in
    let mid = c.gather_turns.new.stepper in
    rw c.into_vec.ensures.items (subst (λ (es : List PlainEvent). LeadsOut o m es) (sym c.take_waiting.ensures.taken)
    (subst (λ (b : Bool). WaitsOrRefuses g.T.Input.unread g.T.Input.origin o m (2 ^ 64 - 1) (Ok b) mid)
    c.in-Ok-false.field-0-test (c.in-Ok-false.ensures.known m before)))

pub returns-in-Ok-true-clause-known : goal.returns-in-Ok-true-clause-known
returns-in-Ok-true-clause-known g c = λ m before.
    let o = c.args.stepper.now.scanner.options in
    let mid = c.gather_turns.new.stepper in
    let w = subst (λ (b : Bool). WaitsOrRefuses g.T.Input.unread g.T.Input.origin o m (2 ^ 64 - 1) (Ok b) mid)
    c.in-Ok-true.field-0-test (c.in-Ok-true.ensures.known m before) in
    let w = w.1 in (
      mid.parser.given,
      with_pending [] w.at,
      w.leads,
      inl (inl (λ other. absurd (other c.run_out.ensures.kind))),
    )

pub returns-in-Ok-true-clause-goes : goal.returns-in-Ok-true-clause-goes
returns-in-Ok-true-clause-goes g c = rw c.run_out.ensures.rest (goes_giving _ _ c.in-Ok-true.ensures.goes)

pub returns-in-Ok-true-clause-onward : goal.returns-in-Ok-true-clause-onward
returns-in-Ok-true-clause-onward g c = rw c.run_out.ensures.rest c.in-Ok-true.ensures.onward

pub returns-in-Ok-false-clause-goes : goal.returns-in-Ok-false-clause-goes
returns-in-Ok-false-clause-goes g c = rw c.take_waiting.ensures.rest c.in-Ok-false.ensures.goes

pub returns-in-Ok-false-clause-onward : goal.returns-in-Ok-false-clause-onward
returns-in-Ok-false-clause-onward g c = rw c.take_waiting.ensures.rest c.in-Ok-false.ensures.onward

pub returns-in-Ok-false-clause-renumbered : goal.returns-in-Ok-false-clause-renumbered
returns-in-Ok-false-clause-renumbered g c = rw c.take_waiting.ensures.rest c.in-Ok-false.ensures.renumbered
