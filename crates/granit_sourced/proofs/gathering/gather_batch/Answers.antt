use Rattle.std.proofs.Common.{[], inl, subst}
use Rattle.granit_error.specs.OptionsData.{OptionsData}
use Rattle.granit_event.specs.Events.{plain_events}
use Rattle.granit_input.proofs.OriginLemmas.{goes_nowhere}
use Rattle.granit_sourced.proofs.GatheredLemmas.{waits_now}
use Rattle.granit_sourced.proofs.SourceLemmas.{goes_giving}
use Rattle.granit_sourced.proofs.gathering.gather_batch.Goals as goal
use Rattle.granit_sourced.specs.Gathering.{NextGathered, WaitsGathered, none_given}
use Rattle.granit_stepper.proofs.KeepLemmas.{same_options}

pub returns-in-Ok-clause-known : goal.returns-in-Ok-clause-known
returns-in-Ok-clause-known g c = λ m at.
    let unread = g.T.Input.unread in
    let old = c.args.stepper.now in
    let mid = c.wait_in.new.self in
    let put = c.in-Ok.ensures in
    subst (λ (p : OptionsData). WaitsGathered unread p m mid
    → NextGathered unread g.T.Input.origin p m c.fill_batch.result (plain_events c.fill_batch.new.batch.items)
    c.fill_batch.new.stepper) (same_options _ _ put.scanner) (c.fill_batch.ensures.known m)
    (waits_now unread old.scanner.options m mid put.first (put.known m at))

pub returns-in-Err-clause-known : goal.returns-in-Err-clause-known
returns-in-Err-clause-known g c = λ m at.
    ([], m, none_given, inl (inl (λ other. absurd (other c.run_out.ensures.kind))))

pub returns-in-Ok-clause-goes : goal.returns-in-Ok-clause-goes
returns-in-Ok-clause-goes g c = rw (← c.in-Ok.ensures.scanner) c.fill_batch.ensures.goes

pub returns-in-Ok-clause-onward : goal.returns-in-Ok-clause-onward
returns-in-Ok-clause-onward g c = rw (← c.in-Ok.ensures.scanner) c.fill_batch.ensures.onward

pub returns-in-Err-clause-goes : goal.returns-in-Err-clause-goes
returns-in-Err-clause-goes g c =
    rw (c.run_out.ensures.rest, c.in-Err.ensures.scanner) (goes_giving _ _ (goes_nowhere _))

pub returns-in-Err-clause-onward : goal.returns-in-Err-clause-onward
returns-in-Err-clause-onward g c = rw (c.run_out.ensures.rest, c.in-Err.ensures.scanner) (λ start before. before)
