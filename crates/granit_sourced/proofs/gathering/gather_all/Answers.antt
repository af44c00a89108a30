use Rattle.std.proofs.Common.{[], inl, subst}
use Rattle.granit_error.specs.OptionsData.{OptionsData}
use Rattle.granit_event.specs.Events.{plain_event, plain_events}
use Rattle.granit_input.proofs.OriginLemmas.{goes_nowhere}
use Rattle.granit_sourced.proofs.GatheredLemmas.{waits_first}
use Rattle.granit_sourced.proofs.SourceLemmas.{goes_giving}
use Rattle.granit_sourced.proofs.gathering.gather_all.Goals as goal
use Rattle.granit_sourced.specs.Gathering.{AllGathered, WaitsGathered, none_given}
use Rattle.granit_stepper.proofs.KeepLemmas.{same_options}

pub returns-in-Ok-clause-known : goal.returns-in-Ok-clause-known
returns-in-Ok-clause-known g c = λ m before.
    let unread = g.T.Input.unread in
    let old = c.args.stepper.now in
    let mid = c.put_first.new.self in
    let put = c.in-Ok.ensures in
    (subst (λ (p : OptionsData). WaitsGathered unread p m mid
    → AllGathered g.T.Input.origin p m c.gather_rest.result (λ v. plain_events v.items) c.gather_rest.new.stepper)
    (same_options _ _ put.scanner) (c.gather_rest.ensures.known m)
    (waits_first unread old.scanner.options m old mid (plain_event c.args.first) put.first put.known before))

pub returns-in-Ok-clause-goes : goal.returns-in-Ok-clause-goes
returns-in-Ok-clause-goes g c = rw (← c.in-Ok.ensures.scanner) c.gather_rest.ensures.goes

pub returns-in-Ok-clause-onward : goal.returns-in-Ok-clause-onward
returns-in-Ok-clause-onward g c = rw (← c.in-Ok.ensures.scanner) c.gather_rest.ensures.onward

pub returns-in-Err-clause-known : goal.returns-in-Err-clause-known
returns-in-Err-clause-known g c = λ m before.
    ([], m, none_given, inl (inl (λ other. absurd (other c.run_out.ensures.kind))))

pub returns-in-Err-clause-goes : goal.returns-in-Err-clause-goes
returns-in-Err-clause-goes g c =
    rw (c.run_out.ensures.rest, c.in-Err.ensures.scanner) (goes_giving _ _ (goes_nowhere _))

pub returns-in-Err-clause-onward : goal.returns-in-Err-clause-onward
returns-in-Err-clause-onward g c = rw (c.run_out.ensures.rest, c.in-Err.ensures.scanner) (λ start before. before)
