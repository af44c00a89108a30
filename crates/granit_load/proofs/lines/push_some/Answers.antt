use Rattle.std.proofs.Common.{◌≡◌, List, ℕ, [], Ok, ap, subst, sym, inl}
use Rattle.std.proofs.lemmas.Result.{err_from_is_err_and}
use Rattle.granit_event.specs.Events.{plain_events}
use Rattle.granit_load.specs.Lines.{PushesLines}
use Rattle.granit_load.proofs.LineLemmas.{lines_pushed, lines_refused}
use Rattle.granit_load.proofs.lines.push_some.Goals as goal
use Rattle.granit_parser.specs.Parsing.{none_given}

pub returns-in_ok-push_batch-in-Ok-clause-known : goal.returns-in_ok-push_batch-in-Ok-clause-known
returns-in_ok-push_batch-in-Ok-clause-known g c = λ m lead.
    let o = c.args.parser.now.stepper.scanner.options in
    subst (λ (page : List ℕ). PushesLines g.T.Input.unread g.T.Input.origin o m (Ok c.in-Ok.more) page
    c.gather_some.new.self) (sym c.in_ok-push_batch-in-Ok.ensures)
    (lines_pushed g.T.Input.unread g.T.Input.origin o m c.args.page.now c.args.parser.now c.gather_some.new.self lead
    c.in-Ok.more (plain_events c.gather_some.new.batch.items) c.in-Ok.ensures.known)

pub returns-in-Err-clause-known : goal.returns-in-Err-clause-known
returns-in-Err-clause-known g c = λ m lead.
    lines_refused g.T.Input.unread g.T.Input.origin c.args.parser.now.stepper.scanner.options m c.args.page.now
    c.args.parser.now c.gather_some.new.self lead c.in-Err.error c.in-Err.ensures.known

pub returns-in_err-push_batch-in-Ok-clause-known : goal.returns-in_err-push_batch-in-Ok-clause-known
returns-in_err-push_batch-in-Ok-clause-known g c = λ m lead.
    let p = err_from_is_err_and c.from_residual.result c.from_residual.ensures.1 in
    rw (p.1) ([], m, none_given, inl (inl (λ other. absurd (other p.2))))
