use Rattle.std.proofs.Common.{sym, subst}
use Rattle.granit_scan.specs.Scanning.{ScannerStepsTo, NextToken}
use Rattle.granit_scan.proofs.MemoryLemmas.{step_memory}
use Rattle.granit_scan.proofs.SourceLemmas.{step_tells, steps_to}
use Rattle.granit_scan.proofs.scanner.ScannerIterator.next.Goals as goal

pub returns-clause-steps : goal.returns-clause-steps
returns-clause-steps g c =
    let of = c.next_queued.ensures in
    let new = c.next_queued.new.self in
    subst (λ (r : NextToken). ScannerStepsTo g.T.Input.unread g.T.Input.left g.T.Input.origin c.args.self.now r new)
    (sym c.next_of.ensures)
    (steps_to g.T.Input.unread g.T.Input.left g.T.Input.origin c.args.self.now new c.next_queued.result
    of.known of.source
    (λ going. step_memory g.T.Input.origin c.args.self.now new c.next_queued.result (of.memory going)) of.copied
    (step_tells c.args.self.now new c.next_queued.result of.started of.ended of.going of.failed) of.comments
    of.over of.options of.moves)
