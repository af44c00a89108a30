use Rattle.std.proofs.Common.{◌≡◌, ◌∙◌, Some, subst}
use Rattle.std.specs.List.{slice_get}
use Rattle.granit_queue.specs.QueueViews.{queued_view}
use Rattle.granit_scanner.specs.Scans.{is_done}
use Rattle.granit_scanner.proofs.FrontLemmas.{line_of_first}
use Rattle.granit_scanner.proofs.scanner.ItemScanner.line_of_front.Goals as goal

pub returns-in-Some : goal.returns-in-Some
returns-in-Some g c =
    let s = c.args.self.now in
    c.line_if_known.ensures
    ∙ line_of_first (is_done s) s.laid s.queue (queued_view c.in-Some.next.now)
    (subst (λ r. Some (queued_view c.in-Some.next.now) ≡ slice_get r.queue 0) c.self.view_is c.in-Some.ensures)
