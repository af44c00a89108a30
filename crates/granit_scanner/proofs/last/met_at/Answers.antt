use Rattle.std.proofs.Common.{◌∙◌, Bool, drop, suc, ap}
use Rattle.granit_queue.specs.QueueViews.{queued_view}
use Rattle.granit_reader.specs.Meets.{behind_met}
use Rattle.granit_restart.specs.Header.{ends_in_directive}
use Rattle.granit_scanner.proofs.RestartLemmas.{last_none, last_on}
use Rattle.granit_scanner.proofs.last.met_at.Goals as goal

pub returns-in-None : goal.returns-in-None
returns-in-None c = λ before.
    last_none (behind_met c.args.met before) c.args.queue.now c.args.older c.in-None.ensures

pub returns-in-Some : goal.returns-in-Some
returns-in-Some c = λ before.
    let q = c.args.queue.now in
    ap (λ (b : Bool). ends_in_directive b (drop (suc c.args.older) q)) (c.met_on.ensures before)
    ∙ last_on (behind_met c.args.met before) q c.args.older (queued_view c.in-Some.queued.now) c.in-Some.ensures
