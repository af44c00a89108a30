use Rattle.std.proofs.Common.{◌==◌}
use Rattle.granit_base.specs.Classes.{is_within}
use Rattle.granit_runs.proofs.LaneLemmas.{either_are}
use Rattle.granit_runs.proofs.lanes.line.Goals as goal

pub returns : goal.returns
returns c = either_are (is_within 0x20 0x7E) (λ x. x == 0x09) c.args.bytes c.within-shown.ensures c.equal-tabs.ensures
