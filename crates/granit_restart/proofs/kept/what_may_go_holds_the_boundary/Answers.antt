use Rattle.granit_restart.proofs.MarkLaws.{what_goes_holds}
use Rattle.granit_restart.proofs.kept.what_may_go_holds_the_boundary.Goals as goal

pub returns : goal.returns
returns c = what_goes_holds
