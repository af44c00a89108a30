use Rattle.std.proofs.Common.{◌∙◌, add-one}
use Rattle.granit_scanner.proofs.last.last_behind.Goals as goal

pub items-preserved : goal.items-preserved
items-preserved c = λ before. rw add-one (c.met_at-met.ensures before ∙ c.items.invariant before)
