use Rattle.granit_layers.proofs.PassingLemmas.{comes_through, fourth_replays}
use Rattle.granit_layers.proofs.laws.a_replay_comes_through.Goals as goal
use Rattle.granit_layers.specs.declared.kinds.AnyKind.TheVariants.{Fourth}

pub returns : goal.returns
returns g c =
    comes_through _ _ _ Fourth
    (fourth_replays g.A.StackedParser.steps g.B.StackedParser.steps g.C.StackedParser.steps)
