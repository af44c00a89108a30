use Rattle.std.proofs.Common.{◌∙◌}
use Rattle.granit_reader.proofs.sort.placed_at.Goals as goal

pub returns : goal.returns
returns g c = λ h k.
    c.sort_of.ensures ∙ c.behind_indicator-next.ensures h k c.args.in_flow c.args.adjacent
