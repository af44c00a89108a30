use Rattle.std.proofs.Common.{◌==◌, ◌&&◌, not, ◌∙◌}
use Rattle.granit_runs.proofs.LaneLemmas.{both_are, outside_lanes}
use Rattle.granit_runs.proofs.lanes.outside_flow.Goals as goal

pub returns : goal.returns
returns c =
    let v = c.args.bytes in
    let brackets = both_are (λ x. not (x == 0x5B)) (λ x. not (x == 0x5D)) v c.except-opening.ensures
    c.except-closing.ensures in
    let braces = both_are (λ x. not (x == 0x7B)) (λ x. not (x == 0x7D)) v c.except-beginning.ensures
    c.except-ending.ensures in
    both_are (λ x. not (x == 0x2C) && (not (x == 0x5B) && not (x == 0x5D)))
    (λ x. not (x == 0x7B) && not (x == 0x7D)) v
    (both_are (λ x. not (x == 0x2C)) (λ x. not (x == 0x5B) && not (x == 0x5D)) v c.except-comma.ensures brackets) braces
    ∙ outside_lanes v
