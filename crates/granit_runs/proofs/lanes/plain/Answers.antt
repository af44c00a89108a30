use Rattle.std.proofs.Common.{ℕ, ◌==◌, ◌&&◌, not, ◌∙◌}
use Rattle.granit_base.specs.Classes.{is_flow, is_within}
use Rattle.granit_runs.proofs.LaneLemmas.{both_are, block_lanes}
use Rattle.granit_runs.proofs.lanes.plain.Goals.{then-in_flow, else-in_flow}
use Rattle.granit_runs.proofs.lanes.plain.Goals as goal

pub returns : goal.returns
returns c = elim c.if-in_flow.branch [
  | then-in_flow w ↦ w.result-is ∙ rw w.if-in_flow.true (both_are (is_within 0x21 0x7E)
      (λ (x : ℕ). not (x == 0x3A) && not (is_flow x)) c.args.bytes c.within-shown.ensures
      (both_are (λ (x : ℕ). not (x == 0x3A)) (λ (x : ℕ). not (is_flow x)) c.args.bytes c.except-others.ensures
      w.outside_flow-outside.ensures))
  | else-in_flow w ↦ w.result-is ∙ rw w.if-in_flow.false (both_are (is_within 0x21 0x7E) (λ (x : ℕ). not (x == 0x3A))
      c.args.bytes c.within-shown.ensures c.except-others.ensures ∙ block_lanes c.args.bytes)
]
