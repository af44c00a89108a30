use Rattle.std.proofs.Common.{ℕ, ◌==◌, ◌&&◌, not, ◌∙◌}
use Rattle.granit_base.specs.Classes.{is_within}
use Rattle.granit_runs.proofs.LaneLemmas.{both_are, double_lanes}
use Rattle.granit_runs.proofs.lanes.quoted.Goals.{then-single, else-single}
use Rattle.granit_runs.proofs.lanes.quoted.Goals as goal

pub returns : goal.returns
returns c = elim c.if-single.branch [
  | then-single w ↦ w.result-is ∙ rw w.if-single.true (both_are (is_within 0x21 0x7E) (λ (x : ℕ). not (x == 0x27))
      c.args.bytes c.within-shown.ensures w.except-others.ensures)
  | else-single w ↦ w.result-is ∙ rw w.if-single.false (both_are (is_within 0x21 0x7E)
      (λ (x : ℕ). not (x == 0x22) && not (x == 0x5C)) c.args.bytes c.within-shown.ensures
      (both_are (λ (x : ℕ). not (x == 0x22)) (λ (x : ℕ). not (x == 0x5C)) c.args.bytes
      w.except-others-else-single.ensures w.except-unescaped.ensures) ∙ double_lanes c.args.bytes)
]
