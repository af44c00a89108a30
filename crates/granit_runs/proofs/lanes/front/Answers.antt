use Rattle.std.proofs.Common.{ℕ, eqb, sym, ◌∙◌, ap}
use Rattle.std.proofs.lemmas.Bool.{cond-true, cond-false, ne_eqb}
use Rattle.granit_runs.proofs.LaneLemmas.{front_is}
use Rattle.granit_runs.proofs.lanes.front.Goals as goal

pub returns-then-stops-eq0 : goal.returns-then-stops-eq0
returns-then-stops-eq0 c = sym (cond-true _ _ _ (ap (λ (m : ℕ). eqb m 0) c.if-stops-eq0.true))
    ∙ front_is c.args.lanes c.fits-lanes.0

pub returns-else-stops-eq0 : goal.returns-else-stops-eq0
returns-else-stops-eq0 c = sym (cond-false _ _ _ (ne_eqb _ _ c.if-stops-eq0.false))
    ∙ front_is c.args.lanes c.fits-lanes.0
