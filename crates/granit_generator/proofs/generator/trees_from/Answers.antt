-- What was made fits, and is no deeper than its levels.
use Rattle.std.proofs.Common.{subst, sym, arith, ◌≤◌}
use Rattle.granit_model.specs.Tree.{DocumentsFit, trees_depth}
use Rattle.granit_generator.proofs.FitLemmas.{documents_fit, documents_depth}
use Rattle.granit_generator.proofs.generator.trees_from.Goals as goal

pub returns-clause-fit : goal.returns-clause-fit
returns-clause-fit c =
    subst DocumentsFit (sym c.loop.invariant.trees) (documents_fit c.loop.counter c.new-drawing.result)

pub returns-clause-depth : goal.returns-clause-depth
returns-clause-depth c =
    subst (λ ts. trees_depth ts ≤ 6) (sym c.loop.invariant.trees) (documents_depth c.loop.counter c.new-drawing.result)
