-- A collection is deeper than each that stands in it: what ends a walk over trees.
use Rattle.std.specs.Prelude.{◌≤◌, max, List, [], ◌∷◌}
use Rattle.std.proofs.Common.{arith}
use denote.Param.Weighed.{most}
use Rattle.granit_model.specs.declared.tree.Tree.{Tree}
use Rattle.granit_model.specs.declared.tree.Tree.TheVariants.{Alias, Scalar, Sequence, Mapping}
use Rattle.granit_model.specs.declared.tree.PairList.TheDeep.{deep-Tree}
use Rattle.granit_model.specs.Tree.{PlainTrees, NoTrees, AfterTrees, PlainPairs, NoPairs, AfterPairs, tree_depth}
use Rattle.granit_model.specs.Tree.{trees_depth, pairs_depth}
use Rattle.granit_model.specs.TreeView.{plain_tree, with_trees, with_pairs}

tree_falls : (t : Tree) → deep-Tree t ≤ tree_depth (plain_tree t)
tree_falls (Alias name) = omega arith
tree_falls (Scalar p text) = omega arith
tree_falls (Sequence p entries) = omega arith
tree_falls (Mapping p pairs) = omega arith

trees_behind_fall : (before : PlainTrees) (ts : List Tree)
    → max (trees_depth before) (most deep-Tree ts) ≤ trees_depth (with_trees before ts)
trees_behind_fall before [] = omega arith
trees_behind_fall before (t ∷ ts) = omega (arith, tree_falls t, trees_behind_fall (AfterTrees before (plain_tree t)) ts)

pairs_behind_fall :
    (before : PlainPairs) (ps : List (Tree × Tree))
    → max (pairs_depth before) (most (λ p. max (deep-Tree p.0) (max (deep-Tree p.1) 0)) ps) ≤ pairs_depth
    (with_pairs before ps)
pairs_behind_fall before [] = omega arith
pairs_behind_fall before (p ∷ ps) = omega (
  arith,
  tree_falls p.0,
  tree_falls p.1,
  pairs_behind_fall
      (AfterPairs before (plain_tree p.0) (plain_tree p.1)) ps,
)

pub trees_fall : (ts : List Tree) → max (most deep-Tree ts) 0 ≤ trees_depth (with_trees NoTrees ts)
trees_fall ts = omega (arith, trees_behind_fall NoTrees ts)

pub pairs_fall : (ps : List (Tree × Tree)) → max (most (λ p. max (deep-Tree p.0) (max (deep-Tree p.1) 0)) ps) 0 ≤
    pairs_depth (with_pairs NoPairs ps)
pairs_fall ps = omega (arith, pairs_behind_fall NoPairs ps)
