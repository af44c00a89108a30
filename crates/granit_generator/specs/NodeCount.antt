-- How many nodes trees have: each tree at every depth, aliases, keys and values included.
use Rattle.std.specs.Prelude.{ℕ, ◌+◌}
use Rattle.granit_model.specs.Tree.{PlainTree, AliasOf, ScalarOf, SequenceOf, MappingOf, PlainTrees}
use Rattle.granit_model.specs.Tree.{NoTrees, AfterTrees, PlainPairs, NoPairs, AfterPairs}

abbrev mutual
  pub tree_nodes : PlainTree → ℕ
  tree_nodes (AliasOf name) = 1
  tree_nodes (ScalarOf p text) = 1
  tree_nodes (SequenceOf p entries) = trees_nodes entries + 1
  tree_nodes (MappingOf p pairs) = pairs_nodes pairs + 1

  pub trees_nodes : PlainTrees → ℕ
  trees_nodes NoTrees = 0
  trees_nodes (AfterTrees ts t) = trees_nodes ts + tree_nodes t

  pub pairs_nodes : PlainPairs → ℕ
  pairs_nodes NoPairs = 0
  pairs_nodes (AfterPairs ps k v) = pairs_nodes ps + (tree_nodes k + tree_nodes v)
