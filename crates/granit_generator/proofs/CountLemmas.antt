-- What a walk has counted, and what it counts next, is no more than all of it.
use Rattle.std.proofs.Common.{◌≡◌, ℕ, zero, suc, ◌+◌, ◌<◌, ◌≤◌, List, [], ◌∷◌, take, length, get_or, ap, max, arith}
use Rattle.granit_model.specs.declared.tree.Tree.{Tree}
use Rattle.granit_model.specs.Tree.{PlainTrees, NoTrees, AfterTrees, PlainPairs, NoPairs, AfterPairs}
use Rattle.granit_model.specs.Tree.{tree_depth, trees_depth, pairs_depth}
use Rattle.granit_model.specs.TreeView.{plain_tree, with_trees, with_pairs}
use Rattle.granit_model.proofs.TreeLemmas.{trees_more, pairs_more}
use Rattle.granit_generator.specs.NodeCount.{tree_nodes, trees_nodes, pairs_nodes}
use Rattle.granit_generator.proofs.BlockLemmas.{tree_in_list, pair_in_list}

trees_grow : (before : PlainTrees) (ts : List Tree) → trees_nodes before ≤ trees_nodes (with_trees before ts)
trees_grow before [] = omega arith
trees_grow before (t ∷ ts) = omega (arith, trees_grow (AfterTrees before (plain_tree t)) ts)

trees_within :
    (before : PlainTrees) (ts : List Tree) (i : ℕ) (t : Tree) → i < length ts → t ≡ get_or ts i t
    → trees_nodes (with_trees before (take i ts)) + tree_nodes (plain_tree t) ≤ trees_nodes (with_trees before ts)
trees_within before [] i t h is = absurd (omega (arith, h))
trees_within before (u ∷ ts) zero t h is =
    omega (arith, ap (λ v. tree_nodes (plain_tree v)) is, trees_grow (AfterTrees before (plain_tree u)) ts)
trees_within before (u ∷ ts) (suc i) t h is =
    trees_within (AfterTrees before (plain_tree u)) ts i t (omega (arith, h)) is

-- a walk passes a tree: what it has passed then, how much was counted, and how deep the tree is at most
pub tree_passed :
    (ts : List Tree) (i : ℕ) (t : Tree) → i < length ts → t ≡ get_or ts i t
    → (get_or ts i t ≡ t)
    × (with_trees NoTrees (take (i + 1) ts) ≡ AfterTrees (with_trees NoTrees (take i ts)) (plain_tree t))
    × (trees_nodes (with_trees NoTrees (take i ts)) + tree_nodes (plain_tree t) ≤ trees_nodes (with_trees NoTrees ts))
    × (tree_depth (plain_tree t) ≤ trees_depth (with_trees NoTrees ts))
tree_passed ts i t h is =
    let more = trees_more ts i t h is in
    (more.0, more.1, trees_within NoTrees ts i t h is, tree_in_list ts i t h is)

pairs_grow : (before : PlainPairs) (ps : List (Tree × Tree)) → pairs_nodes before ≤ pairs_nodes (with_pairs before ps)
pairs_grow before [] = omega arith
pairs_grow before (p ∷ ps) = omega (arith, pairs_grow (AfterPairs before (plain_tree p.0) (plain_tree p.1)) ps)

pairs_within :
    (before : PlainPairs) (ps : List (Tree × Tree)) (i : ℕ) (p : Tree × Tree) → i < length ps → p ≡ get_or ps i p
    → pairs_nodes (with_pairs before (take i ps)) + (tree_nodes (plain_tree p.0) + tree_nodes (plain_tree p.1))
    ≤ pairs_nodes (with_pairs before ps)
pairs_within before [] i p h is = absurd (omega (arith, h))
pairs_within before (q ∷ ps) zero p h is =
    omega (
      arith,
      ap (λ (v : Tree × Tree). tree_nodes (plain_tree v.0) + tree_nodes (plain_tree v.1)) is,
      pairs_grow (AfterPairs before (plain_tree q.0) (plain_tree q.1)) ps,
    )
pairs_within before (q ∷ ps) (suc i) p h is =
    pairs_within (AfterPairs before (plain_tree q.0) (plain_tree q.1)) ps i p (omega (arith, h)) is

pub pair_passed :
    (ps : List (Tree × Tree)) (i : ℕ) (p : Tree × Tree) → i < length ps → p ≡ get_or ps i p
    → (get_or ps i p ≡ p)
    × (with_pairs NoPairs (take (i + 1) ps)
    ≡ AfterPairs (with_pairs NoPairs (take i ps)) (plain_tree p.0) (plain_tree p.1))
    × (pairs_nodes (with_pairs NoPairs (take i ps)) + (tree_nodes (plain_tree p.0) + tree_nodes (plain_tree p.1))
    ≤ pairs_nodes (with_pairs NoPairs ps))
    × (max (tree_depth (plain_tree p.0)) (tree_depth (plain_tree p.1)) ≤ pairs_depth (with_pairs NoPairs ps))
pair_passed ps i p h is =
    let more = pairs_more ps i p h is in
    (more.0, more.1, pairs_within NoPairs ps i p h is, pair_in_list ps i p h is)
