-- What one write after another appends, and how deep what stands in a list is.
use Rattle.std.proofs.Common.{◌≡◌, ℕ, zero, suc, ◌+◌, ◌<◌, ◌≤◌, max, List, [], ◌∷◌, length, get_or, refl, ap, ◌∙◌}
use Rattle.std.proofs.Common.{subst, sym, arith}
use Rattle.granit_model.specs.declared.tree.Tree.{Tree}
use Rattle.granit_model.specs.Tree.{PlainTrees, NoTrees, AfterTrees, PlainPairs, NoPairs, AfterPairs, tree_depth}
use Rattle.granit_model.specs.Tree.{trees_depth, pairs_depth}
use Rattle.granit_model.specs.TreeView.{plain_tree, with_trees, with_pairs}
use Rattle.granit_generator.specs.BlockText.{indent}

indent_suc : (n : ℕ) (rest : List ℕ) → indent n (0x20 ∷ rest) ≡ indent (suc n) rest
indent_suc zero rest = refl
indent_suc (suc n) rest = ap (λ (cs : List ℕ). 0x20 ∷ cs) (indent_suc n rest)

-- one more space
pub indent_more : (n : ℕ) (rest : List ℕ) → indent n (0x20 ∷ rest) ≡ indent (n + 1) rest
indent_more n rest = let e : suc n ≡ n + 1 = omega arith in indent_suc n rest ∙ ap (λ k. indent k rest) e

trees_grow : (before : PlainTrees) (ts : List Tree) → trees_depth before ≤ trees_depth (with_trees before ts)
trees_grow before [] = omega arith
trees_grow before (t ∷ ts) = omega (arith, trees_grow (AfterTrees before (plain_tree t)) ts)

tree_within : (before : PlainTrees) (ts : List Tree) (i : ℕ) (t : Tree) → i < length ts → t ≡ get_or ts i t
    → tree_depth (plain_tree t) ≤ trees_depth (with_trees before ts)
tree_within before [] i t h is = absurd (omega (arith, h))
tree_within before (u ∷ ts) zero t h is =
    omega (arith, ap (λ v. tree_depth (plain_tree v)) is, trees_grow (AfterTrees before (plain_tree u)) ts)
tree_within before (u ∷ ts) (suc i) t h is = tree_within (AfterTrees before (plain_tree u)) ts i t (omega (arith, h)) is

-- a tree in a list is no deeper than the list
pub tree_in_list : (ts : List Tree) (i : ℕ) (t : Tree) → i < length ts → t ≡ get_or ts i t
    → tree_depth (plain_tree t) ≤ trees_depth (with_trees NoTrees ts)
tree_in_list ts i t h is = tree_within NoTrees ts i t h is

pairs_grow : (before : PlainPairs) (ps : List (Tree × Tree)) → pairs_depth before ≤ pairs_depth (with_pairs before ps)
pairs_grow before [] = omega arith
pairs_grow before (p ∷ ps) = omega (arith, pairs_grow (AfterPairs before (plain_tree p.0) (plain_tree p.1)) ps)

pair_within :
    (before : PlainPairs) (ps : List (Tree × Tree)) (i : ℕ) (p : Tree × Tree) → i < length ps → p ≡ get_or ps i p
    → max (tree_depth (plain_tree p.0)) (tree_depth (plain_tree p.1)) ≤ pairs_depth (with_pairs before ps)
pair_within before [] i p h is = absurd (omega (arith, h))
pair_within before (q ∷ ps) zero p h is =
    omega (
      arith,
      ap (λ (v : Tree × Tree). max (tree_depth (plain_tree v.0)) (tree_depth (plain_tree v.1))) is,
      pairs_grow (AfterPairs before (plain_tree q.0) (plain_tree q.1)) ps,
    )
pair_within before (q ∷ ps) (suc i) p h is =
    pair_within (AfterPairs before (plain_tree q.0) (plain_tree q.1)) ps i p (omega (arith, h)) is

-- and so is a pair
pub pair_in_list :
    (ps : List (Tree × Tree)) (i : ℕ) (p : Tree × Tree) → i < length ps → p ≡ get_or ps i p
    → max (tree_depth (plain_tree p.0)) (tree_depth (plain_tree p.1)) ≤ pairs_depth (with_pairs NoPairs ps)
pair_in_list ps i p h is = pair_within NoPairs ps i p h is
