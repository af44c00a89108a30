-- One more tree at the end of a list.
use Rattle.std.proofs.Common.{◌≡◌, ℕ, ◌+◌, ◌<◌, List, [], ◌∷◌, ◌++◌, take, length, get_or, refl, sym, ap, ◌∙◌, ◌==◌}
use Rattle.std.proofs.Common.{arith}
use Rattle.std.proofs.lemmas.Bool.Decides.{nat_tests}
use Rattle.std.proofs.lemmas.List.{take_more}
use Rattle.granit_model.specs.declared.tree.Tree.{Tree}
use Rattle.granit_model.specs.Tree.{PlainTrees, NoTrees, AfterTrees, PlainPairs, NoPairs, AfterPairs, tree_count}
use Rattle.granit_model.specs.Tree.{pair_count, no_trees, no_pairs}
use Rattle.granit_model.specs.TreeView.{plain_tree, with_trees, with_pairs}

pub trees_push : (before : PlainTrees) (ts : List Tree) (t : Tree)
    → with_trees before (ts ++ t ∷ []) ≡ AfterTrees (with_trees before ts) (plain_tree t)
trees_push before [] t = refl
trees_push before (u ∷ ts) t = trees_push (AfterTrees before (plain_tree u)) ts t

pub pairs_push :
    (before : PlainPairs) (ps : List (Tree × Tree)) (p : Tree × Tree)
    → with_pairs before (ps ++ p ∷ []) ≡ AfterPairs (with_pairs before ps) (plain_tree p.0) (plain_tree p.1)
pairs_push before [] p = refl
pairs_push before (q ∷ ps) p = pairs_push (AfterPairs before (plain_tree q.0) (plain_tree q.1)) ps p

-- what a walk has passed, one tree later
pub trees_more :
    (ts : List Tree) (i : ℕ) (t : Tree) → i < length ts → t ≡ get_or ts i t
    → (get_or ts i t ≡ t) × (with_trees NoTrees (take (i + 1) ts)
    ≡ AfterTrees (with_trees NoTrees (take i ts)) (plain_tree t))
trees_more ts i t h is = (
  sym is,
  ap (with_trees NoTrees) (take_more ts i t h) ∙ trees_push NoTrees (take i ts) (get_or ts i t)
      ∙ ap (λ u. AfterTrees (with_trees NoTrees (take i ts)) (plain_tree u)) (sym is),
)

pub pairs_more :
    (ps : List (Tree × Tree)) (i : ℕ) (p : Tree × Tree) → i < length ps → p ≡ get_or ps i p
    → (get_or ps i p ≡ p) × (with_pairs NoPairs (take (i + 1) ps)
    ≡ AfterPairs (with_pairs NoPairs (take i ps)) (plain_tree p.0) (plain_tree p.1))
pairs_more ps i p h is = (
  sym is,
  ap (with_pairs NoPairs) (take_more ps i p h) ∙ pairs_push NoPairs (take i ps) (get_or ps i p)
      ∙ ap (λ (q : Tree × Tree). AfterPairs (with_pairs NoPairs (take i ps)) (plain_tree q.0) (plain_tree q.1))
      (sym is),
)

-- how many there are
pub trees_counted : (before : PlainTrees) (ts : List Tree)
    → tree_count (with_trees before ts) ≡ tree_count before + length ts
trees_counted before [] = omega arith
trees_counted before (t ∷ ts) = omega (arith, trees_counted (AfterTrees before (plain_tree t)) ts)

pub pairs_counted : (before : PlainPairs) (ps : List (Tree × Tree))
    → pair_count (with_pairs before ps) ≡ pair_count before + length ps
pairs_counted before [] = omega arith
pairs_counted before (p ∷ ps) = omega (arith, pairs_counted (AfterPairs before (plain_tree p.0) (plain_tree p.1)) ps)

pub trees_empty : (ts : PlainTrees) → no_trees ts ≡ (tree_count ts == 0)
trees_empty NoTrees = refl
trees_empty (AfterTrees ts t) = grind (arith, nat_tests)

pub pairs_empty : (ps : PlainPairs) → no_pairs ps ≡ (pair_count ps == 0)
pairs_empty NoPairs = refl
pairs_empty (AfterPairs ps k v) = grind (arith, nat_tests)
