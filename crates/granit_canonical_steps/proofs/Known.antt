-- The anchors that trees name are known where they are read.
use Rattle.std.proofs.Common.{Bool, List, Option, [], ap, arith, false, refl, suc, true, zero, ℕ, ◌&&◌, ◌∙◌, ◌∷◌, ◌≡◌}
use Rattle.std.proofs.lemmas.Bool.Decides.{nat_tests}
use Rattle.std.specs.Prelude.{Contains, None, Some, if◌then◌else◌, nat_eq}
use lib.Pointwise.{pointwise}
use Rattle.granit_canonical_steps.specs.Canonical.{Anchors, past_anchor, past_pairs, past_tree, past_trees}
use Rattle.granit_language.specs.Scope.{entry_of}
use Rattle.granit_model.specs.Tree.{AfterPairs, AfterTrees, AliasOf, MappingOf, NoPairs, NoTrees, PlainPairs}
use Rattle.granit_model.specs.Tree.{PlainTree, PlainTrees, ScalarOf, SequenceOf, behind_pairs, behind_tree}
use Rattle.granit_model.specs.Tree.{behind_trees, with_anchor}

-- each of these names has its number
abbrev pub Knows : List (List ℕ) → Anchors → Type 0
Knows known a = (name : List ℕ) → Contains known name → (n : ℕ) × (entry_of name a.names ≡ Some n)

same_text : (name : List ℕ) → pointwise nat_eq name name ≡ true
same_text [] = refl
same_text (c ∷ cs) = both (nat_eq c c) (pointwise nat_eq cs cs) (same_number c) (same_text cs)
  where
    both : (a b : Bool) → a ≡ true → b ≡ true → (a && b) ≡ true
    both true b p q = q
    both false b p q = p

    same_number : (c : ℕ) → nat_eq c c ≡ true
    same_number c = grind (arith, nat_tests)

found_or : (v : Bool) (m : ℕ) (other : Option ℕ) → ((n : ℕ) × (other ≡ Some n))
    → (n : ℕ) × ((if v then Some m else other) ≡ Some n)
found_or true m other h = (m, refl)
found_or false m other h = h

found_now : (v : Bool) (m : ℕ) (other : Option ℕ) → v ≡ true → (n : ℕ) × ((if v then Some m else other) ≡ Some n)
found_now true m other e = (m, refl)
found_now false m other e = absurd cc

knows_one : (name : List ℕ) (known : List (List ℕ)) (a : Anchors) → Knows known a
    → Knows (name ∷ known) (past_anchor (Some name) a)
knows_one name known a h other (zero, d, l) =
    found_now (pointwise nat_eq other name) (suc a.count) (entry_of other a.names)
    (ap (λ (t : List ℕ). pointwise nat_eq other t) l ∙ same_text other)
knows_one name known a h other (suc k, d, l) =
    found_or (pointwise nat_eq other name) (suc a.count) (entry_of other a.names) (h other (k, omega (arith, d), l))

pub knows_anchor : (anchor : Option (List ℕ)) (known : List (List ℕ)) (a : Anchors) → Knows known a
    → Knows (with_anchor anchor known) (past_anchor anchor a)
knows_anchor None known a h = h
knows_anchor (Some name) known a h = knows_one name known a h

mutual
  pub knows_tree : (t : PlainTree) (known : List (List ℕ)) (a : Anchors) → Knows known a
      → Knows (behind_tree t known) (past_tree t a)
  knows_tree (AliasOf name) known a h = h
  knows_tree (ScalarOf p text) known a h = knows_anchor p.anchor known a h
  knows_tree (SequenceOf p entries) known a h =
      knows_trees entries (with_anchor p.anchor known) (past_anchor p.anchor a) (knows_anchor p.anchor known a h)
  knows_tree (MappingOf p pairs) known a h =
      knows_pairs pairs (with_anchor p.anchor known) (past_anchor p.anchor a) (knows_anchor p.anchor known a h)

  pub knows_trees : (ts : PlainTrees) (known : List (List ℕ)) (a : Anchors) → Knows known a
      → Knows (behind_trees ts known) (past_trees ts a)
  knows_trees NoTrees known a h = h
  knows_trees (AfterTrees ts t) known a h =
      knows_tree t (behind_trees ts known) (past_trees ts a) (knows_trees ts known a h)

  pub knows_pairs : (ps : PlainPairs) (known : List (List ℕ)) (a : Anchors) → Knows known a
      → Knows (behind_pairs ps known) (past_pairs ps a)
  knows_pairs NoPairs known a h = h
  knows_pairs (AfterPairs ps k v) known a h =
      knows_tree v (behind_tree k (behind_pairs ps known)) (past_tree k (past_pairs ps a))
      (knows_tree k (behind_pairs ps known) (past_pairs ps a) (knows_pairs ps known a h))

pub knows_none : (count : ℕ) → Knows [] (record { count = count; names = [] })
knows_none count name (k, d, l) = absurd (omega (arith, d))
