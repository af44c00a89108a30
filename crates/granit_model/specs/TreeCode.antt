-- How a proof tells plain trees apart: a code that no two of them share.
use Rattle.std.specs.Prelude.{◌≡◌, ℕ, List, Option, refl}
use Rattle.std.specs.Coded.{Coded, code_by, coded×, coded_ℕ, coded_list, coded_option}
use Rattle.std.proofs.Common.{ap, arith}
use base.Stored.{Gv, gnum, gcons}
use Rattle.granit_model.specs.Tree.{Properties, PlainTree, AliasOf, ScalarOf, SequenceOf, MappingOf, PlainTrees}
use Rattle.granit_model.specs.Tree.{NoTrees, AfterTrees, PlainPairs, NoPairs, AfterPairs}

abbrev text_coded : Coded (List ℕ)
text_coded = coded_list coded_ℕ

abbrev properties_coded : Coded Properties
properties_coded =
    code_by (Option (List ℕ) × Option (List ℕ)) (coded× (coded_option text_coded) (coded_option text_coded))
    (λ p. (p.tag, p.anchor)) (λ q. record { tag = q.0; anchor = q.1 }) (λ _. refl)

abbrev mutual
  tree_code : PlainTree → Gv
  tree_code (AliasOf name) = gcons (gnum 0) (text_coded.code name)
  tree_code (ScalarOf p text) = gcons (gnum 1) (gcons (properties_coded.code p) (text_coded.code text))
  tree_code (SequenceOf p entries) = gcons (gnum 2) (gcons (properties_coded.code p) (trees_code entries))
  tree_code (MappingOf p pairs) = gcons (gnum 3) (gcons (properties_coded.code p) (pairs_code pairs))

  trees_code : PlainTrees → Gv
  trees_code NoTrees = gnum 0
  trees_code (AfterTrees ts t) = gcons (trees_code ts) (tree_code t)

  pairs_code : PlainPairs → Gv
  pairs_code NoPairs = gnum 0
  pairs_code (AfterPairs ps k v) = gcons (pairs_code ps) (gcons (tree_code k) (tree_code v))

abbrev left_half : Gv → Gv
left_half (gcons a b) = a
left_half g = g

abbrev right_half : Gv → Gv
right_half (gcons a b) = b
right_half g = g

-- of three parts the second, and the third
abbrev second : Gv → Gv
second g = left_half (right_half g)

abbrev third : Gv → Gv
third g = right_half (right_half g)

abbrev number : Gv → ℕ
number (gnum n) = n
number g = 0

abbrev parts : Gv → ℕ
parts (gcons a b) = 1
parts g = 0

mutual
  pub tree_same : (t u : PlainTree) → tree_code t ≡ tree_code u → t ≡ u
  tree_same (AliasOf n) (AliasOf m) e = ap AliasOf (text_coded.inj n m (ap right_half e))
  tree_same (ScalarOf p a) (ScalarOf q b) e = λ i. ScalarOf (properties_coded.inj p q (ap second e) i)
      (text_coded.inj a b (ap third e) i)
  tree_same (SequenceOf p a) (SequenceOf q b) e = λ i. SequenceOf
      (properties_coded.inj p q (ap second e) i) (trees_same a b (ap third e) i)
  tree_same (MappingOf p a) (MappingOf q b) e = λ i. MappingOf (properties_coded.inj p q (ap second e) i)
      (pairs_same a b (ap third e) i)
  tree_same t u e = absurd (omega (arith, ap (λ g. number (left_half g)) e))

  pub trees_same : (a b : PlainTrees) → trees_code a ≡ trees_code b → a ≡ b
  trees_same NoTrees NoTrees e = refl
  trees_same (AfterTrees a t) (AfterTrees b u) e = λ i. AfterTrees (trees_same a b (ap left_half e) i)
      (tree_same t u (ap right_half e) i)
  trees_same a b e = absurd (omega (arith, ap parts e))

  pub pairs_same : (a b : PlainPairs) → pairs_code a ≡ pairs_code b → a ≡ b
  pairs_same NoPairs NoPairs e = refl
  pairs_same (AfterPairs a k v) (AfterPairs b j w) e = λ i. AfterPairs (pairs_same a b (ap left_half e) i)
      (tree_same k j (ap second e) i) (tree_same v w (ap third e) i)
  pairs_same a b e = absurd (omega (arith, ap parts e))

abbrev pub trees_coded : Coded PlainTrees
trees_coded = record { code = trees_code; inj = trees_same }

abbrev pub pairs_coded : Coded PlainPairs
pairs_coded = record { code = pairs_code; inj = pairs_same }
