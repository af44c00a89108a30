-- Trees that fit and are of characters can be spelled: what each node of theirs asks for, without scope.
use Rattle.std.proofs.Common.{List, Option, [], arith, subst, suc, zero, ℕ, ◌∷◌}
use Rattle.std.specs.List.{All}
use Rattle.std.specs.Prelude.{IfSome, None, Some}
use Rattle.granit_model.specs.Characters.{AreCharacters, HasCharacters, PairsHaveCharacters, PropertiesHaveCharacters}
use Rattle.granit_model.specs.Characters.{TreeHasCharacters}
use Rattle.granit_model.specs.Tree.{AfterPairs, AfterTrees, AliasOf, DocumentsFit, IsAnchorName, MappingOf, NoPairs}
use Rattle.granit_model.specs.Tree.{NoTrees, PairsFit, PlainPairs, PlainTree, PlainTrees, Properties, PropertiesFit}
use Rattle.granit_model.specs.Tree.{ScalarOf, SequenceOf, TreeFits, TreesFit, behind_pairs, behind_tree, behind_trees}
use Rattle.granit_model.specs.Tree.{with_anchor}

-- tags and names that can be written
abbrev pub CanStand : Properties → Type 0
CanStand p = PropertiesFit p × PropertiesHaveCharacters p

-- a tree, trees, pairs that can be spelled
abbrev mutual
  pub CanSpell : PlainTree → Type 0
  CanSpell (AliasOf name) = IsAnchorName name × AreCharacters name
  CanSpell (ScalarOf p text) = CanStand p × AreCharacters text
  CanSpell (SequenceOf p entries) = CanStand p × CanSpellTrees entries
  CanSpell (MappingOf p pairs) = CanStand p × CanSpellPairs pairs

  pub CanSpellTrees : PlainTrees → Type 0
  CanSpellTrees NoTrees = Unit {0}
  CanSpellTrees (AfterTrees ts t) = CanSpellTrees ts × CanSpell t

  pub CanSpellPairs : PlainPairs → Type 0
  CanSpellPairs NoPairs = Unit {0}
  CanSpellPairs (AfterPairs ps k v) = CanSpellPairs ps × CanSpell k × CanSpell v

-- names that are known are names of anchors
abbrev AreNames : List (List ℕ) → Type 0
AreNames known = All IsAnchorName known

none_named : AreNames []
none_named k d l = absurd (omega arith)

one_more : (name : List ℕ) (known : List (List ℕ)) → IsAnchorName name → AreNames known → AreNames (name ∷ known)
one_more name known h n zero d l = h
one_more name known h n (suc k) d l = n k d (omega arith)

more_named : (anchor : Option (List ℕ)) (known : List (List ℕ)) → IfSome anchor IsAnchorName → AreNames known
    → AreNames (with_anchor anchor known)
more_named None known h n = n
more_named (Some name) known h n = one_more name known h n

mutual
  tree_spells : (t : PlainTree) (known : List (List ℕ)) → AreNames known → TreeFits t known → TreeHasCharacters t
      → CanSpell t × AreNames (behind_tree t known)
  tree_spells (AliasOf name) known n h c = ((subst IsAnchorName h.2 (n h.0 name h.1), c), n)
  tree_spells (ScalarOf p text) known n h c = (((h, c.0), c.1), more_named p.anchor known h.1 n)
  tree_spells (SequenceOf p entries) known n h c =
      let inner = trees_spell entries (with_anchor p.anchor known) (more_named p.anchor known h.0.1 n) h.1 c.1 in
      (((h.0, c.0), inner.0), inner.1)
  tree_spells (MappingOf p pairs) known n h c =
      let inner = pairs_spell pairs (with_anchor p.anchor known) (more_named p.anchor known h.0.1 n) h.1 c.1 in
      (((h.0, c.0), inner.0), inner.1)

  trees_spell : (ts : PlainTrees) (known : List (List ℕ)) → AreNames known → TreesFit ts known → HasCharacters ts
      → CanSpellTrees ts × AreNames (behind_trees ts known)
  trees_spell NoTrees known n h c = (tt, n)
  trees_spell (AfterTrees ts t) known n h c =
      let front = trees_spell ts known n h.0 c.0 in
      let last = tree_spells t (behind_trees ts known) front.1 h.1 c.1 in
      ((front.0, last.0), last.1)

  pairs_spell : (ps : PlainPairs) (known : List (List ℕ)) → AreNames known → PairsFit ps known → PairsHaveCharacters ps
      → CanSpellPairs ps × AreNames (behind_pairs ps known)
  pairs_spell NoPairs known n h c = (tt, n)
  pairs_spell (AfterPairs ps k v) known n h c =
      let front = pairs_spell ps known n h.0 c.0 in
      let key = tree_spells k (behind_pairs ps known) front.1 h.1 c.1 in
      let value = tree_spells v (behind_tree k (behind_pairs ps known)) key.1 h.2 c.2 in
      ((front.0, key.0, value.0), value.1)

-- documents that fit and are of characters can be spelled
pub documents_spell : (ts : PlainTrees) → DocumentsFit ts → HasCharacters ts → CanSpellTrees ts
documents_spell NoTrees h c = tt
documents_spell (AfterTrees ts t) h c = (documents_spell ts h.0 c.0, (tree_spells t [] none_named h.1 c.1).0)
