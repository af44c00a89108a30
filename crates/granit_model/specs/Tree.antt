-- Trees as plain data: texts by their characters, lists that grow at the end. When they fit to be written, and how deep
-- they are.
use Rattle.std.specs.Prelude.{ℕ, Bool, true, false, ◌+◌, max, ◌≢◌, List, [], ◌∷◌, Option, Some, None, IfSome, Contains}
use Rattle.std.specs.List.{AllPass}
use Rattle.granit_base.specs.Classes.{is_anchor_char}

-- the tag of a node and the name of its anchor (YAML 1.2.2, 6.9)
pub record Properties : Type 0 where
  pub tag : Option (List ℕ)
  pub anchor : Option (List ℕ)

mutual
  -- a node, or an alias by its name (7.1)
  pub data PlainTree : Type 0 where
    AliasOf : (name : List ℕ) → PlainTree
    ScalarOf : Properties → (text : List ℕ) → PlainTree
    SequenceOf : Properties → PlainTrees → PlainTree
    MappingOf : Properties → PlainPairs → PlainTree

  -- trees in order: the entries of a sequence, or the roots of documents
  pub data PlainTrees : Type 0 where
    NoTrees : PlainTrees
    AfterTrees : PlainTrees → PlainTree → PlainTrees

  -- pairs of a key and a value in order
  pub data PlainPairs : Type 0 where
    NoPairs : PlainPairs
    AfterPairs : PlainPairs → (key value : PlainTree) → PlainPairs

-- how many trees, or pairs, stand in a list itself
abbrev pub tree_count : PlainTrees → ℕ
tree_count NoTrees = 0
tree_count (AfterTrees ts t) = tree_count ts + 1

abbrev pub pair_count : PlainPairs → ℕ
pair_count NoPairs = 0
pair_count (AfterPairs ps k v) = pair_count ps + 1

abbrev pub no_trees : PlainTrees → Bool
no_trees NoTrees = true
no_trees (AfterTrees ts t) = false

abbrev pub no_pairs : PlainPairs → Bool
no_pairs NoPairs = true
no_pairs (AfterPairs ps k v) = false

-- the greatest number of collections inside one another, and 0 where there is none
abbrev mutual
  pub tree_depth : PlainTree → ℕ
  tree_depth (AliasOf name) = 0
  tree_depth (ScalarOf p text) = 0
  tree_depth (SequenceOf p entries) = trees_depth entries + 1
  tree_depth (MappingOf p pairs) = pairs_depth pairs + 1

  pub trees_depth : PlainTrees → ℕ
  trees_depth NoTrees = 0
  trees_depth (AfterTrees ts t) = max (trees_depth ts) (tree_depth t)

  pub pairs_depth : PlainPairs → ℕ
  pairs_depth NoPairs = 0
  pairs_depth (AfterPairs ps k v) = max (pairs_depth ps) (max (tree_depth k) (tree_depth v))

-- names of anchors, and that of one more node, the newest first
abbrev pub with_anchor : Option (List ℕ) → List (List ℕ) → List (List ℕ)
with_anchor None known = known
with_anchor (Some name) known = name ∷ known

-- the anchors that stand before what follows a tree, from those that stand before the tree
abbrev mutual
  pub behind_tree : PlainTree → List (List ℕ) → List (List ℕ)
  behind_tree (AliasOf name) known = known
  behind_tree (ScalarOf p text) known = with_anchor p.anchor known
  behind_tree (SequenceOf p entries) known = behind_trees entries (with_anchor p.anchor known)
  behind_tree (MappingOf p pairs) known = behind_pairs pairs (with_anchor p.anchor known)

  pub behind_trees : PlainTrees → List (List ℕ) → List (List ℕ)
  behind_trees NoTrees known = known
  behind_trees (AfterTrees ts t) known = behind_tree t (behind_trees ts known)

  pub behind_pairs : PlainPairs → List (List ℕ) → List (List ℕ)
  behind_pairs NoPairs known = known
  behind_pairs (AfterPairs ps k v) known = behind_tree v (behind_tree k (behind_pairs ps known))

-- the name of an anchor: one or more anchor characters (6.9.2)
abbrev pub IsAnchorName : List ℕ → Type 0
IsAnchorName name = (name ≢ []) × AllPass is_anchor_char name

-- no tag is empty, and each anchor has a name
abbrev pub PropertiesFit : Properties → Type 0
PropertiesFit p = IfSome p.tag (λ tag. tag ≢ []) × IfSome p.anchor IsAnchorName

-- properties fit, and each alias names an anchor that stands before it; those before the tree are `known`, and a
-- collection's own stands before what is in it (7.1)
abbrev mutual
  pub TreeFits : PlainTree → (known : List (List ℕ)) → Type 0
  TreeFits (AliasOf name) known = Contains known name
  TreeFits (ScalarOf p text) known = PropertiesFit p
  TreeFits (SequenceOf p entries) known = PropertiesFit p × TreesFit entries (with_anchor p.anchor known)
  TreeFits (MappingOf p pairs) known = PropertiesFit p × PairsFit pairs (with_anchor p.anchor known)

  pub TreesFit : PlainTrees → (known : List (List ℕ)) → Type 0
  TreesFit NoTrees known = Unit {0}
  TreesFit (AfterTrees ts t) known = TreesFit ts known × TreeFits t (behind_trees ts known)

  pub PairsFit : PlainPairs → (known : List (List ℕ)) → Type 0
  PairsFit NoPairs known = Unit {0}
  PairsFit (AfterPairs ps k v) known = let here = behind_pairs ps known in PairsFit ps known × TreeFits k here
      × TreeFits v (behind_tree k here)

-- each tree is the root of a document, and no anchor stands before it (3.2.2.2)
abbrev pub DocumentsFit : PlainTrees → Type 0
DocumentsFit NoTrees = Unit {0}
DocumentsFit (AfterTrees ts t) = DocumentsFit ts × TreeFits t []
