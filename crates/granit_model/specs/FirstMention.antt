-- How fitting is tested with no memory: each alias's name must be mentioned first, in its document, by an anchor.
use Rattle.std.specs.Prelude.{ℕ, Bool, true, false, not, ◌&&◌, ◌==◌, List, length, Option, Some, None}
use Rattle.std.specs.List.{list_all}
use Rattle.granit_base.specs.Classes.{is_anchor_char}
use Rattle.granit_base.specs.Written.{same_text}
use Rattle.granit_model.specs.declared.fitting.Mention.{Mention}
use Rattle.granit_model.specs.declared.fitting.Mention.TheVariants.{Anchor, Alias}
use Rattle.granit_model.specs.Tree.{Properties, PlainTree, AliasOf, ScalarOf, SequenceOf, MappingOf, PlainTrees}
use Rattle.granit_model.specs.Tree.{NoTrees, AfterTrees, PlainPairs, NoPairs, AfterPairs}

-- the first of two mentions
abbrev pub or_else : Option Mention → Option Mention → Option Mention
or_else None m = m
or_else (Some first) m = Some first

abbrev pub mention_as : Mention → Bool → Option Mention
mention_as m true = Some m
mention_as m false = None

abbrev pub anchor_mention : List ℕ → Option (List ℕ) → Option Mention
anchor_mention name None = None
anchor_mention name (Some anchor) = mention_as Anchor (same_text anchor name)

-- the first mention of a name in a tree
abbrev mutual
  pub mention_in_tree : List ℕ → PlainTree → Option Mention
  mention_in_tree name (AliasOf n) = mention_as Alias (same_text n name)
  mention_in_tree name (ScalarOf p text) = anchor_mention name p.anchor
  mention_in_tree name (SequenceOf p entries) = or_else (anchor_mention name p.anchor) (mention_in_trees name entries)
  mention_in_tree name (MappingOf p pairs) = or_else (anchor_mention name p.anchor) (mention_in_pairs name pairs)

  pub mention_in_trees : List ℕ → PlainTrees → Option Mention
  mention_in_trees name NoTrees = None
  mention_in_trees name (AfterTrees ts t) = or_else (mention_in_trees name ts) (mention_in_tree name t)

  pub mention_in_pairs : List ℕ → PlainPairs → Option Mention
  mention_in_pairs name NoPairs = None
  mention_in_pairs name (AfterPairs ps k v) = or_else (mention_in_pairs name ps)
      (or_else (mention_in_tree name k) (mention_in_tree name v))

abbrev pub by_anchor : Option Mention → Bool
by_anchor None = false
by_anchor (Some Anchor) = true
by_anchor (Some Alias) = false

abbrev pub is_anchor_name : List ℕ → Bool
is_anchor_name name = not (length name == 0) && list_all is_anchor_char name

abbrev pub tag_fits : Option (List ℕ) → Bool
tag_fits None = true
tag_fits (Some tag) = not (length tag == 0)

abbrev pub anchor_fits : Option (List ℕ) → Bool
anchor_fits None = true
anchor_fits (Some name) = is_anchor_name name

abbrev pub properties_fit : Properties → Bool
properties_fit p = tag_fits p.tag && anchor_fits p.anchor

-- whether all in a part of the document with this root fits
abbrev mutual
  pub tree_fits : PlainTree → (root : PlainTree) → Bool
  tree_fits (AliasOf name) root = by_anchor (mention_in_tree name root)
  tree_fits (ScalarOf p text) root = properties_fit p
  tree_fits (SequenceOf p entries) root = properties_fit p && trees_fit entries root
  tree_fits (MappingOf p pairs) root = properties_fit p && pairs_fit pairs root

  pub trees_fit : PlainTrees → (root : PlainTree) → Bool
  trees_fit NoTrees root = true
  trees_fit (AfterTrees ts t) root = trees_fit ts root && tree_fits t root

  pub pairs_fit : PlainPairs → (root : PlainTree) → Bool
  pairs_fit NoPairs root = true
  pairs_fit (AfterPairs ps k v) root = pairs_fit ps root && (tree_fits k root && tree_fits v root)

abbrev pub documents_fit : PlainTrees → Bool
documents_fit NoTrees = true
documents_fit (AfterTrees ts t) = documents_fit ts && tree_fits t t
