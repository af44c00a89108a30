-- The plain tree that a tree of the code is, and the plain lists.
use Rattle.std.specs.Prelude.{List, [], ◌∷◌}
use Rattle.std.specs.Option.{option_map}
use Rattle.granit_model.specs.declared.tree.Props.{Props}
use Rattle.granit_model.specs.declared.tree.Tree.{Tree}
use Rattle.granit_model.specs.declared.tree.Tree.TheVariants.{Alias, Scalar, Sequence, Mapping}
use Rattle.granit_model.specs.Tree.{Properties, PlainTree, AliasOf, ScalarOf, SequenceOf, MappingOf, PlainTrees}
use Rattle.granit_model.specs.Tree.{AfterTrees, PlainPairs, AfterPairs}

abbrev pub properties_of : Props → Properties
properties_of p = record {
  tag = option_map (λ t. t.characters) p.tag;
  anchor = option_map (λ t. t.characters) p.anchor;
}

abbrev pub plain_tree : Tree → PlainTree
plain_tree (Alias name) = AliasOf name.characters
plain_tree (Scalar p text) = ScalarOf (properties_of p) text.characters
plain_tree (Sequence p entries) = SequenceOf (properties_of p) entries
plain_tree (Mapping p pairs) = MappingOf (properties_of p) pairs

-- trees behind others
abbrev pub with_trees : PlainTrees → List Tree → PlainTrees
with_trees before [] = before
with_trees before (t ∷ ts) = with_trees (AfterTrees before (plain_tree t)) ts

-- pairs behind others
abbrev pub with_pairs : PlainPairs → List (Tree × Tree) → PlainPairs
with_pairs before [] = before
with_pairs before (p ∷ ps) = with_pairs (AfterPairs before (plain_tree p.0) (plain_tree p.1)) ps
