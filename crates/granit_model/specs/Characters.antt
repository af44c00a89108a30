-- Trees whose texts are of characters, so that they can stand in UTF-8.
use Rattle.std.specs.Prelude.{◌≡◌, ℕ, true, List, IfSome}
use lib.Utf8.{scalars}
use Rattle.granit_model.specs.Tree.{Properties, PlainTree, AliasOf, ScalarOf, SequenceOf, MappingOf}
use Rattle.granit_model.specs.Tree.{PlainTrees, NoTrees, AfterTrees, PlainPairs, NoPairs, AfterPairs}

-- characters: each code point is a Unicode scalar value
abbrev pub AreCharacters : List ℕ → Type 0
AreCharacters text = scalars text ≡ true

abbrev pub PropertiesHaveCharacters : Properties → Type 0
PropertiesHaveCharacters p = IfSome p.tag AreCharacters × IfSome p.anchor AreCharacters

-- each text, tag and name in a tree, in trees, in pairs is of characters
abbrev mutual
  pub TreeHasCharacters : PlainTree → Type 0
  TreeHasCharacters (AliasOf name) = AreCharacters name
  TreeHasCharacters (ScalarOf p text) = PropertiesHaveCharacters p × AreCharacters text
  TreeHasCharacters (SequenceOf p entries) = PropertiesHaveCharacters p × HasCharacters entries
  TreeHasCharacters (MappingOf p pairs) = PropertiesHaveCharacters p × PairsHaveCharacters pairs

  pub HasCharacters : PlainTrees → Type 0
  HasCharacters NoTrees = Unit {0}
  HasCharacters (AfterTrees ts t) = HasCharacters ts × TreeHasCharacters t

  pub PairsHaveCharacters : PlainPairs → Type 0
  PairsHaveCharacters NoPairs = Unit {0}
  PairsHaveCharacters (AfterPairs ps k v) = PairsHaveCharacters ps × TreeHasCharacters k × TreeHasCharacters v
