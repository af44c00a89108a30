-- The plain beginning that a beginning of the code is.
use Rattle.granit_generator.specs.declared.generator.Beginning.{Beginning}
use Rattle.granit_generator.specs.declared.generator.Beginning.TheVariants.{Alias, Node}
use Rattle.granit_generator.specs.Generator as plain
use Rattle.granit_generator.specs.Generator.{AliasTo, NodeWith}
use Rattle.granit_model.specs.TreeView.{properties_of}

abbrev pub plain_beginning : Beginning → plain.Beginning
plain_beginning (Alias name) = AliasTo name.characters
plain_beginning (Node props) = NodeWith (properties_of props)
