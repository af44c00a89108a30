-- The numbers of generated trees.
use Rattle.std.specs.Prelude.{ℕ, List, ◌++◌, length, codes}
use Rattle.std.specs.Fmt.{decimal}
use Rattle.std.specs.Str.{encode_utf8_all}
use Rattle.granit_canonical_steps.specs.Canonical.{canonical_events}
use Rattle.granit_error.specs.OptionsData.{default_options}
use Rattle.granit_generator.specs.Generator.{trees_made}
use Rattle.granit_generator.specs.NodeCount.{trees_nodes}
use Rattle.granit_model.specs.FlowText.{flow_characters}
use Rattle.granit_model.specs.Tree.{PlainTrees}

-- how many bytes the canonical flow text of trees has in UTF-8
abbrev pub flow_byte_count : PlainTrees → ℕ
flow_byte_count ts = length (encode_utf8_all (flow_characters ts))

-- how many events it is read as under the default options
abbrev pub text_events : PlainTrees → ℕ
text_events ts = length (canonical_events default_options ts)

-- the line of the numbers of trees
abbrev pub trees_line : (documents : ℕ) → PlainTrees → List ℕ
trees_line documents ts = codes "documents " ++ decimal documents ++ codes " nodes " ++ decimal (trees_nodes ts)
    ++ codes " bytes " ++ decimal (flow_byte_count ts) ++ codes " events " ++ decimal (text_events ts) ++ codes "\n"

-- the line of so many trees that are made from a number
unfoldable pub selftest_line : (seed size : ℕ) → List ℕ
selftest_line seed size = trees_line size (trees_made seed size)
