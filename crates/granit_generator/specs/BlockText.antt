-- The canonical block text of trees, character by character. Each function writes in front of a rest. Aliases, scalars
-- and empty collections stand in a line as in flow text; a collection with entries has each entry begin a line of its
-- own, in its column.
use Rattle.std.specs.Prelude.{ℕ, zero, suc, ◌+◌, List, [], ◌∷◌, ◌++◌, Option, Some, None, codes}
use Rattle.std.specs.Str.{encode_utf8_all}
use Rattle.granit_model.specs.Tree.{Properties, PlainTree, AliasOf, ScalarOf, SequenceOf, MappingOf, PlainTrees}
use Rattle.granit_model.specs.Tree.{NoTrees, AfterTrees, PlainPairs, NoPairs, AfterPairs}
use Rattle.granit_model.specs.FlowText.{tag_bytes, tree_text}

-- the spaces before a column (YAML 1.2.2, 6.1)
abbrev pub indent : (column : ℕ) → List ℕ → List ℕ
indent zero rest = rest
indent (suc n) rest = 0x20 ∷ indent n rest

-- a space and a verbatim tag (6.9.1)
abbrev pub spaced_tag : Option (List ℕ) → List ℕ → List ℕ
spaced_tag None rest = rest
spaced_tag (Some tag) rest = codes " !<" ++ tag_bytes (encode_utf8_all tag) (codes ">" ++ rest)

-- a space and an anchor (6.9.2)
abbrev pub spaced_anchor : Option (List ℕ) → List ℕ → List ℕ
spaced_anchor None rest = rest
spaced_anchor (Some name) rest = codes " &" ++ (name ++ rest)

-- properties each behind a space, the tag first
abbrev pub spaced_properties : Properties → List ℕ → List ℕ
spaced_properties p rest = spaced_tag p.tag (spaced_anchor p.anchor rest)

-- the rest of the line that a collection with entries begins on
abbrev pub header : Properties → List ℕ → List ℕ
header p rest = spaced_properties p (codes "\n" ++ rest)

-- a node on the line of what it stands behind
abbrev pub inline_text : PlainTree → List ℕ → List ℕ
inline_text t rest = codes " " ++ tree_text t (codes "\n" ++ rest)

-- What stands behind `---`, `-`, `?` or `:`: a node on that line, or its properties there and its entries below, each
-- in the column (8.2.1, 8.2.2). What an entry holds has its own entries two columns further right.
abbrev mutual
  pub block_node : (column : ℕ) → PlainTree → List ℕ → List ℕ
  block_node c (AliasOf name) rest = inline_text (AliasOf name) rest
  block_node c (ScalarOf p text) rest = inline_text (ScalarOf p text) rest
  block_node c (SequenceOf p NoTrees) rest = inline_text (SequenceOf p NoTrees) rest
  block_node c (SequenceOf p (AfterTrees ts t)) rest =
      header p (block_entries c (AfterTrees ts t) rest)
  block_node c (MappingOf p NoPairs) rest = inline_text (MappingOf p NoPairs) rest
  block_node c (MappingOf p (AfterPairs ps k v)) rest =
      header p (block_pairs c (AfterPairs ps k v) rest)

  -- each entry behind its `-`
  pub block_entries : (column : ℕ) → PlainTrees → List ℕ → List ℕ
  block_entries c NoTrees rest = rest
  block_entries c (AfterTrees ts t) rest =
      block_entries c ts (indent c (codes "-" ++ block_node (c + 2) t rest))

  -- each key behind its `?` and each value behind its `:`
  pub block_pairs : (column : ℕ) → PlainPairs → List ℕ → List ℕ
  block_pairs c NoPairs rest = rest
  block_pairs c (AfterPairs ps k v) rest = block_pairs c ps
      (indent c (codes "?" ++ block_node (c + 2) k (indent c (codes ":" ++ block_node (c + 2) v rest))))

abbrev pub block_pair : (column : ℕ) → (key value : PlainTree) → List ℕ → List ℕ
block_pair c k v rest = indent c (codes "?" ++ block_node (c + 2) k (indent c (codes ":" ++ block_node (c + 2) v rest)))

-- each document is `---` and its root, whose entries begin in column 0 (9.1.4)
abbrev pub block_documents : PlainTrees → List ℕ → List ℕ
block_documents NoTrees rest = rest
block_documents (AfterTrees ts t) rest = block_documents ts (codes "---" ++ block_node 0 t rest)

-- the canonical block text of documents by their roots
abbrev pub block_characters : PlainTrees → List ℕ
block_characters ts = block_documents ts []
