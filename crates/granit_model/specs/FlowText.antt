-- The canonical flow text of trees, character by character. Each function writes in front of a rest.
use Rattle.std.specs.Prelude.{◌≡◌, ℕ, ◌+◌, ◌/◌, ◌%◌, Bool, true, false, ◌==◌, ◌||◌, nat_lt, nat_le, if◌then◌else◌, List}
use Rattle.std.specs.Prelude.{[], ◌∷◌, ◌++◌, Option, Some, None, String, codes}
use Rattle.std.specs.Str.{encode_utf8_all}
use Rattle.std.specs.declared.alloc.Global.{Global}
use Rattle.granit_base.specs.Classes.{is_within, is_word_char}
use Rattle.granit_base.specs.Written.{string_chars}
use Rattle.granit_model.specs.Tree.{Properties, PlainTree, AliasOf, ScalarOf, SequenceOf, MappingOf, PlainTrees}
use Rattle.granit_model.specs.Tree.{NoTrees, AfterTrees, PlainPairs, NoPairs, AfterPairs, no_trees, no_pairs}

-- the hexadecimal digit of a number below 16, upper case
unfoldable pub upper_digit : ℕ → ℕ
upper_digit d = if nat_lt d 10 then d + 0x30 else d + 0x37

-- two, four and eight hexadecimal digits of a number
abbrev pub two_digits : ℕ → List ℕ → List ℕ
two_digits n rest = upper_digit (n / 16) ∷ upper_digit (n % 16) ∷ rest

abbrev pub four_digits : ℕ → List ℕ → List ℕ
four_digits n rest = two_digits (n / 0x100) (two_digits (n % 0x100) rest)

abbrev pub eight_digits : ℕ → List ℕ → List ℕ
eight_digits n rest = four_digits (n / 0x10000) (four_digits (n % 0x10000) rest)

-- a byte of a tag: word characters, `:`, `,`, `.` and `/` as they stand, others by their number (YAML 1.2.2, 5.6)
unfoldable pub tag_byte : ℕ → List ℕ → List ℕ
tag_byte b rest =
    if is_word_char b || ((b == 0x3A || b == 0x2C) || (b == 0x2E || b == 0x2F)) then b ∷ rest
    else 0x25 ∷ two_digits b rest

abbrev pub tag_bytes : List ℕ → List ℕ → List ℕ
tag_bytes [] rest = rest
tag_bytes (b ∷ bs) rest = tag_byte b (tag_bytes bs rest)

-- a character between double quotes (5.7, 7.3.1)
unfoldable pub quoted_character : ℕ → List ℕ → List ℕ
quoted_character c rest =
    if c == 0x22 || c == 0x5C then 0x5C ∷ c ∷ rest
    else if is_within 0x20 0x7E c then c ∷ rest
    else if nat_le c 0xFF then codes "\\x" ++ two_digits c rest
    else if nat_le c 0xFFFF then codes "\\u" ++ four_digits c rest
    else codes "\\U" ++ eight_digits c rest

abbrev pub quoted_characters : List ℕ → List ℕ → List ℕ
quoted_characters [] rest = rest
quoted_characters (c ∷ cs) rest = quoted_character c (quoted_characters cs rest)

-- a verbatim tag and a space (6.9.1)
abbrev pub tag_text : Option (List ℕ) → List ℕ → List ℕ
tag_text None rest = rest
tag_text (Some tag) rest = codes "!<" ++ tag_bytes (encode_utf8_all tag) (codes "> " ++ rest)

-- an anchor and a space (6.9.2)
abbrev pub anchor_text : Option (List ℕ) → List ℕ → List ℕ
anchor_text None rest = rest
anchor_text (Some name) rest = codes "&" ++ (name ++ codes " " ++ rest)

-- properties stand before the node, the tag first
abbrev pub properties_text : Properties → List ℕ → List ℕ
properties_text p rest = tag_text p.tag (anchor_text p.anchor rest)

-- what parts an entry from those before it, where there are such
abbrev pub comma_unless : (first : Bool) → List ℕ → List ℕ
comma_unless true rest = rest
comma_unless false rest = codes ", " ++ rest

-- an alias (7.1), a double-quoted scalar (7.3.1), a flow sequence (7.4.1) or a flow mapping (7.4.2)
abbrev mutual
  pub tree_text : PlainTree → List ℕ → List ℕ
  tree_text (AliasOf name) rest = codes "*" ++ (name ++ rest)
  tree_text (ScalarOf p text) rest = properties_text p (codes "\"" ++ quoted_characters text (codes "\"" ++ rest))
  tree_text (SequenceOf p entries) rest = properties_text p (codes "[" ++ entries_text entries (codes "]" ++ rest))
  tree_text (MappingOf p pairs) rest = properties_text p (codes "{" ++ pairs_text pairs (codes "}" ++ rest))

  -- entries joined by `, `
  pub entries_text : PlainTrees → List ℕ → List ℕ
  entries_text NoTrees rest = rest
  entries_text (AfterTrees ts t) rest = entries_text ts (comma_unless (no_trees ts) (tree_text t rest))

  -- pairs joined by `, `, each with its `?` and `:`
  pub pairs_text : PlainPairs → List ℕ → List ℕ
  pairs_text NoPairs rest = rest
  pairs_text (AfterPairs ps k v) rest = pairs_text ps
      (comma_unless (no_pairs ps) (codes "? " ++ tree_text k (codes " : " ++ tree_text v rest)))

abbrev pub pair_text : (key value : PlainTree) → List ℕ → List ℕ
pair_text k v rest = codes "? " ++ tree_text k (codes " : " ++ tree_text v rest)

-- each document is `---`, a space, its root and a line feed (9.1.4)
abbrev pub documents_text : PlainTrees → List ℕ → List ℕ
documents_text NoTrees rest = rest
documents_text (AfterTrees ts t) rest = documents_text ts (codes "--- " ++ tree_text t (codes "\n" ++ rest))

-- the canonical flow text of documents by their roots
abbrev pub flow_characters : PlainTrees → List ℕ
flow_characters ts = documents_text ts []

-- a `String` grew by what such a function writes
abbrev pub Appends : String Global → String Global → (List ℕ → List ℕ) → Type 0
Appends old new write = (rest : List ℕ) → string_chars new ++ rest ≡ string_chars old ++ write rest
