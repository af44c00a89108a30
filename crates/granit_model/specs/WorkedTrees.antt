-- Trees of worked examples.
use Rattle.std.specs.Prelude.{ℕ, List, [], ◌∷◌, Some, None, codes}
use Rattle.granit_model.specs.Tree.{Properties, PlainTree, AliasOf, ScalarOf, SequenceOf, MappingOf, PlainTrees}
use Rattle.granit_model.specs.Tree.{NoTrees, AfterTrees, PlainPairs, NoPairs, AfterPairs}

abbrev scalar : List ℕ → PlainTree
scalar text = ScalarOf (record { tag = None; anchor = None }) text

abbrev sequence : PlainTrees → PlainTree
sequence entries = SequenceOf (record { tag = None; anchor = None }) entries

abbrev mapping : PlainPairs → PlainTree
mapping pairs = MappingOf (record { tag = None; anchor = None }) pairs

abbrev one : PlainTree → PlainTrees
one t = AfterTrees NoTrees t

abbrev pair : PlainTree → PlainTree → PlainPairs
pair k v = AfterPairs NoPairs k v

-- two pairs, the second of them of empty collections
abbrev pub pairs_tree : PlainTrees
pairs_tree = one (mapping (AfterPairs (pair (scalar (codes "a")) (scalar (codes "b"))) (sequence NoTrees)
    (mapping NoPairs)))

-- a character of each class: itself, a quote, a backslash, a control, and past U+007E, U+00FF and U+FFFF
abbrev pub classes_text : List ℕ
classes_text = 0x61 ∷ 0x22 ∷ 0x5C ∷ 0x07 ∷ 0x7F ∷ 0xE9 ∷ 0x20AC ∷ 0x1F600 ∷ 0x20 ∷ 0x7A ∷ []

-- that text, and keys that are collections
abbrev keys_tree : PlainTree
keys_tree =
    sequence (
    AfterTrees (
    AfterTrees (AfterTrees (one (scalar classes_text)) (sequence NoTrees))
    (mapping (pair (sequence (AfterTrees (one (scalar (codes "k"))) (scalar (0x0A ∷ []))))
    (mapping (pair (mapping NoPairs) (scalar [])))))
    )
    (mapping NoPairs)
    )

-- two documents
abbrev pub documents_tree : PlainTrees
documents_tree = AfterTrees (one keys_tree) (scalar (0x85 ∷ []))

-- a mapping with a tag and an anchor, which is the value of its own key
abbrev pub worked_tree : PlainTrees
worked_tree = one (MappingOf (record { tag = Some (codes "tag:x y"); anchor = Some (codes "n") })
    (pair (scalar (0xE9 ∷ [])) (AliasOf (codes "n"))))

-- a name that holds a colon and a character past U+007F
abbrev long_name : List ℕ
long_name = 0x62 ∷ 0x3A ∷ 0xE9 ∷ []

-- a tag of two, one and four bytes a character, most of which want their number
abbrev wide_tag : List ℕ
wide_tag = 0xE9 ∷ 0x5F ∷ 0x20 ∷ 0x25 ∷ 0x3A ∷ 0x2C ∷ 0x2E ∷ 0x2F ∷ 0x2D ∷ 0x1F600 ∷ []

-- aliases of their own collection and of the last anchor of a name, a key that is one, and a name that a second
-- document uses again
abbrev pub names_tree : PlainTrees
names_tree =
    AfterTrees
    (one (SequenceOf (record { tag = None; anchor = Some (codes "a") })
    (AfterTrees (AfterTrees (AfterTrees (one (AliasOf (codes "a")))
    (ScalarOf (record { tag = Some wide_tag; anchor = Some (codes "a") }) (codes "x"))) (AliasOf (codes "a")))
    (MappingOf (record { tag = None; anchor = Some long_name })
    (pair (AliasOf long_name) (SequenceOf (record { tag = Some (codes "!"); anchor = None }) NoTrees))))))
    (SequenceOf (record { tag = None; anchor = Some (codes "a") })
    (AfterTrees (AfterTrees (one (ScalarOf (record { tag = None; anchor = Some (codes "b") }) []))
    (AliasOf (codes "b"))) (AliasOf (codes "a"))))

-- the anchor `b` alone
abbrev named_b : Properties
named_b = record { tag = None; anchor = Some (codes "b") }

-- collections in an entry, a key and a value, some with properties, some empty; and a second document
abbrev pub nested_tree : PlainTrees
nested_tree =
    AfterTrees
    (one (sequence (AfterTrees (AfterTrees (one (scalar (codes "a")))
    (SequenceOf named_b (AfterTrees (one (SequenceOf named_b NoTrees)) (AliasOf (codes "b")))))
    (mapping (AfterPairs (pair (sequence (one (mapping NoPairs)))
    (MappingOf (record { tag = Some (codes "t"); anchor = None }) (pair (scalar []) (scalar (codes "c")))))
    (scalar (codes "d")) (sequence NoTrees))))))
    (SequenceOf (record { tag = Some (codes "t"); anchor = None }) NoTrees)
