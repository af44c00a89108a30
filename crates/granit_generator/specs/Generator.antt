-- Trees that are made from two numbers: the one that the draws begin with, and how many documents there are.
use Rattle.std.specs.Prelude.{ℕ, zero, suc, ◌+◌, ◌*◌, ◌/◌, ◌%◌, ◌==◌, ◌&&◌, nat_lt, if◌then◌else◌, List, []}
use Rattle.std.specs.Prelude.{◌∷◌, ◌++◌, Some, None, codes}
use Rattle.std.specs.Fmt.{decimal}
use Rattle.granit_model.specs.Tree.{Properties, PlainTree, AliasOf, ScalarOf, SequenceOf, MappingOf, PlainTrees}
use Rattle.granit_model.specs.Tree.{NoTrees, AfterTrees, PlainPairs, NoPairs, AfterPairs}

-- what numbers are drawn from, and how many anchors the document has
pub record Draws : Type 0 where
  pub state : ℕ
  pub anchors : ℕ

-- what was made, and what later numbers are drawn from
pub record Made (A : Type 0) : Type 0 where
  pub value : A
  pub draws : Draws

abbrev pub made : {A : Type 0} → A → Draws → Made A
made a s = record { value = a; draws = s }

-- a number below a bound
unfoldable pub draw : (bound : ℕ) → Draws → Made ℕ
draw bound s =
    let x = (s.state * 1103515245 + 12345) % 2147483648 in
    made (x / 65536 % bound) (record { state = x; anchors = s.anchors })

-- the name of an anchor by its number in the document
abbrev pub anchor_name : ℕ → List ℕ
anchor_name n = codes "n" ++ decimal n

-- a node begins with its properties, unless it is an alias
pub data Beginning : Type 0 where
  AliasTo : (name : List ℕ) → Beginning
  NodeWith : Properties → Beginning

abbrev pub without_properties : Properties
without_properties = record { tag = None; anchor = None }

abbrev pub only_tagged : Properties
only_tagged = record { tag = Some (codes "t"); anchor = None }

-- an alias of one of the document's anchors
abbrev pub alias_begun : Draws → Made Beginning
alias_begun s = let m = draw s.anchors s in made (AliasTo (anchor_name (m.value + 1))) m.draws

abbrev pub anchored_begun : Draws → Made Beginning
anchored_begun s =
    let n = s.anchors + 1 in
    made (NodeWith (record { tag = None; anchor = Some (anchor_name n) })) (record { state = s.state; anchors = n })

-- what a number below 16 asks for
unfoldable pub beginning : (drawn : ℕ) → Draws → Made Beginning
beginning n s =
    if n == 0 && nat_lt 0 s.anchors then alias_begun s
    else if n == 1 then anchored_begun s
    else if n == 2 then made (NodeWith only_tagged) s
    else made (NodeWith without_properties) s

abbrev pub draw_beginning : Draws → Made Beginning
draw_beginning s = let m = draw 16 s in beginning m.value m.draws

-- a letter from `a` to `z`
abbrev pub letter : Draws → Made ℕ
letter s = let m = draw 26 s in made (m.value + 0x61) m.draws

abbrev pub letters : (count : ℕ) → Draws → Made (List ℕ)
letters zero s = made [] s
letters (suc n) s =
    let before = letters n s in
    let last = letter before.draws in
    made (before.value ++ last.value ∷ []) last.draws

abbrev pub draw_text : Draws → Made (List ℕ)
draw_text s = let count = draw 8 s in letters count.value count.draws

abbrev pub scalar_made : Properties → Draws → Made PlainTree
scalar_made p s = let m = draw_text s in made (ScalarOf p m.value) m.draws

-- entries, or pairs, each of whose nodes is made by a function
abbrev pub entries_made : (node : Draws → Made PlainTree) → (count : ℕ) → Draws → Made PlainTrees
entries_made node zero s = made NoTrees s
entries_made node (suc n) s =
    let before = entries_made node n s in
    let entry = node before.draws in
    made (AfterTrees before.value entry.value) entry.draws

abbrev pub pairs_made : (node : Draws → Made PlainTree) → (count : ℕ) → Draws → Made PlainPairs
pairs_made node zero s = made NoPairs s
pairs_made node (suc n) s =
    let before = pairs_made node n s in
    let key = node before.draws in
    let value = node key.draws in
    made (AfterPairs before.value key.value value.value) value.draws

abbrev pub sequence_made : (node : Draws → Made PlainTree) → Properties → Draws → Made PlainTree
sequence_made node p s =
    let count = draw 4 s in
    let entries = entries_made node count.value count.draws in
    made (SequenceOf p entries.value) entries.draws

abbrev pub mapping_made : (node : Draws → Made PlainTree) → Properties → Draws → Made PlainTree
mapping_made node p s =
    let count = draw 4 s in
    let pairs = pairs_made node count.value count.draws in
    made (MappingOf p pairs.value) pairs.draws

pub data Shape : Type 0 where
  IsScalar IsSequence IsMapping : Shape

-- the shape that a number below 8 stands for
abbrev pub shape : ℕ → Shape
shape n = if nat_lt n 4 then IsScalar else if nat_lt n 6 then IsSequence else IsMapping

abbrev pub shape_made : Shape → (node : Draws → Made PlainTree) → Properties → Draws → Made PlainTree
shape_made IsScalar node p s = scalar_made p s
shape_made IsSequence node p s = sequence_made node p s
shape_made IsMapping node p s = mapping_made node p s

-- what follows a node's beginning: nothing, or the content that a number below 8 asks for
abbrev pub drawn_node : (content : ℕ → Properties → Draws → Made PlainTree) → Beginning → Draws → Made PlainTree
drawn_node content (AliasTo name) s = made (AliasOf name) s
drawn_node content (NodeWith p) s = let m = draw 8 s in content m.value p m.draws

abbrev pub begun_node : (content : ℕ → Properties → Draws → Made PlainTree) → Draws → Made PlainTree
begun_node content s = let begun = draw_beginning s in drawn_node content begun.value begun.draws

-- content, and a node, at most so many collections deep
unfoldable pub content_made : (levels : ℕ) → (drawn : ℕ) → Properties → Draws → Made PlainTree
content_made zero n p s = scalar_made p s
content_made (suc l) n p s = shape_made (shape n) (begun_node (content_made l)) p s

abbrev pub content_drawn : (levels : ℕ) → Properties → Draws → Made PlainTree
content_drawn l p s = let m = draw 8 s in content_made l m.value p m.draws

abbrev pub node_made : (levels : ℕ) → Draws → Made PlainTree
node_made l s = begun_node (content_made l) s

abbrev pub no_anchors : Draws → Draws
no_anchors s = record { state = s.state; anchors = 0 }

-- documents, each at most six collections deep, none of which knows the anchors of another
abbrev pub documents_made : (count : ℕ) → Draws → Made PlainTrees
documents_made zero s = made NoTrees s
documents_made (suc n) s =
    let before = documents_made n s in
    let root = node_made 6 (no_anchors before.draws) in
    made (AfterTrees before.value root.value) root.draws

-- the generated trees
abbrev pub trees_made : (seed size : ℕ) → PlainTrees
trees_made seed size = (documents_made size (record { state = seed; anchors = 0 })).value
