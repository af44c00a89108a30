-- The events of canonical flow text, each where its text stands in the whole. What is written before a rest begins
-- where that text is left.
use Rattle.std.specs.Prelude.{Bool, List, None, Option, Some, [], length, not, suc, true, ℕ, ◌&&◌, ◌-◌, ◌==◌, ◌||◌}
use Rattle.std.specs.Prelude.{◌∷◌}
use Rattle.std.specs.List.{list_all}
use Rattle.granit_base.specs.Classes.{is_within}
use Rattle.granit_base.specs.Place.{Mark}
use Rattle.granit_base.specs.Written.{Written}
use Rattle.granit_base.specs.declared.style.ScalarStyle.TheVariants.{DoubleQuoted}
use Rattle.granit_base.specs.declared.style.StructureStyle.TheVariants.{Flow}
use Rattle.granit_error.specs.OptionsData.{OptionsData}
use Rattle.granit_language.specs.Scope.{entry_of}
use Rattle.granit_language.specs.Telling.{AnchorTold, TagTold, alias_told, anchor_told, number_told, span_told}
use Rattle.granit_language.specs.Telling.{tag_told}
use Rattle.granit_language.specs.Terminal.{text_start}
use Rattle.granit_lexemes.specs.Place.{mark_at}
use Rattle.granit_lexemes.specs.PlainEvent.{DocumentEnd, DocumentStart, EventKind, MappingEnd, MappingStart}
use Rattle.granit_lexemes.specs.PlainEvent.{PlainEvent, PlainTag, Scalar, SequenceEnd, SequenceStart, StreamEnd}
use Rattle.granit_lexemes.specs.PlainEvent.{StreamStart, event_at, event_on}
use Rattle.granit_lexemes.specs.Source.{Source}
use Rattle.granit_model.specs.FlowText.{anchor_text, comma_unless, entries_text, flow_characters, pair_text}
use Rattle.granit_model.specs.FlowText.{pairs_text, quoted_characters, tag_text, tree_text}
use Rattle.granit_model.specs.Tree.{AfterPairs, AfterTrees, AliasOf, MappingOf, NoPairs, NoTrees, PlainPairs}
use Rattle.granit_model.specs.Tree.{PlainTree, PlainTrees, Properties, ScalarOf, SequenceOf, no_pairs, no_trees}

-- a name stands in the text as it is, and is lent
abbrev pub lent_name : List ℕ → Written
lent_name name = record { characters = name; is_borrowed = true }

-- a character that is written as it is between quotes
abbrev pub stands_for_itself : ℕ → Bool
stands_for_itself c = is_within 0x20 0x7E c && not (c == 0x22 || c == 0x5C)

-- a text between quotes is lent where each of its characters is
abbrev pub between_quotes : List ℕ → Written
between_quotes text = record { characters = text; is_borrowed = list_all stands_for_itself text }

-- the place in a text behind which this is left

abbrev pub spot : (x rest : List ℕ) → Mark
spot x rest = mark_at x (length x - length rest)

-- from where one text is left to where another is
abbrev pub stretch : (x from to : List ℕ) → Source
stretch x from to = record { start = spot x from; end = spot x to }

-- how many anchors stand before a place, and those of its document by name with their numbers, the last first
pub record Anchors : Type 0 where
  pub count : ℕ
  pub names : List (List ℕ × ℕ)

abbrev pub past_anchor : Option (List ℕ) → Anchors → Anchors
past_anchor None a = a
past_anchor (Some name) a = record { count = suc a.count; names = (name, suc a.count) ∷ a.names }

-- those before what follows a tree, trees, pairs
abbrev mutual
  pub past_tree : PlainTree → Anchors → Anchors
  past_tree (AliasOf name) a = a
  past_tree (ScalarOf p text) a = past_anchor p.anchor a
  past_tree (SequenceOf p entries) a = past_trees entries (past_anchor p.anchor a)
  past_tree (MappingOf p pairs) a = past_pairs pairs (past_anchor p.anchor a)

  pub past_trees : PlainTrees → Anchors → Anchors
  past_trees NoTrees a = a
  past_trees (AfterTrees ts t) a = past_tree t (past_trees ts a)

  pub past_pairs : PlainPairs → Anchors → Anchors
  past_pairs NoPairs a = a
  past_pairs (AfterPairs ps k v) a = past_tree v (past_tree k (past_pairs ps a))

-- no name of a document stands in the next one
abbrev pub renewed : Anchors → Anchors
renewed a = record { count = a.count; names = [] }

abbrev pub past_documents : PlainTrees → Anchors
past_documents NoTrees = record { count = 0; names = [] }
past_documents (AfterTrees ts t) = past_tree t (renewed (past_documents ts))

-- what is told of an anchor in front of a rest
abbrev pub anchor_before : (x : List ℕ) → Anchors → Option (List ℕ) → (rest : List ℕ) → AnchorTold
anchor_before x a None rest = None
anchor_before x a (Some name) rest =
    Some (suc a.count, lent_name name, stretch x (anchor_text (Some name) rest) (0x20 ∷ rest))

-- and of a tag, which has no handle
abbrev pub tag_before : (x : List ℕ) → Option (List ℕ) → (rest : List ℕ) → TagTold
tag_before x None rest = None
tag_before x (Some tag) rest =
    Some (
      record { handle = []; suffix = tag; original_handle = [] },
      stretch x (tag_text (Some tag) rest) (0x20 ∷ rest),
    )

-- the start of a node whose own text begins where one text is left and goes to another, its properties before it
abbrev pub node_before :
    OptionsData → (x : List ℕ) → Anchors → Properties → (ℕ → Option PlainTag → EventKind) → (from to : List ℕ) →
    List PlainEvent → List PlainEvent
node_before o x a p kind from to more =
    let anchor = anchor_before x a p.anchor from in
    let tag = tag_before x p.tag (anchor_text p.anchor from) in
    record {
      kind = kind (number_told anchor) (tag_told tag);
      span = span_told tag (spot x from) (spot x to) None;
    }
    ∷ anchor_told o anchor more

-- The events of a tree, of trees, of pairs that are written before a rest, in front of more events.
abbrev mutual
  pub tree_before : OptionsData → (x : List ℕ) → PlainTree → Anchors → (rest : List ℕ) → List PlainEvent →
      List PlainEvent
  tree_before o x (AliasOf name) a rest more =
      event_at (alias_told (lent_name name) (entry_of name a.names)) (stretch x (tree_text (AliasOf name) rest) rest)
      ∷ more
  tree_before o x (ScalarOf p text) a rest more =
      node_before o x a p (Scalar (between_quotes text) DoubleQuoted) (0x22 ∷ quoted_characters text (0x22 ∷ rest)) rest
      more
  tree_before o x (SequenceOf p entries) a rest more =
      let inside = entries_text entries (0x5D ∷ rest) in
      node_before o x a p (SequenceStart Flow) (0x5B ∷ inside) inside
      (entries_before o x entries (past_anchor p.anchor a) (0x5D ∷ rest)
      (event_at SequenceEnd (stretch x (0x5D ∷ rest) rest) ∷ more))
  tree_before o x (MappingOf p pairs) a rest more =
      let inside = pairs_text pairs (0x7D ∷ rest) in
      node_before o x a p (MappingStart Flow) (0x7B ∷ inside) inside
      (pairs_before o x pairs (past_anchor p.anchor a) (0x7D ∷ rest)
      (event_at MappingEnd (stretch x (0x7D ∷ rest) rest) ∷ more))

  pub entries_before : OptionsData → (x : List ℕ) → PlainTrees → Anchors → (rest : List ℕ) → List PlainEvent →
      List PlainEvent
  entries_before o x NoTrees a rest more = more
  entries_before o x (AfterTrees ts t) a rest more =
      entries_before o x ts a (comma_unless (no_trees ts) (tree_text t rest))
      (tree_before o x t (past_trees ts a) rest more)

  pub pairs_before : OptionsData → (x : List ℕ) → PlainPairs → Anchors → (rest : List ℕ) → List PlainEvent →
      List PlainEvent
  pairs_before o x NoPairs a rest more = more
  pairs_before o x (AfterPairs ps k v) a rest more =
      let here = past_pairs ps a in
      pairs_before o x ps a (comma_unless (no_pairs ps) (pair_text k v rest))
      (tree_before o x k here (0x20 ∷ 0x3A ∷ 0x20 ∷ tree_text v rest)
      (tree_before o x v (past_tree k here) rest more))

-- the events of documents, each with its `---`, which end in front of their line feed
abbrev pub documents_before : OptionsData → (x : List ℕ) → PlainTrees → (rest : List ℕ) → List PlainEvent →
    List PlainEvent
documents_before o x NoTrees rest more = more
documents_before o x (AfterTrees ts t) rest more =
    let behind = 0x0A ∷ rest in
    let root = 0x20 ∷ tree_text t behind in
    documents_before o x ts (0x2D ∷ 0x2D ∷ 0x2D ∷ root)
    (event_at (DocumentStart true None) (stretch x (0x2D ∷ 0x2D ∷ 0x2D ∷ root) root)
    ∷ tree_before o x t (renewed (past_documents ts)) behind (event_on DocumentEnd (spot x behind) ∷ more))

-- the events of documents that are read from their own canonical text
abbrev pub canonical_events : OptionsData → PlainTrees → List PlainEvent
canonical_events o ts =
    let x = flow_characters ts in
    event_on StreamStart text_start ∷ documents_before o x ts [] (event_on StreamEnd (spot x []) ∷ [])
