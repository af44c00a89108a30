-- What events of trees tell but for styles and spans, on the tree alone; those of the flow text tell it.
use Rattle.std.proofs.Common.{Bool, List, Option, [], ap, ap₂, refl, suc, true, false, ℕ, ◌++◌, ◌∙◌, ◌∷◌, ◌≡◌}
use Rattle.std.specs.Prelude.{None, Some, if◌then◌else◌}
use Rattle.granit_base.specs.declared.style.ScalarStyle.TheVariants.{DoubleQuoted}
use Rattle.granit_base.specs.declared.style.StructureStyle.TheVariants.{Flow}
use Rattle.granit_block_layout.specs.Alike.{kinds_of, unstyled}
use Rattle.granit_canonical_steps.specs.Canonical.{Anchors, anchor_before, between_quotes, documents_before}
use Rattle.granit_canonical_steps.specs.Canonical.{entries_before}
use Rattle.granit_canonical_steps.specs.Canonical.{lent_name, node_before, pairs_before, past_anchor, past_documents}
use Rattle.granit_canonical_steps.specs.Canonical.{past_pairs, past_tree, past_trees, renewed, spot, stretch}
use Rattle.granit_canonical_steps.specs.Canonical.{tag_before}
use Rattle.granit_canonical_steps.specs.Canonical.{tree_before}
use Rattle.granit_error.specs.OptionsData.{OptionsData}
use Rattle.granit_language.specs.Node.{TreeProperties}
use Rattle.granit_language.specs.Scope.{entry_of}
use Rattle.granit_language.specs.Telling.{alias_told, anchor_told, number_told, properties_anchor}
use Rattle.granit_language.specs.Telling.{properties_tag, tag_told}
use Rattle.granit_lexemes.specs.PlainEvent.{Anchor, DocumentEnd, DocumentStart, EventKind, MappingEnd, MappingStart}
use Rattle.granit_lexemes.specs.PlainEvent.{PlainEvent, PlainTag, Scalar, SequenceEnd, SequenceStart}
use Rattle.granit_lexemes.specs.PlainEvent.{event_at, event_on}
use Rattle.granit_model.specs.FlowText.{anchor_text, comma_unless, entries_text, pair_text, pairs_text, tree_text}
use Rattle.granit_model.specs.FlowText.{quoted_characters}
use Rattle.granit_model.specs.Tree.{AfterPairs, AfterTrees, AliasOf, MappingOf, NoPairs, NoTrees, PlainPairs, PlainTree}
use Rattle.granit_model.specs.Tree.{PlainTrees, Properties, ScalarOf, SequenceOf, no_pairs, no_trees}

pub kinds_append : (es fs : List PlainEvent) → kinds_of (es ++ fs) ≡ kinds_of es ++ kinds_of fs
kinds_append [] fs = refl
kinds_append (e ∷ es) fs = ap (λ (ks : List EventKind). unstyled e.kind ∷ ks) (kinds_append es fs)

-- ---- the start of a node

abbrev pub number_of : Option (List ℕ) → Anchors → ℕ
number_of None a = 0
number_of (Some name) a = suc a.count

abbrev pub tag_of : Option (List ℕ) → Option PlainTag
tag_of None = None
tag_of (Some tag) = Some (record { handle = []; suffix = tag; original_handle = [] })

-- an anchor's own event, where such are told
abbrev pub anchor_tells : OptionsData → Option (List ℕ) → Anchors → List EventKind → List EventKind
anchor_tells o None a more = more
anchor_tells o (Some name) a more =
    if o.emit_anchor_events then Anchor (suc a.count) (lent_name name) ∷ more else more

abbrev pub node_tells :
    OptionsData → Anchors → (name anchor : Option (List ℕ)) → (ℕ → Option PlainTag → EventKind) → List EventKind →
    List EventKind
node_tells o a name anchor kind more =
    unstyled (kind (number_of anchor a) (tag_of name)) ∷ anchor_tells o anchor a more

-- the same of what was read as properties
abbrev pub start_tells :
    OptionsData → TreeProperties → (ℕ → Option PlainTag → EventKind) → List EventKind → List EventKind
start_tells o q kind more =
    unstyled (kind (number_told (properties_anchor q)) (tag_told (properties_tag o q)))
    ∷ (kinds_of (anchor_told o (properties_anchor q) []) ++ more)

-- ---- trees

abbrev mutual
  pub tree_tells : OptionsData → PlainTree → Anchors → List EventKind → List EventKind
  tree_tells o (AliasOf name) a more = alias_told (lent_name name) (entry_of name a.names) ∷ more
  tree_tells o (ScalarOf p text) a more =
      node_tells o a p.tag p.anchor (Scalar (between_quotes text) DoubleQuoted) more
  tree_tells o (SequenceOf p entries) a more =
      node_tells o a p.tag p.anchor (SequenceStart Flow)
      (trees_tell o entries (past_anchor p.anchor a) (SequenceEnd ∷ more))
  tree_tells o (MappingOf p pairs) a more =
      node_tells o a p.tag p.anchor (MappingStart Flow)
      (pairs_tell o pairs (past_anchor p.anchor a) (MappingEnd ∷ more))

  pub trees_tell : OptionsData → PlainTrees → Anchors → List EventKind → List EventKind
  trees_tell o NoTrees a more = more
  trees_tell o (AfterTrees ts t) a more = trees_tell o ts a (tree_tells o t (past_trees ts a) more)

  pub pairs_tell : OptionsData → PlainPairs → Anchors → List EventKind → List EventKind
  pairs_tell o NoPairs a more = more
  pairs_tell o (AfterPairs ps k v) a more =
      let here = past_pairs ps a in
      pairs_tell o ps a (tree_tells o k here (tree_tells o v (past_tree k here) more))

abbrev pub documents_tell : OptionsData → PlainTrees → List EventKind → List EventKind
documents_tell o NoTrees more = more
documents_tell o (AfterTrees ts t) more =
    documents_tell o ts (DocumentStart true None ∷ tree_tells o t (renewed (past_documents ts)) (DocumentEnd ∷ more))

-- ---- the events of flow text

if_told : (v : Bool) (e : PlainEvent) (es : List PlainEvent)
    → kinds_of (if v then e ∷ es else es) ≡ (if v then unstyled e.kind ∷ kinds_of es else kinds_of es)
if_told true e es = refl
if_told false e es = refl

pub anchor_kinds : (o : OptionsData) (x : List ℕ) (a : Anchors) (anchor : Option (List ℕ)) (rest : List ℕ)
    (es : List PlainEvent)
    → kinds_of (anchor_told o (anchor_before x a anchor rest) es) ≡ anchor_tells o anchor a (kinds_of es)
anchor_kinds o x a None rest es = refl
anchor_kinds o x a (Some name) rest es =
    if_told o.emit_anchor_events (event_at (Anchor (suc a.count) (lent_name name))
    (stretch x (anchor_text (Some name) rest) (0x20 ∷ rest))) es

number_is : (x : List ℕ) (a : Anchors) (anchor : Option (List ℕ)) (rest : List ℕ)
    → number_told (anchor_before x a anchor rest) ≡ number_of anchor a
number_is x a None rest = refl
number_is x a (Some name) rest = refl

tag_is : (x : List ℕ) (name : Option (List ℕ)) (rest : List ℕ) → tag_told (tag_before x name rest) ≡ tag_of name
tag_is x None rest = refl
tag_is x (Some name) rest = refl

node_kinds : (o : OptionsData) (x : List ℕ) (a : Anchors) (p : Properties) (kind : ℕ → Option PlainTag → EventKind)
    (from to : List ℕ) (es : List PlainEvent)
    → kinds_of (node_before o x a p kind from to es) ≡ node_tells o a p.tag p.anchor kind (kinds_of es)
node_kinds o x a p kind from to es =
    ap₂ (λ (n : ℕ) (t : Option PlainTag). unstyled (kind n t)
    ∷ kinds_of (anchor_told o (anchor_before x a p.anchor from) es)) (number_is x a p.anchor from)
    (tag_is x p.tag (anchor_text p.anchor from))
    ∙ ap (λ (ks : List EventKind). unstyled (kind (number_of p.anchor a) (tag_of p.tag)) ∷ ks)
    (anchor_kinds o x a p.anchor from es)

pub alias_kind : (name : List ℕ) (n : Option ℕ)
    → unstyled (alias_told (lent_name name) n) ≡ alias_told (lent_name name) n
alias_kind name None = refl
alias_kind name (Some n) = refl

module _ (o : OptionsData) (x : List ℕ) where
  mutual
    tree_kinds : (t : PlainTree) (a : Anchors) (rest : List ℕ) (es : List PlainEvent)
        → kinds_of (tree_before o x t a rest es) ≡ tree_tells o t a (kinds_of es)
    tree_kinds (AliasOf name) a rest es =
        ap (λ (k : EventKind). k ∷ kinds_of es) (alias_kind name (entry_of name a.names))
    tree_kinds (ScalarOf p text) a rest es =
        node_kinds o x a p (Scalar (between_quotes text) DoubleQuoted) (0x22 ∷ quoted_characters text (0x22 ∷ rest))
        rest es
    tree_kinds (SequenceOf p entries) a rest es =
        let inside = entries_text entries (0x5D ∷ rest) in
        let last = event_at SequenceEnd (stretch x (0x5D ∷ rest) rest) ∷ es in
        node_kinds o x a p (SequenceStart Flow) (0x5B ∷ inside) inside
        (entries_before o x entries (past_anchor p.anchor a) (0x5D ∷ rest) last)
        ∙ ap (node_tells o a p.tag p.anchor (SequenceStart Flow))
        (trees_kinds entries (past_anchor p.anchor a) (0x5D ∷ rest) last)
    tree_kinds (MappingOf p pairs) a rest es =
        let inside = pairs_text pairs (0x7D ∷ rest) in
        let last = event_at MappingEnd (stretch x (0x7D ∷ rest) rest) ∷ es in
        node_kinds o x a p (MappingStart Flow) (0x7B ∷ inside) inside
        (pairs_before o x pairs (past_anchor p.anchor a) (0x7D ∷ rest) last)
        ∙ ap (node_tells o a p.tag p.anchor (MappingStart Flow))
        (pairs_kinds pairs (past_anchor p.anchor a) (0x7D ∷ rest) last)

    trees_kinds : (ts : PlainTrees) (a : Anchors) (rest : List ℕ) (es : List PlainEvent)
        → kinds_of (entries_before o x ts a rest es) ≡ trees_tell o ts a (kinds_of es)
    trees_kinds NoTrees a rest es = refl
    trees_kinds (AfterTrees ts t) a rest es =
        trees_kinds ts a (comma_unless (no_trees ts) (tree_text t rest))
        (tree_before o x t (past_trees ts a) rest es)
        ∙ ap (trees_tell o ts a) (tree_kinds t (past_trees ts a) rest es)

    pairs_kinds : (ps : PlainPairs) (a : Anchors) (rest : List ℕ) (es : List PlainEvent)
        → kinds_of (pairs_before o x ps a rest es) ≡ pairs_tell o ps a (kinds_of es)
    pairs_kinds NoPairs a rest es = refl
    pairs_kinds (AfterPairs ps k v) a rest es =
        let here = past_pairs ps a in
        let value = tree_before o x v (past_tree k here) rest es in
        let behind_key = 0x20 ∷ 0x3A ∷ 0x20 ∷ tree_text v rest in
        pairs_kinds ps a (comma_unless (no_pairs ps) (pair_text k v rest)) (tree_before o x k here behind_key value)
        ∙ ap (pairs_tell o ps a) (tree_kinds k here behind_key value
        ∙ ap (tree_tells o k here) (tree_kinds v (past_tree k here) rest es))

  pub documents_kinds : (ts : PlainTrees) (rest : List ℕ) (es : List PlainEvent)
      → kinds_of (documents_before o x ts rest es) ≡ documents_tell o ts (kinds_of es)
  documents_kinds NoTrees rest es = refl
  documents_kinds (AfterTrees ts t) rest es =
      let behind = 0x0A ∷ rest in
      let root = 0x20 ∷ tree_text t behind in
      let from = 0x2D ∷ 0x2D ∷ 0x2D ∷ root in
      let last = event_on DocumentEnd (spot x behind) ∷ es in
      documents_kinds ts from (event_at (DocumentStart true None) (stretch x from root)
      ∷ tree_before o x t (renewed (past_documents ts)) behind last)
      ∙ ap (λ (ks : List EventKind). documents_tell o ts (DocumentStart true None ∷ ks))
      (tree_kinds t (renewed (past_documents ts)) behind last)
