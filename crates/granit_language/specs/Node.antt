-- Trees: nodes and documents with their lexemes, and with the places that the lexeme behind them bears. The numbered
-- productions are those of YAML 1.2.2.
use Rattle.std.specs.Prelude.{ℕ, Bool}
use Rattle.granit_base.specs.Written.{Written}
use Rattle.granit_base.specs.declared.style.ScalarStyle.{ScalarStyle}
use Rattle.granit_base.specs.Place.{Mark}
use Rattle.granit_language.specs.Terminal.{PropertyKind, At, Terminal}
use Rattle.granit_lexemes.specs.Lexeme.{DirectiveKind}
use Rattle.granit_lexemes.specs.declared.layout.Bracket.{Bracket}

-- what stands before a node: a tag, an anchor, or both in either order (c-ns-properties, 6.9)
pub data TreeProperties : Type 0 where
  NoProperties : TreeProperties
  One : PropertyKind → At → TreeProperties
  Two : PropertyKind → At → PropertyKind → At → TreeProperties

mutual
  pub data Node : Type 0 where
    -- c-ns-alias-node (7.1)
    AliasNode : (name : Written) → At → Node
    -- c-double-quoted, c-single-quoted, ns-plain, c-l+literal, c-l+folded (7.3, 8.1)
    ScalarNode : TreeProperties → (style : ScalarStyle) (text : Written) → At → Node
    -- properties alone, before e-scalar (7.2)
    Alone : TreeProperties → Node
    -- c-flow-sequence (7.4.1), c-flow-mapping (7.4.2)
    Flow : TreeProperties → Bracket → (opener : At) → FlowLead → FlowLast → (closer : At) → Node
    -- l+block-sequence, in a column (from 1), with the place of the lexeme behind it; one that is a value may
    -- stand in the column of its mapping, and then is indentless (seq-space, 8.2.3)
    Sequence : TreeProperties → (indentless : Bool) → (column : ℕ) → Entries → (end : Mark) → Node
    -- l+block-mapping (8.2.2)
    Mapping : TreeProperties → (column : ℕ) → Pairs → (end : Mark) → Node

  -- a node or nothing (e-node, 7.2)
  pub data Content : Type 0 where
    Nothing : Content
    Just : Node → Content

  -- c-l-block-seq-entry, one or more (8.2.1)
  pub data Entries : Type 0 where
    Entry : EntryLead → (dash : At) → Content → Entries

  pub data EntryLead : Type 0 where
    NoEntry : EntryLead
    AfterEntry : Entries → EntryLead

  -- ns-l-block-map-entry, one or more (8.2.2)
  pub data Pairs : Type 0 where
    Through : PairLead → Pair → Pairs

  pub data PairLead : Type 0 where
    NoPair : PairLead
    AfterPair : Pairs → PairLead

  -- an entry of a block mapping, a pair of a flow mapping (ns-flow-map-entry, 7.4.2) or of a flow sequence
  -- (ns-flow-pair, 7.4.1)
  pub data Pair : Type 0 where
    WithColon : Left → (colon : At) → Content → Pair
    -- `?` with no `:` (ns-flow-map-explicit-entry, c-l-block-map-explicit-entry); the place is that of the
    -- lexeme behind it
    AskOnly : (question : At) → Content → (end : Mark) → Pair

  -- what stands before a `:`
  pub data Left : Type 0 where
    -- ns-s-implicit-yaml-key, c-s-implicit-json-key, ns-s-block-map-implicit-key: its first lexeme,
    -- and the number that the `:` bears
    SimpleKey : (first : Terminal) → Node → ℕ → Left
    -- a key behind `?` (7.4.2, 8.2.2)
    Asked : (question : At) → Content → Left
    -- c-ns-flow-map-empty-key-entry
    NoKey : Left

  -- items that a comma follows (ns-s-flow-seq-entries, ns-s-flow-map-entries)
  pub data FlowLead : Type 0 where
    NoItem : FlowLead
    AfterItem : FlowLead → FlowItem → (comma : At) → FlowLead

  pub data FlowLast : Type 0 where
    NoLast : FlowLast
    LastItem : FlowItem → FlowLast

  pub data FlowItem : Type 0 where
    Single : Node → FlowItem
    Paired : Pair → FlowItem

mutual
  -- documents where directives, a bare root or `...` may follow (l-document-suffix, l-yaml-stream, 9.2)
  pub data Before : Type 0 where
    Beginning : Before
    ExtraEnd : Before → At → Before
    Closed : Rooted → At → Before

  -- directives, one or more (l-directive, 6.8; l-directive-document, 9.1.5)
  pub data Directives : Type 0 where
    FirstDirective : Before → DirectiveKind → At → Directives
    NextDirective : Directives → DirectiveKind → At → Directives

  -- what may stand before a `---` (c-directives-end, 9.1.2)
  pub data Start : Type 0 where
    AtFresh : Before → Start
    AfterDirectives : Directives → Start
    AfterRoot : Rooted → Start

  -- documents, the last one without `...`: a bare one (l-bare-document, 9.1.3) or one with `---`
  -- (l-explicit-document, 9.1.4)
  pub data Rooted : Type 0 where
    BareRoot : Before → Node → Rooted
    ExplicitRoot : Start → (mark : At) → Content → Rooted

-- the whole stream, with its end (l-yaml-stream, 9.2)
pub data Stream : Type 0 where
  EndFresh : Before → At → Stream
  EndRooted : Rooted → At → Stream
