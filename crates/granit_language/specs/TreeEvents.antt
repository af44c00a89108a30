-- The events of trees: a recursion on the tree alone. Properties stand in an event as they are; numbers of anchors and
-- resolved tags are a matter of scope.
use Rattle.std.specs.Prelude.{ℕ, codes, Bool, true, false, List, [], ◌∷◌, Option, Some, None}
use Rattle.granit_base.specs.Written.{Written, lent}
use Rattle.granit_base.specs.declared.style.ScalarStyle.TheVariants.{Plain}
use Rattle.granit_base.specs.declared.style.ScalarStyle.{ScalarStyle}
use Rattle.granit_base.specs.Place.{Mark}
use Rattle.granit_language.specs.Choice.{choose}
use Rattle.granit_language.specs.Node.{TreeProperties, NoProperties, One, Two, Node, AliasNode, ScalarNode, Alone, Flow}
use Rattle.granit_language.specs.Node.{Sequence, Mapping, Content, Nothing, Just, Entries, Entry, EntryLead, NoEntry}
use Rattle.granit_language.specs.Node.{AfterEntry, Pairs, Through, PairLead, NoPair, AfterPair, Pair, WithColon}
use Rattle.granit_language.specs.Node.{AskOnly, Left, SimpleKey, Asked, NoKey, FlowLead, NoItem, AfterItem, FlowLast}
use Rattle.granit_language.specs.Node.{NoLast, LastItem, FlowItem, Single, Paired, Before, Beginning, ExtraEnd, Closed}
use Rattle.granit_language.specs.Node.{Directives, FirstDirective, NextDirective, Start, AtFresh, AfterDirectives}
use Rattle.granit_language.specs.Node.{AfterRoot, Rooted, BareRoot, ExplicitRoot, Stream, EndFresh, EndRooted}
use Rattle.granit_language.specs.Placed.{pair_front}
use Rattle.granit_language.specs.Room.{Holder, BlockIn, FlowIn}
use Rattle.granit_language.specs.Scope.{Scope}
use Rattle.granit_language.specs.Terminal.{PropertyKind, Anchor, Tag, Alias, Property, Scalar, Open, TerminalKind, Dash}
use Rattle.granit_language.specs.Terminal.{Question, Part, At, Terminal, terminal, text_start, no_terminal}
use Rattle.granit_lexemes.specs.Lexeme.{DirectiveKind, Version}
use Rattle.granit_lexemes.specs.declared.layout.Bracket.{Bracket}
use Rattle.granit_lexemes.specs.declared.layout.Bracket.TheVariants.{Square, Curly}

pub data TreeEventKind : Type 0 where
  StreamStarts StreamEnds DocumentEnds SequenceEnds MappingEnds : TreeEventKind
  DocumentStarts : (explicit : Bool) → (version : Option (ℕ × ℕ)) → TreeEventKind
  -- with what stands before it
  AliasIs : (name : Written) → Scope → TreeEventKind
  ScalarIs : TreeProperties → (style : ScalarStyle) (text : Written) → TreeEventKind
  SequenceStarts MappingStarts : (flow : Bool) → TreeProperties → TreeEventKind

pub record TreeEvent : Type 0 where
  pub kind : TreeEventKind
  pub from : Mark
  pub to : Mark
  -- a column, counted from 1
  pub indent : Option ℕ

abbrev pub tree_event : TreeEventKind → Mark → Mark → Option ℕ → TreeEvent
tree_event k from to indent = record { kind = k; from = from; to = to; indent = indent }

abbrev pub pointed : TreeEventKind → Mark → TreeEvent
pointed k x = tree_event k x x None

abbrev pub shown_event : TreeEventKind → At → TreeEvent
shown_event k i = tree_event k i.shown.start i.shown.end None

-- nothing
abbrev pub null : Mark → Option ℕ → TreeEvent
null x indent = tree_event (ScalarIs NoProperties Plain (lent (codes "~"))) x x indent

-- the indent that a block mapping gives its keys, or a scalar's own
abbrev pub imposed : Option ℕ → Option ℕ → Option ℕ
imposed (Some c) own = Some c
imposed None own = own

abbrev pub indent_of_key : Holder → Option ℕ
indent_of_key (BlockIn c) = Some c
indent_of_key (FlowIn bracket) = None

abbrev pub properties_end : TreeProperties → Mark
properties_end NoProperties = text_start
properties_end (One k i) = i.shown.end
properties_end (Two k i m j) = j.shown.end

abbrev pub is_tag : PropertyKind → Bool
is_tag (Anchor name) = false
is_tag (Tag handle suffix) = true

-- properties alone: the empty text where there is a tag
abbrev pub alone_text : TreeProperties → List ℕ
alone_text NoProperties = codes "~"
alone_text (One k i) = choose (is_tag k) [] (codes "~")
alone_text (Two k i m j) = []

abbrev pub alone_event : TreeProperties → Option ℕ → TreeEvent
alone_event p indent = tree_event (ScalarIs p Plain (lent (alone_text p))) (properties_end p) (properties_end p)
    indent

abbrev pub scalar_event : TreeProperties → ScalarStyle → Written → At → Option ℕ → TreeEvent
scalar_event p style text i indent =
    tree_event (ScalarIs p style text) i.shown.start i.shown.end (imposed indent i.own_indent)

abbrev pub alias_event : Written → At → Option ℕ → TreeEvent
alias_event name i indent = tree_event (AliasIs name i.scope) i.shown.start i.shown.end indent

abbrev pub flow_start : TreeProperties → Bracket → At → Option ℕ → TreeEvent
flow_start p Square o indent = tree_event (SequenceStarts true p) o.shown.start o.shown.end indent
flow_start p Curly o indent = tree_event (MappingStarts true p) o.shown.start o.shown.end indent

abbrev pub flow_end : Bracket → At → TreeEvent
flow_end Square e = tree_event SequenceEnds e.start e.shown.end None
flow_end Curly e = tree_event MappingEnds e.start e.shown.end None

-- an indentless sequence starts behind its first `-`
abbrev pub sequence_start : TreeProperties → Bool → At → Option ℕ → TreeEvent
sequence_start p true i indent = tree_event (SequenceStarts false p) i.end i.end indent
sequence_start p false i indent = tree_event (SequenceStarts false p) i.start i.start indent

abbrev pub mapping_start : TreeProperties → Terminal → Option ℕ → TreeEvent
mapping_start p x indent = tree_event (MappingStarts false p) x.at.start x.at.start indent

-- the mapping that a pair of a flow sequence is
abbrev pub pair_start : TerminalKind → At → TreeEvent
pair_start Question i = tree_event (MappingStarts true NoProperties) i.start i.shown.end None
pair_start kind i = tree_event (MappingStarts true NoProperties) i.start i.start None

abbrev pub pair_opens : Bracket → Terminal → List TreeEvent → List TreeEvent
pair_opens Square x more = pair_start x.kind x.at ∷ more
pair_opens Curly x more = more

abbrev pub pair_closes : Bracket → Mark → List TreeEvent → List TreeEvent
pair_closes Square x more = pointed MappingEnds x ∷ more
pair_closes Curly x more = more

-- the value of a node alone in a flow mapping
abbrev pub solo : Bracket → Mark → List TreeEvent → List TreeEvent
solo Square x more = more
solo Curly x more = null x None ∷ more

-- where nothing behind a `:` stands: at the `:`, but behind a `?` key in a flow sequence at what follows
abbrev pub value_place : Holder → Left → At → Mark → Mark
value_place (BlockIn c) left m x = m.start
value_place (FlowIn Curly) left m x = m.start
value_place (FlowIn Square) (Asked q v) m x = x
value_place (FlowIn Square) left m x = m.start

abbrev mutual
  pub node_events : Node → Option ℕ → List TreeEvent → List TreeEvent
  node_events (AliasNode name i) indent more = alias_event name i indent ∷ more
  node_events (ScalarNode p style text i) indent more = scalar_event p style text i indent ∷ more
  node_events (Alone p) indent more = alone_event p indent ∷ more
  node_events (Flow p bracket o lead last e) indent more =
      flow_start p bracket o indent ∷ flow_events lead bracket (last_events last bracket e (flow_end bracket e ∷ more))
  node_events (Sequence p loose c es e) indent more = entries_events es p loose indent (pointed SequenceEnds e ∷ more)
  node_events (Mapping p c ps e) indent more = pairs_events ps c p indent (pointed MappingEnds e ∷ more)

  -- nothing stands at a place
  pub content_events : Content → Mark → Option ℕ → List TreeEvent → List TreeEvent
  content_events Nothing x indent more = null x indent ∷ more
  content_events (Just t) x indent more = node_events t indent more

  pub entries_events : Entries → TreeProperties → Bool → Option ℕ → List TreeEvent → List TreeEvent
  entries_events (Entry lead i v) p loose indent more =
      entry_lead_events lead i p loose indent (content_events v i.end None more)

  pub entry_lead_events : EntryLead → At → TreeProperties → Bool → Option ℕ → List TreeEvent → List TreeEvent
  entry_lead_events NoEntry i p loose indent more = sequence_start p loose i indent ∷ more
  entry_lead_events (AfterEntry es) i p loose indent more = entries_events es p loose indent more

  pub pairs_events : Pairs → ℕ → TreeProperties → Option ℕ → List TreeEvent → List TreeEvent
  pairs_events (Through lead pair) c p indent more =
      pair_lead_events lead (pair_front pair) c p indent (pair_events pair (BlockIn c) text_start more)

  pub pair_lead_events : PairLead → Terminal → ℕ → TreeProperties → Option ℕ → List TreeEvent → List TreeEvent
  pair_lead_events NoPair x c p indent more = mapping_start p x indent ∷ more
  pair_lead_events (AfterPair ps) x c p indent more = pairs_events ps c p indent more

  -- in front of what stands at a place
  pub pair_events : Pair → Holder → Mark → List TreeEvent → List TreeEvent
  pair_events (WithColon left m v) h x more = left_events left h m (content_events v (value_place h left m x) None more)
  pair_events (AskOnly q v e) h x more = content_events v e (indent_of_key h) (null e None ∷ more)

  pub left_events : Left → Holder → At → List TreeEvent → List TreeEvent
  left_events (SimpleKey f k n) h m more = node_events k (indent_of_key h) more
  left_events (Asked q v) h m more = content_events v m.start (indent_of_key h) more
  left_events NoKey h m more = null m.start None ∷ more

  pub flow_events : FlowLead → Bracket → List TreeEvent → List TreeEvent
  flow_events NoItem bracket more = more
  flow_events (AfterItem lead item m) bracket more = flow_events lead bracket
      (flow_item_events item bracket m.start more)

  pub last_events : FlowLast → Bracket → At → List TreeEvent → List TreeEvent
  last_events NoLast bracket e more = more
  last_events (LastItem item) bracket e more = flow_item_events item bracket e.start more

  pub flow_item_events : FlowItem → Bracket → Mark → List TreeEvent → List TreeEvent
  flow_item_events (Single t) bracket x more = node_events t None (solo bracket x more)
  flow_item_events (Paired pair) bracket x more =
      pair_opens bracket (pair_front pair) (pair_events pair (FlowIn bracket) x (pair_closes bracket x more))

-- the first lexeme
abbrev pub first_with : TreeProperties → Terminal → Terminal
first_with NoProperties x = x
first_with (One k i) x = terminal (Part (Property k)) i
first_with (Two k i m j) x = terminal (Part (Property k)) i

abbrev mutual
  pub entries_first : Entries → Terminal
  entries_first (Entry lead i v) = entry_lead_first lead i

  pub entry_lead_first : EntryLead → At → Terminal
  entry_lead_first NoEntry i = terminal Dash i
  entry_lead_first (AfterEntry es) i = entries_first es

abbrev mutual
  pub pairs_first : Pairs → Terminal
  pairs_first (Through lead pair) = pair_lead_first lead (pair_front pair)

  pub pair_lead_first : PairLead → Terminal → Terminal
  pair_lead_first NoPair x = x
  pair_lead_first (AfterPair ps) x = pairs_first ps

abbrev pub first_terminal : Node → Terminal
first_terminal (AliasNode name i) = terminal (Part (Alias name)) i
first_terminal (ScalarNode p style text i) = first_with p (terminal (Part (Scalar style text)) i)
first_terminal (Alone p) = first_with p no_terminal
first_terminal (Flow p bracket o lead last e) = first_with p (terminal (Part (Open bracket)) o)
first_terminal (Sequence p loose c es e) = first_with p (entries_first es)
first_terminal (Mapping p c ps e) = first_with p (pairs_first ps)

-- the place behind a node's last event
abbrev pub node_end : Node → Mark
node_end (AliasNode name i) = i.shown.end
node_end (ScalarNode p style text i) = i.shown.end
node_end (Alone p) = properties_end p
node_end (Flow p bracket o lead last e) = e.shown.end
node_end (Sequence p loose c es e) = e
node_end (Mapping p c ps e) = e

abbrev pub content_end : Content → Mark → Mark
content_end Nothing x = x
content_end (Just t) x = node_end t

abbrev pub root_end : Rooted → Mark
root_end (BareRoot b t) = node_end t
root_end (ExplicitRoot s i v) = content_end v i.shown.end

abbrev pub version_of : DirectiveKind → Option (ℕ × ℕ) → Option (ℕ × ℕ)
version_of (Version major minor) old = Some (major, minor)
version_of d old = old

abbrev pub directives_version : Directives → Option (ℕ × ℕ)
directives_version (FirstDirective b d i) = version_of d None
directives_version (NextDirective ds d i) = version_of d (directives_version ds)

abbrev pub start_version : Start → Option (ℕ × ℕ)
start_version (AtFresh b) = None
start_version (AfterDirectives ds) = directives_version ds
start_version (AfterRoot ro) = None

-- a document without `---` starts at its first lexeme
abbrev pub bare_document_start : TerminalKind → At → TreeEvent
bare_document_start (Part k) i =
    choose i.begins_key (pointed (DocumentStarts false None) i.start)
    (tree_event (DocumentStarts false None) i.shown.start i.shown.end i.own_indent)
bare_document_start kind i = pointed (DocumentStarts false None) i.start

abbrev mutual
  pub before_events : Before → List TreeEvent → List TreeEvent
  before_events Beginning more = pointed StreamStarts text_start ∷ more
  before_events (ExtraEnd b i) more = before_events b more
  before_events (Closed ro i) more = rooted_events ro (shown_event DocumentEnds i ∷ more)

  pub directives_events : Directives → List TreeEvent → List TreeEvent
  directives_events (FirstDirective b d i) more = before_events b more
  directives_events (NextDirective ds d i) more = directives_events ds more

  pub start_events : Start → List TreeEvent → List TreeEvent
  start_events (AtFresh b) more = before_events b more
  start_events (AfterDirectives ds) more = directives_events ds more
  start_events (AfterRoot ro) more = rooted_events ro (pointed DocumentEnds (root_end ro) ∷ more)

  pub rooted_events : Rooted → List TreeEvent → List TreeEvent
  rooted_events (BareRoot b t) more =
      before_events b (bare_document_start (first_terminal t).kind (first_terminal t).at ∷ node_events t None more)
  rooted_events (ExplicitRoot s i v) more =
      start_events s (shown_event (DocumentStarts true (start_version s)) i ∷ content_events v i.shown.end None more)

abbrev pub stream_events : Stream → List TreeEvent → List TreeEvent
stream_events (EndFresh b i) more = before_events b (shown_event StreamEnds i ∷ more)
stream_events (EndRooted ro i) more =
    rooted_events ro (pointed DocumentEnds (root_end ro) ∷ shown_event StreamEnds i ∷ more)
