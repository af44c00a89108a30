-- In the events of trees mappings are in pairs.
use Rattle.std.proofs.Common.{◌≡◌, ℕ, Bool, true, false, List, [], ◌∷◌, ◌++◌, Option, Some, None, refl, ap, ◌∙◌}
use Rattle.std.specs.Prelude.{if◌then◌else◌}
use Rattle.granit_base.specs.Place.{Mark}
use Rattle.granit_base.specs.Written.{Written}
use Rattle.granit_error.specs.OptionsData.{OptionsData}
use Rattle.granit_language.specs.Choice.{choose}
use Rattle.granit_language.specs.Node.{TreeProperties, Node, AliasNode, ScalarNode, Alone, Flow}
use Rattle.granit_language.specs.Node.{Sequence, Mapping, Content, Nothing, Just, Entries, Entry, EntryLead, NoEntry}
use Rattle.granit_language.specs.Node.{AfterEntry, Pairs, Through, PairLead, NoPair, AfterPair, Pair, WithColon}
use Rattle.granit_language.specs.Node.{AskOnly, Left, SimpleKey, Asked, NoKey, FlowLead, NoItem, AfterItem, FlowLast}
use Rattle.granit_language.specs.Node.{NoLast, LastItem, FlowItem, Single, Paired, Before, Beginning, ExtraEnd, Closed}
use Rattle.granit_language.specs.Node.{Directives, FirstDirective, NextDirective, Start, AtFresh, AfterDirectives}
use Rattle.granit_language.specs.Node.{AfterRoot, Rooted, BareRoot, ExplicitRoot, Stream, EndFresh, EndRooted}
use Rattle.granit_language.specs.Placed.{pair_front}
use Rattle.granit_language.specs.Room.{Holder, BlockIn, FlowIn}
use Rattle.granit_language.specs.Scope.{Scope}
use Rattle.granit_language.specs.Scoping.{number_of_anchor}
use Rattle.granit_language.specs.Telling.{AnchorTold, properties_anchor, anchor_told, alias_told, events_told}
use Rattle.granit_language.specs.Terminal.{TerminalKind, Question, Part, At, Terminal, text_start}
use Rattle.granit_language.specs.TreeEvents.{AliasIs, TreeEvent}
use Rattle.granit_language.specs.TreeEvents.{MappingEnds, DocumentEnds, SequenceEnds, tree_event, pointed}
use Rattle.granit_language.specs.TreeEvents.{shown_event, null, pair_start}
use Rattle.granit_language.specs.TreeEvents.{sequence_start, value_place, indent_of_key, node_events}
use Rattle.granit_language.specs.TreeEvents.{content_events, entries_events, entry_lead_events, pairs_events}
use Rattle.granit_language.specs.TreeEvents.{pair_lead_events, pair_events, left_events, flow_events, last_events}
use Rattle.granit_language.specs.TreeEvents.{flow_item_events, pair_closes, flow_end, first_terminal, root_end}
use Rattle.granit_language.specs.TreeEvents.{start_version, bare_document_start, before_events, directives_events}
use Rattle.granit_language.specs.TreeEvents.{start_events, rooted_events, stream_events, StreamEnds, DocumentStarts}
use Rattle.granit_lexemes.specs.PlainEvent as plain
use Rattle.granit_lexemes.specs.PlainEvent.{PlainEvent, event_at}
use Rattle.granit_lexemes.specs.declared.layout.Bracket.{Bracket}
use Rattle.granit_lexemes.specs.declared.layout.Bracket.TheVariants.{Square, Curly}
use Rattle.granit_shapes.specs.Turns.{NextNode, AnyNode, KeyNode, ValueNode, node_passed, event_passed, passed_then}
use Rattle.granit_shapes.specs.Turns.{events_passed, InPairs}

abbrev told_passed : OptionsData → List TreeEvent → List NextNode → Option (List NextNode)
told_passed o es ns = events_passed (events_told o es) ns

-- ---- an event of a tree

anchor_if : (b : Bool) (e : PlainEvent) (more : List PlainEvent) (ns : List NextNode)
    → event_passed e.kind ns ≡ Some ns
    → events_passed ((if b then e ∷ [] else []) ++ more) ns ≡ events_passed more ns
anchor_if true e more ns p = ap (λ r. passed_then r (events_passed more)) p
anchor_if false e more ns p = refl

anchor_passed : (o : OptionsData) (a : AnchorTold) (more : List PlainEvent) (ns : List NextNode)
    → events_passed (anchor_told o a [] ++ more) ns ≡ events_passed more ns
anchor_passed o None more ns = refl
anchor_passed o (Some a) more ns = anchor_if o.emit_anchor_events (event_at (plain.Anchor a.0 a.1) a.2) more ns refl

-- behind a node's first event stands that of its anchor
begun : (o : OptionsData) (p : TreeProperties) (more : List TreeEvent) (ns : List NextNode)
    → events_passed (anchor_told o (properties_anchor p) [] ++ events_told o more) ns ≡ told_passed o more ns
begun o p more ns = anchor_passed o (properties_anchor p) (events_told o more) ns

alias_node : (name : Written) (n : Option ℕ) (ns : List NextNode)
    → event_passed (alias_told name n) ns ≡ Some (node_passed ns)
alias_node name (Some n) ns = refl
alias_node name None ns = refl

alias_passed : (o : OptionsData) (name : Written) (s : Scope) (from to : Mark) (indent : Option ℕ)
    (more : List TreeEvent) (ns : List NextNode)
    → told_passed o (tree_event (AliasIs name s) from to indent ∷ more) ns ≡ told_passed o more (node_passed ns)
alias_passed o name s from to indent more ns =
    ap (λ r. passed_then r (events_passed (events_told o more)))
    (alias_node name (number_of_anchor name.characters s) ns)

sequence_starts : (o : OptionsData) (p : TreeProperties) (loose : Bool) (i : At) (indent : Option ℕ)
    (more : List TreeEvent) (ns : List NextNode)
    → told_passed o (sequence_start p loose i indent ∷ more) ns ≡ told_passed o more (AnyNode ∷ ns)
sequence_starts o p true i indent more ns = begun o p more (AnyNode ∷ ns)
sequence_starts o p false i indent more ns = begun o p more (AnyNode ∷ ns)

pair_starts : (o : OptionsData) (kind : TerminalKind) (i : At) (more : List TreeEvent) (ns : List NextNode)
    → told_passed o (pair_start kind i ∷ more) ns ≡ told_passed o more (KeyNode ∷ ns)
pair_starts o Question i more ns = refl
pair_starts o kind i more ns = refl

document_starts : (o : OptionsData) (kind : TerminalKind) (i : At) (more : List TreeEvent) (ns : List NextNode)
    → told_passed o (bare_document_start kind i ∷ more) ns ≡ told_passed o more ns
document_starts o (Part k) i more ns = begins i.begins_key
  where
    begins : (b : Bool) → told_passed o (choose b (pointed (DocumentStarts false None) i.start)
        (tree_event (DocumentStarts false None) i.shown.start i.shown.end i.own_indent) ∷ more) ns
        ≡ told_passed o more ns
    begins true = refl
    begins false = refl
document_starts o kind i more ns = refl

-- ---- nodes

-- the next node in brackets
abbrev in_bracket : Bracket → NextNode
in_bracket Square = AnyNode
in_bracket Curly = KeyNode

mutual
  node_pairs : (o : OptionsData) (t : Node) (indent : Option ℕ) (more : List TreeEvent) (ns : List NextNode)
      → told_passed o (node_events t indent more) ns ≡ told_passed o more (node_passed ns)
  node_pairs o (AliasNode name i) indent more ns = alias_passed o name i.scope i.shown.start i.shown.end indent more ns
  node_pairs o (ScalarNode p style text i) indent more ns = begun o p more (node_passed ns)
  node_pairs o (Alone p) indent more ns = begun o p more (node_passed ns)
  node_pairs o (Flow p Square b lead last e) indent more ns =
      begun o p (flow_events lead Square (last_events last Square e (flow_end Square e ∷ more))) (AnyNode ∷ ns)
      ∙ (flow_pairs o lead Square (last_events last Square e (flow_end Square e ∷ more)) ns
      ∙ last_pairs o last Square e (flow_end Square e ∷ more) ns)
  node_pairs o (Flow p Curly b lead last e) indent more ns =
      begun o p (flow_events lead Curly (last_events last Curly e (flow_end Curly e ∷ more))) (KeyNode ∷ ns)
      ∙ (flow_pairs o lead Curly (last_events last Curly e (flow_end Curly e ∷ more)) ns
      ∙ last_pairs o last Curly e (flow_end Curly e ∷ more) ns)
  node_pairs o (Sequence p loose c es e) indent more ns = entries_pairs o es p loose indent
      (pointed SequenceEnds e ∷ more) ns
  node_pairs o (Mapping p c ps e) indent more ns = mapping_pairs o ps c p indent (pointed MappingEnds e ∷ more) ns

  content_pairs : (o : OptionsData) (v : Content) (x : Mark) (indent : Option ℕ) (more : List TreeEvent)
      (ns : List NextNode) → told_passed o (content_events v x indent more) ns ≡ told_passed o more (node_passed ns)
  content_pairs o Nothing x indent more ns = refl
  content_pairs o (Just t) x indent more ns = node_pairs o t indent more ns

  entries_pairs : (o : OptionsData) (es : Entries) (p : TreeProperties) (loose : Bool) (indent : Option ℕ)
      (more : List TreeEvent) (ns : List NextNode)
      → told_passed o (entries_events es p loose indent more) ns ≡ told_passed o more (AnyNode ∷ ns)
  entries_pairs o (Entry lead i v) p loose indent more ns =
      entry_lead_pairs o lead i p loose indent (content_events v i.end None more) ns
      ∙ content_pairs o v i.end None more (AnyNode ∷ ns)

  entry_lead_pairs : (o : OptionsData) (lead : EntryLead) (i : At) (p : TreeProperties) (loose : Bool)
      (indent : Option ℕ) (more : List TreeEvent) (ns : List NextNode)
      → told_passed o (entry_lead_events lead i p loose indent more) ns ≡ told_passed o more (AnyNode ∷ ns)
  entry_lead_pairs o NoEntry i p loose indent more ns = sequence_starts o p loose i indent more ns
  entry_lead_pairs o (AfterEntry es) i p loose indent more ns = entries_pairs o es p loose indent more ns

  mapping_pairs : (o : OptionsData) (ps : Pairs) (c : ℕ) (p : TreeProperties) (indent : Option ℕ)
      (more : List TreeEvent) (ns : List NextNode)
      → told_passed o (pairs_events ps c p indent more) ns ≡ told_passed o more (KeyNode ∷ ns)
  mapping_pairs o (Through lead pair) c p indent more ns =
      pair_lead_pairs o lead (pair_front pair) c p indent (pair_events pair (BlockIn c) text_start more) ns
      ∙ one_pair o pair (BlockIn c) text_start more ns

  pair_lead_pairs : (o : OptionsData) (lead : PairLead) (x : Terminal) (c : ℕ) (p : TreeProperties)
      (indent : Option ℕ) (more : List TreeEvent) (ns : List NextNode)
      → told_passed o (pair_lead_events lead x c p indent more) ns ≡ told_passed o more (KeyNode ∷ ns)
  pair_lead_pairs o NoPair x c p indent more ns = begun o p more (KeyNode ∷ ns)
  pair_lead_pairs o (AfterPair ps) x c p indent more ns = mapping_pairs o ps c p indent more ns

  one_pair : (o : OptionsData) (pair : Pair) (h : Holder) (x : Mark) (more : List TreeEvent) (ns : List NextNode)
      → told_passed o (pair_events pair h x more) (KeyNode ∷ ns) ≡ told_passed o more (KeyNode ∷ ns)
  one_pair o (WithColon left m v) h x more ns =
      left_pairs o left h m (content_events v (value_place h left m x) None more) ns
      ∙ content_pairs o v (value_place h left m x) None more (ValueNode ∷ ns)
  one_pair o (AskOnly q v e) h x more ns =
      content_pairs o v e (indent_of_key h) (null e None ∷ more) (KeyNode ∷ ns)

  left_pairs : (o : OptionsData) (left : Left) (h : Holder) (m : At) (more : List TreeEvent) (ns : List NextNode)
      → told_passed o (left_events left h m more) (KeyNode ∷ ns) ≡ told_passed o more (ValueNode ∷ ns)
  left_pairs o (SimpleKey f k n) h m more ns = node_pairs o k (indent_of_key h) more (KeyNode ∷ ns)
  left_pairs o (Asked q v) h m more ns = content_pairs o v m.start (indent_of_key h) more (KeyNode ∷ ns)
  left_pairs o NoKey h m more ns = refl

  flow_pairs : (o : OptionsData) (lead : FlowLead) (b : Bracket) (more : List TreeEvent) (ns : List NextNode)
      → told_passed o (flow_events lead b more) (in_bracket b ∷ ns) ≡ told_passed o more (in_bracket b ∷ ns)
  flow_pairs o NoItem b more ns = refl
  flow_pairs o (AfterItem lead item m) b more ns =
      flow_pairs o lead b (flow_item_events item b m.start more) ns ∙ item_pairs o item b m.start more ns

  last_pairs : (o : OptionsData) (last : FlowLast) (b : Bracket) (e : At) (more : List TreeEvent) (ns : List NextNode)
      → told_passed o (last_events last b e more) (in_bracket b ∷ ns) ≡ told_passed o more (in_bracket b ∷ ns)
  last_pairs o NoLast b e more ns = refl
  last_pairs o (LastItem item) b e more ns = item_pairs o item b e.start more ns

  item_pairs : (o : OptionsData) (item : FlowItem) (b : Bracket) (x : Mark) (more : List TreeEvent)
      (ns : List NextNode)
      → told_passed o (flow_item_events item b x more) (in_bracket b ∷ ns) ≡ told_passed o more (in_bracket b ∷ ns)
  item_pairs o (Single t) Square x more ns = node_pairs o t None more (AnyNode ∷ ns)
  item_pairs o (Single t) Curly x more ns = node_pairs o t None (null x None ∷ more) (KeyNode ∷ ns)
  item_pairs o (Paired pair) Square x more ns =
      pair_starts o (pair_front pair).kind (pair_front pair).at
      (pair_events pair (FlowIn Square) x (pair_closes Square x more)) (AnyNode ∷ ns)
      ∙ one_pair o pair (FlowIn Square) x (pointed MappingEnds x ∷ more) (AnyNode ∷ ns)
  item_pairs o (Paired pair) Curly x more ns = one_pair o pair (FlowIn Curly) x more ns

-- ---- streams

mutual
  before_pairs : (o : OptionsData) (b : Before) (more : List TreeEvent)
      → told_passed o (before_events b more) [] ≡ told_passed o more []
  before_pairs o Beginning more = refl
  before_pairs o (ExtraEnd b i) more = before_pairs o b more
  before_pairs o (Closed ro i) more = rooted_pairs o ro (shown_event DocumentEnds i ∷ more)

  directives_pairs : (o : OptionsData) (ds : Directives) (more : List TreeEvent)
      → told_passed o (directives_events ds more) [] ≡ told_passed o more []
  directives_pairs o (FirstDirective b d i) more = before_pairs o b more
  directives_pairs o (NextDirective ds d i) more = directives_pairs o ds more

  start_pairs : (o : OptionsData) (s : Start) (more : List TreeEvent)
      → told_passed o (start_events s more) [] ≡ told_passed o more []
  start_pairs o (AtFresh b) more = before_pairs o b more
  start_pairs o (AfterDirectives ds) more = directives_pairs o ds more
  start_pairs o (AfterRoot ro) more = rooted_pairs o ro (pointed DocumentEnds (root_end ro) ∷ more)

  rooted_pairs : (o : OptionsData) (ro : Rooted) (more : List TreeEvent)
      → told_passed o (rooted_events ro more) [] ≡ told_passed o more []
  rooted_pairs o (BareRoot b t) more =
      before_pairs o b
      (bare_document_start (first_terminal t).kind (first_terminal t).at ∷ node_events t None more)
      ∙ (document_starts o (first_terminal t).kind (first_terminal t).at (node_events t None more) []
      ∙ node_pairs o t None more [])
  rooted_pairs o (ExplicitRoot s i v) more =
      start_pairs o s (shown_event (DocumentStarts true (start_version s)) i ∷ content_events v i.shown.end None more)
      ∙ content_pairs o v i.shown.end None more []

pub stream_pairs : (o : OptionsData) (s : Stream) → InPairs (events_told o (stream_events s []))
stream_pairs o (EndFresh b i) = before_pairs o b (shown_event StreamEnds i ∷ [])
stream_pairs o (EndRooted ro i) =
    rooted_pairs o ro (pointed DocumentEnds (root_end ro) ∷ shown_event StreamEnds i ∷ [])
