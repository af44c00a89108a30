-- At most so many block collections are open at once.
use Rattle.std.specs.Prelude.{ℕ, suc, Bool, true, ◌&&◌, nat_le}
use Rattle.granit_language.specs.Node.{Node, AliasNode, ScalarNode, Alone, Flow, Sequence, Mapping, Content, Nothing}
use Rattle.granit_language.specs.Node.{Just, Entries, Entry, EntryLead, NoEntry, AfterEntry, Pairs, Through, PairLead}
use Rattle.granit_language.specs.Node.{NoPair, AfterPair, Pair, WithColon, AskOnly, Left, SimpleKey, Asked, NoKey}
use Rattle.granit_language.specs.Node.{FlowLead, NoItem, AfterItem, FlowLast, NoLast, LastItem, FlowItem, Single}
use Rattle.granit_language.specs.Node.{Paired, Before, Beginning, ExtraEnd, Closed, Directives, FirstDirective}
use Rattle.granit_language.specs.Node.{NextDirective, Start, AtFresh, AfterDirectives, AfterRoot, Rooted, BareRoot}
use Rattle.granit_language.specs.Node.{ExplicitRoot, Stream, EndFresh, EndRooted}

-- Each function says whether a limit n is kept, where d block collections stand around and it was kept before.
abbrev mutual
  pub node_within : ℕ → Node → ℕ → Bool → Bool
  node_within n (AliasNode name i) d b = b
  node_within n (ScalarNode p style text i) d b = b
  node_within n (Alone p) d b = b
  node_within n (Flow p bracket o lead last e) d b = last_within n last d (flow_within n lead d b)
  node_within n (Sequence p loose c es e) d b = entries_within n es (suc d) (b && nat_le (suc d) n)
  node_within n (Mapping p c ps e) d b = pairs_within n ps (suc d) (b && nat_le (suc d) n)

  pub content_within : ℕ → Content → ℕ → Bool → Bool
  content_within n Nothing d b = b
  content_within n (Just t) d b = node_within n t d b

  pub entries_within : ℕ → Entries → ℕ → Bool → Bool
  entries_within n (Entry lead i v) d b = content_within n v d (entry_lead_within n lead d b)

  pub entry_lead_within : ℕ → EntryLead → ℕ → Bool → Bool
  entry_lead_within n NoEntry d b = b
  entry_lead_within n (AfterEntry es) d b = entries_within n es d b

  pub pairs_within : ℕ → Pairs → ℕ → Bool → Bool
  pairs_within n (Through lead pair) d b = pair_within n pair d (pair_lead_within n lead d b)

  pub pair_lead_within : ℕ → PairLead → ℕ → Bool → Bool
  pair_lead_within n NoPair d b = b
  pair_lead_within n (AfterPair ps) d b = pairs_within n ps d b

  pub pair_within : ℕ → Pair → ℕ → Bool → Bool
  pair_within n (WithColon left m v) d b = content_within n v d (left_within n left d b)
  pair_within n (AskOnly q v e) d b = content_within n v d b

  pub left_within : ℕ → Left → ℕ → Bool → Bool
  left_within n (SimpleKey f k m) d b = node_within n k d b
  left_within n (Asked q v) d b = content_within n v d b
  left_within n NoKey d b = b

  pub flow_within : ℕ → FlowLead → ℕ → Bool → Bool
  flow_within n NoItem d b = b
  flow_within n (AfterItem lead item m) d b = item_within n item d (flow_within n lead d b)

  pub last_within : ℕ → FlowLast → ℕ → Bool → Bool
  last_within n NoLast d b = b
  last_within n (LastItem item) d b = item_within n item d b

  pub item_within : ℕ → FlowItem → ℕ → Bool → Bool
  item_within n (Single t) d b = node_within n t d b
  item_within n (Paired pair) d b = pair_within n pair d b

abbrev mutual
  pub before_within : ℕ → Before → Bool
  before_within n Beginning = true
  before_within n (ExtraEnd b i) = before_within n b
  before_within n (Closed ro i) = rooted_within n ro

  pub directives_within : ℕ → Directives → Bool
  directives_within n (FirstDirective b d i) = before_within n b
  directives_within n (NextDirective ds d i) = directives_within n ds

  pub start_within : ℕ → Start → Bool
  start_within n (AtFresh b) = before_within n b
  start_within n (AfterDirectives ds) = directives_within n ds
  start_within n (AfterRoot ro) = rooted_within n ro

  pub rooted_within : ℕ → Rooted → Bool
  rooted_within n (BareRoot b t) = node_within n t 0 (before_within n b)
  rooted_within n (ExplicitRoot s i v) = content_within n v 0 (start_within n s)

abbrev pub stream_within : ℕ → Stream → Bool
stream_within n (EndFresh b i) = before_within n b
stream_within n (EndRooted ro i) = rooted_within n ro
