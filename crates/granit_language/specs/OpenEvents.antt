-- The events before an open place.
use Rattle.std.specs.Prelude.{ℕ, true, List, ◌∷◌, Option, None}
use Rattle.granit_base.specs.Place.{Mark}
use Rattle.granit_language.specs.Node.{FlowItem, Single, Paired}
use Rattle.granit_language.specs.OpenPlace.{Bare, Explicit, Around, BlockPairs, FlowPairs, Hole, AtRoot, AtEntry}
use Rattle.granit_language.specs.OpenPlace.{AtItem, AtKey, AtAsk, AtColon, OpenPlace, Fresh, InDirectives, BehindRoot}
use Rattle.granit_language.specs.OpenPlace.{Ended, Want, PastEntry, PastKey, PastAsk, PastPair, PastItem, holder}
use Rattle.granit_language.specs.Placed.{left_front, pair_front}
use Rattle.granit_language.specs.Room.{FlowIn}
use Rattle.granit_language.specs.Terminal.{Open, Question, Part, Terminal, terminal, no_terminal}
use Rattle.granit_language.specs.TreeEvents.{DocumentStarts, TreeEvent, shown_event, indent_of_key, flow_start}
use Rattle.granit_language.specs.TreeEvents.{pair_opens, pair_closes, node_events, content_events, entries_events}
use Rattle.granit_language.specs.TreeEvents.{entry_lead_events, pair_lead_events, pair_events, left_events, flow_events}
use Rattle.granit_language.specs.TreeEvents.{first_with, entries_first, entry_lead_first, pair_lead_first}
use Rattle.granit_language.specs.TreeEvents.{start_version, bare_document_start, before_events, directives_events}
use Rattle.granit_language.specs.TreeEvents.{start_events, rooted_events, stream_events}
use Rattle.granit_lexemes.specs.declared.layout.Bracket.{Bracket}

abbrev pub hole_indent : Hole → Option ℕ
hole_indent (AtRoot root) = None
hole_indent (AtEntry r p loose c lead i) = None
hole_indent (AtItem r p bracket o lead) = None
hole_indent (AtKey r a f) = indent_of_key (holder a)
hole_indent (AtAsk r a q) = indent_of_key (holder a)
hole_indent (AtColon r a left m) = None

abbrev pub around_first : Around → Terminal → Terminal
around_first (BlockPairs p c lead) x = first_with p (pair_lead_first lead x)
around_first (FlowPairs p bracket o lead) x = first_with p (terminal (Part (Open bracket)) o)

-- before a pair that begins with a lexeme
abbrev pub around_before : Around → Terminal → Option ℕ → List TreeEvent → List TreeEvent
around_before (BlockPairs p c lead) x indent more = pair_lead_events lead x c p indent more
around_before (FlowPairs p bracket o lead) x indent more = flow_start p bracket o indent ∷ flow_events lead bracket more

abbrev pub around_opens : Around → Terminal → List TreeEvent → List TreeEvent
around_opens (BlockPairs p c lead) x more = more
around_opens (FlowPairs p bracket o lead) x more = pair_opens bracket x more

abbrev pub around_events : Around → Terminal → Option ℕ → List TreeEvent → List TreeEvent
around_events a x indent more = around_before a x indent (around_opens a x more)

-- before a hole, where what stands in it begins with a lexeme
abbrev pub hole_events : Hole → Terminal → List TreeEvent → List TreeEvent
hole_events (AtRoot (Bare b)) f more = before_events b (bare_document_start f.kind f.at ∷ more)
hole_events (AtRoot (Explicit s i)) f more =
    start_events s (shown_event (DocumentStarts true (start_version s)) i ∷ more)
hole_events (AtEntry r p loose c lead i) f more =
    hole_events r (first_with p (entry_lead_first lead i)) (entry_lead_events lead i p loose (hole_indent r) more)
hole_events (AtItem r p bracket o lead) f more =
    hole_events r (first_with p (terminal (Part (Open bracket)) o))
    (flow_start p bracket o (hole_indent r) ∷ flow_events lead bracket more)
hole_events (AtKey r a k) f more = hole_events r (around_first a k) (around_events a k (hole_indent r) more)
hole_events (AtAsk r a q) f more =
    hole_events r (around_first a (terminal Question q)) (around_events a (terminal Question q) (hole_indent r) more)
hole_events (AtColon r a left m) f more =
    hole_events r (around_first a (left_front left m))
    (around_events a (left_front left m) (hole_indent r) (left_events left (holder a) m more))

abbrev pub item_so_far : FlowItem → Bracket → Mark → List TreeEvent → List TreeEvent
item_so_far (Single t) bracket x more = node_events t None more
item_so_far (Paired pair) bracket x more =
    pair_opens bracket (pair_front pair) (pair_events pair (FlowIn bracket) x (pair_closes bracket x more))

-- before an open place, in front of what stands at a place
abbrev pub open_events : Mark → OpenPlace → List TreeEvent → List TreeEvent
open_events x (Fresh b) more = before_events b more
open_events x (InDirectives ds) more = directives_events ds more
open_events x (BehindRoot ro) more = rooted_events ro more
open_events x (Ended s) more = stream_events s more
open_events x (Want r p) more = hole_events r (first_with p no_terminal) more
open_events x (PastEntry r p loose c es) more =
    hole_events r (first_with p (entries_first es)) (entries_events es p loose (hole_indent r) more)
open_events x (PastKey r a f k) more =
    hole_events r (around_first a f) (around_events a f (hole_indent r) (node_events k (indent_of_key (holder a)) more))
open_events x (PastAsk r a q v) more =
    hole_events r (around_first a (terminal Question q))
    (around_events a (terminal Question q) (hole_indent r) (content_events v x (indent_of_key (holder a)) more))
open_events x (PastPair r a pair) more =
    hole_events r (around_first a (pair_front pair))
    (around_events a (pair_front pair) (hole_indent r) (pair_events pair (holder a) x more))
open_events x (PastItem r p bracket o lead item) more =
    hole_events r (first_with p (terminal (Part (Open bracket)) o))
    (flow_start p bracket o (hole_indent r) ∷ flow_events lead bracket (item_so_far item bracket x more))
