-- What a lexeme ends: the event machine's endings are those of the machine that builds trees.
use Rattle.std.proofs.Common.{◌≡◌, ℕ, Bool, true, false, List, [], ◌∷◌, ◌++◌, refl, sym, ap, ◌∙◌, subst, ◌||◌, Some}
use Rattle.std.proofs.Common.{None}
use Rattle.granit_base.specs.Place.{Mark}
use Rattle.granit_event_machine.specs.EventMachine.{FlowSequenceFrame, EventState, Ending, ending, with_event}
use Rattle.granit_event_machine.specs.EventMachine.{past_sequence}
use Rattle.granit_event_machine.specs.EventMachine.{past_mapping, past_asked, past_curly, past_curly_asked, past_made}
use Rattle.granit_event_machine.specs.EventMachine.{past_square_asked, finish_frames, frames_room, frames_indent}
use Rattle.granit_event_machine.specs.EventMachine.{close_frames, ended_by}
use Rattle.granit_event_machine.specs.PlaceFrames.{hole_frames, state_at}
use Rattle.granit_language.specs.Choice.{choose}
use Rattle.granit_language.specs.Node.{TreeProperties, NoProperties, One, Two, Node, Alone, Sequence, Mapping, Content}
use Rattle.granit_language.specs.Node.{Nothing, Just, Entries, Entry, Through, PairLead, Pair, WithColon, AskOnly}
use Rattle.granit_language.specs.Node.{SimpleKey, Asked, NoKey, FlowLead, Single, Paired, BareRoot, ExplicitRoot}
use Rattle.granit_language.specs.OpenEvents.{hole_indent, around_first, around_events, hole_events, open_events}
use Rattle.granit_language.specs.OpenPlace.{Bare, Explicit, Around, BlockPairs, FlowPairs, Hole, AtRoot, AtEntry}
use Rattle.granit_language.specs.OpenPlace.{AtItem, AtKey, AtAsk, AtColon, OpenPlace, Fresh, InDirectives, BehindRoot}
use Rattle.granit_language.specs.OpenPlace.{Ended, Want, PastEntry, PastKey, PastAsk, PastPair, PastItem, holder}
use Rattle.granit_language.specs.OpenPlace.{room_of, IsHole, HasOneName}
use Rattle.granit_language.specs.Placed.{pair_front}
use Rattle.granit_language.specs.Room.{BlockIn, FlowIn, Room, RightOf, ValueIn, KeyIn, BehindKey, ItemIn, Inside}
use Rattle.granit_language.specs.Room.{behind_property, continues_node, entry_empty, sequence_over, value_empty}
use Rattle.granit_language.specs.Room.{ask_empty, ask_over}
use Rattle.granit_language.specs.Settling.{end_entries, end_pair, end_ask, finish_at, settle_want, settle_place}
use Rattle.granit_language.specs.Terminal.{Question, At, Terminal, terminal, is_stream_kind, is_comma_kind, closes_kind}
use Rattle.granit_language.specs.Terminal.{stands_left, no_terminal}
use Rattle.granit_language.specs.TreeEvents.{SequenceEnds, MappingEnds, TreeEvent, pointed, null, indent_of_key}
use Rattle.granit_language.specs.TreeEvents.{properties_end, alone_event, node_events, content_events, entries_events}
use Rattle.granit_language.specs.TreeEvents.{pair_events, first_with, entries_first, first_terminal, node_end}
use Rattle.granit_lexemes.specs.declared.layout.Bracket.{Bracket}
use Rattle.granit_lexemes.specs.declared.layout.Bracket.TheVariants.{Square, Curly}

abbrev pub ending_state : Ending → EventState
ending_state (ending st es) = st

abbrev pub ending_events : Ending → List TreeEvent
ending_events (ending st es) = es

-- an ending agrees with an open place in front of what stands at a place, where these events were given before
pub record Agree (f : List TreeEvent → List TreeEvent) (x : Mark) (y : Ending) (p : OpenPlace) : Type 0 where
  pub is_open : HasOneName p
  pub state_is : ending_state y ≡ state_at p
  pub gives : (more : List TreeEvent) → open_events x p more ≡ f (ending_events y ++ more)

both :
    (f : List TreeEvent → List TreeEvent) (x : Mark) (b : Bool) (y z : Ending) (p q : OpenPlace) → Agree f x y p →
    Agree f x z q → Agree f x (choose b y z) (choose b p q)
both f x true y z p q a c = a
both f x false y z p q a c = c

one :
    (f : List TreeEvent → List TreeEvent) (x : Mark) (e : TreeEvent) (y : Ending) (p : OpenPlace) →
    Agree (λ more. f (e ∷ more)) x y p → Agree f x (with_event e y) p
one f x e (ending st es) p a = record { is_open = a.is_open; state_is = a.state_is; gives = a.gives }

same :
    (f : List TreeEvent → List TreeEvent) (x : Mark) (p : OpenPlace) → HasOneName p →
    ((more : List TreeEvent) → open_events x p more ≡ f more) → Agree f x (ending (state_at p) []) p
same f x p i h = record { is_open = i; state_is = refl; gives = h }

-- the events of a hole and a node in it
abbrev pub Filled : Hole → Node → List TreeEvent → List TreeEvent
Filled r t more = hole_events r (first_terminal t) (node_events t (hole_indent r) more)

-- a node is finished in a hole
abbrev Finishes : Terminal → Hole → (Content → OpenPlace) → Type 0
Finishes x r on =
    (t : Node) → Agree (Filled r t) x.at.start (finish_frames x (node_end t) (hole_frames r)) (on (Just t))

abbrev AroundEvents : Hole → Around → Terminal → List TreeEvent → List TreeEvent
AroundEvents r a y more = hole_events r (around_first a y) (around_events a y (hole_indent r) more)

abbrev PairEvents : Terminal → Hole → Around → Pair → List TreeEvent → List TreeEvent
PairEvents x r a pair more = AroundEvents r a (pair_front pair) (pair_events pair (holder a) x.at.start more)

abbrev AskEvents : Terminal → Hole → Around → At → Content → List TreeEvent → List TreeEvent
AskEvents x r a q v more =
    AroundEvents r a (terminal Question q) (content_events v x.at.start (indent_of_key (holder a)) more)

entries_agree :
    (x : Terminal) (on : Content → OpenPlace) (r : Hole) (p : TreeProperties) (loose : Bool) (c : ℕ) (es : Entries) →
    Finishes x r on →
    Agree (λ more. hole_events r (first_with p (entries_first es)) (entries_events es p loose (hole_indent r) more))
    x.at.start (past_sequence x loose c (hole_frames r) (finish_frames x x.at.start (hole_frames r)))
    (end_entries x on r p loose c es)
entries_agree x on r p loose c es h =
    both _ _ (sequence_over loose c x) _ _ _ _
    (one _ _ (pointed SequenceEnds x.at.start) _ _ (h (Sequence p loose c es x.at.start)))
    (same _ _ (PastEntry r p loose c es) tt (λ more. refl))

-- pairs
block_agrees :
    (x : Terminal) (on : Content → OpenPlace) (r : Hole) (p : TreeProperties) (c : ℕ) (lead : PairLead) (pair : Pair) →
    Finishes x r on →
    Agree (PairEvents x r (BlockPairs p c lead) pair) x.at.start
    (past_mapping x c (hole_frames r) (finish_frames x x.at.start (hole_frames r)))
    (end_pair x on r (BlockPairs p c lead) pair)
block_agrees x on r p c lead (WithColon left m v) h =
    both _ _ (stands_left x c) _ _ _ _
    (one _ _ (pointed MappingEnds x.at.start) _ _ (h (Mapping p c (Through lead (WithColon left m v)) x.at.start)))
    (same _ _ (PastPair r (BlockPairs p c lead) (WithColon left m v)) tt (λ more. refl))
block_agrees x on r p c lead (AskOnly q v e) h =
    both _ _ (stands_left x c) _ _ _ _
    (one _ _ (pointed MappingEnds x.at.start) _ _ (h (Mapping p c (Through lead (AskOnly q v e)) x.at.start)))
    (same _ _ (PastPair r (BlockPairs p c lead) (AskOnly q v e)) tt (λ more. refl))

-- a flow collection that is open: the hole that it stands in, its properties, its bracket and the items so far
record OpenFlow : Type 0 where
  hole : Hole
  properties : TreeProperties
  opener : At
  lead : FlowLead

abbrev opened_flow : Hole → TreeProperties → At → FlowLead → OpenFlow
opened_flow r p o lead = record { hole = r; properties = p; opener = o; lead = lead }

-- the pairs in it
abbrev flow_pairs_of : Bracket → OpenFlow → Around
flow_pairs_of bracket a = FlowPairs a.properties bracket a.opener a.lead

curly_agrees :
    (x : Terminal) (on : Content → OpenPlace) (a : OpenFlow) (pair : Pair) →
    Agree (PairEvents x a.hole (flow_pairs_of Curly a) pair) x.at.start (past_curly (hole_frames a.hole))
    (end_pair x on a.hole (flow_pairs_of Curly a) pair)
curly_agrees x on a pair = same _ _ (PastItem a.hole a.properties Curly a.opener a.lead (Paired pair)) tt (λ more. refl)

abbrev SquareOver : Terminal → Hole → Ending
SquareOver x r = finish_frames x x.at.start (FlowSequenceFrame false ∷ hole_frames r)

-- the end of a pair that a `?` makes
asked_agrees :
    (x : Terminal) (on : Content → OpenPlace) (a : OpenFlow) (q : At) (v : Content) (m : At) (w : Content) →
    Agree (PairEvents x a.hole (flow_pairs_of Square a) (WithColon (Asked q v) m w)) x.at.start
    (with_event (pointed MappingEnds x.at.start) (SquareOver x a.hole))
    (end_pair x on a.hole (flow_pairs_of Square a) (WithColon (Asked q v) m w))
asked_agrees x on a q v m w =
    one _ _ (pointed MappingEnds x.at.start) _ _
    (same _ _ (PastItem a.hole a.properties Square a.opener a.lead (Paired (WithColon (Asked q v) m w))) tt
    (λ more. refl))

alone_agrees :
    (x : Terminal) (on : Content → OpenPlace) (a : OpenFlow) (q : At) (v : Content) (e : Mark) →
    Agree (PairEvents x a.hole (flow_pairs_of Square a) (AskOnly q v e)) x.at.start
    (with_event (pointed MappingEnds x.at.start) (SquareOver x a.hole))
    (end_pair x on a.hole (flow_pairs_of Square a) (AskOnly q v e))
alone_agrees x on a q v e =
    one _ _ (pointed MappingEnds x.at.start) _ _
    (same _ _ (PastItem a.hole a.properties Square a.opener a.lead (Paired (AskOnly q v e))) tt (λ more. refl))

-- of one that a `:` makes
key_made_agrees :
    (x : Terminal) (on : Content → OpenPlace) (a : OpenFlow) (f : Terminal) (k : Node) (n : ℕ) (m : At) (w : Content) →
    Agree (PairEvents x a.hole (flow_pairs_of Square a) (WithColon (SimpleKey f k n) m w)) x.at.start
    (past_made x (FlowSequenceFrame false ∷ hole_frames a.hole) (SquareOver x a.hole))
    (end_pair x on a.hole (flow_pairs_of Square a) (WithColon (SimpleKey f k n) m w))
key_made_agrees x on a f k n m w =
    both _ _ (is_comma_kind x.kind || closes_kind Square x.kind) _ _ _ _
    (one _ _ (pointed MappingEnds x.at.start) _ _
    (same _ _ (PastItem a.hole a.properties Square a.opener a.lead (Paired (WithColon (SimpleKey f k n) m w))) tt
    (λ more. refl)))
    (same _ _ (PastPair a.hole (flow_pairs_of Square a) (WithColon (SimpleKey f k n) m w)) tt (λ more. refl))

bare_made_agrees :
    (x : Terminal) (on : Content → OpenPlace) (a : OpenFlow) (m : At) (w : Content) →
    Agree (PairEvents x a.hole (flow_pairs_of Square a) (WithColon NoKey m w)) x.at.start
    (past_made x (FlowSequenceFrame false ∷ hole_frames a.hole) (SquareOver x a.hole))
    (end_pair x on a.hole (flow_pairs_of Square a) (WithColon NoKey m w))
bare_made_agrees x on a m w =
    both _ _ (is_comma_kind x.kind || closes_kind Square x.kind) _ _ _ _
    (one _ _ (pointed MappingEnds x.at.start) _ _
    (same _ _ (PastItem a.hole a.properties Square a.opener a.lead (Paired (WithColon NoKey m w))) tt (λ more. refl)))
    (same _ _ (PastPair a.hole (flow_pairs_of Square a) (WithColon NoKey m w)) tt (λ more. refl))

-- `?` keys
block_ask_agrees :
    (x : Terminal) (on : Content → OpenPlace) (r : Hole) (p : TreeProperties) (c : ℕ) (lead : PairLead) (q : At)
    (v : Content) →
    Finishes x r on →
    Agree (AskEvents x r (BlockPairs p c lead) q v) x.at.start
    (past_asked x c (hole_frames r) (finish_frames x x.at.start (hole_frames r)))
    (end_ask x on r (BlockPairs p c lead) q v)
block_ask_agrees x on r p c lead q v h =
    both _ _ (ask_over (BlockIn c) x) _ _ _ _
    (one _ _ (null x.at.start None) _ _ (block_agrees x on r p c lead (AskOnly q v x.at.start) h))
    (same _ _ (PastAsk r (BlockPairs p c lead) q v) tt (λ more. refl))

curly_ask_agrees :
    (x : Terminal) (on : Content → OpenPlace) (a : OpenFlow) (q : At) (v : Content) →
    Agree (AskEvents x a.hole (flow_pairs_of Curly a) q v) x.at.start (past_curly_asked x (hole_frames a.hole))
    (end_ask x on a.hole (flow_pairs_of Curly a) q v)
curly_ask_agrees x on a q v =
    both _ _ (ask_over (FlowIn Curly) x) _ _ _ _
    (one _ _ (null x.at.start None) _ _ (curly_agrees x on a (AskOnly q v x.at.start)))
    (same _ _ (PastAsk a.hole (flow_pairs_of Curly a) q v) tt (λ more. refl))

square_ask_agrees :
    (x : Terminal) (on : Content → OpenPlace) (a : OpenFlow) (q : At) (v : Content) →
    Agree (AskEvents x a.hole (flow_pairs_of Square a) q v) x.at.start
    (past_square_asked x (FlowSequenceFrame false ∷ hole_frames a.hole) (SquareOver x a.hole))
    (end_ask x on a.hole (flow_pairs_of Square a) q v)
square_ask_agrees x on a q v =
    both _ _ (ask_over (FlowIn Square) x) _ _ _ _
    (one _ _ (null x.at.start None) _ _ (alone_agrees x on a q v x.at.start))
    (same _ _ (PastAsk a.hole (flow_pairs_of Square a) q v) tt (λ more. refl))

finish_agrees : (x : Terminal) (r : Hole) → Finishes x r (finish_at x r)
finish_agrees x (AtRoot (Bare b)) t = same _ _ (BehindRoot (BareRoot b t)) tt (λ more. refl)
finish_agrees x (AtRoot (Explicit s i)) t = same _ _ (BehindRoot (ExplicitRoot s i (Just t))) tt (λ more. refl)
finish_agrees x (AtEntry r p loose c lead i) t =
    entries_agree x (finish_at x r) r p loose c (Entry lead i (Just t)) (finish_agrees x r)
finish_agrees x (AtItem r p Square o lead) t = same _ _ (PastItem r p Square o lead (Single t)) tt (λ more. refl)
finish_agrees x (AtItem r p Curly o lead) t = same _ _ (PastItem r p Curly o lead (Single t)) tt (λ more. refl)
finish_agrees x (AtKey r (BlockPairs p c lead) f) t = same _ _ (PastKey r (BlockPairs p c lead) f t) tt (λ more. refl)
finish_agrees x (AtKey r (FlowPairs p Square o lead) f) t =
    same _ _ (PastKey r (FlowPairs p Square o lead) f t) tt (λ more. refl)
finish_agrees x (AtKey r (FlowPairs p Curly o lead) f) t =
    same _ _ (PastKey r (FlowPairs p Curly o lead) f t) tt (λ more. refl)
finish_agrees x (AtAsk r (BlockPairs p c lead) q) t =
    block_ask_agrees x (finish_at x r) r p c lead q (Just t) (finish_agrees x r)
finish_agrees x (AtAsk r (FlowPairs p Square o lead) q) t =
    square_ask_agrees x (finish_at x r) (opened_flow r p o lead) q (Just t)
finish_agrees x (AtAsk r (FlowPairs p Curly o lead) q) t =
    curly_ask_agrees x (finish_at x r) (opened_flow r p o lead) q (Just t)
finish_agrees x (AtColon r (BlockPairs p c lead) left m) t =
    block_agrees x (finish_at x r) r p c lead (WithColon left m (Just t)) (finish_agrees x r)
finish_agrees x (AtColon r (FlowPairs p Curly o lead) left m) t =
    curly_agrees x (finish_at x r) (opened_flow r p o lead) (WithColon left m (Just t))
finish_agrees x (AtColon r (FlowPairs p Square o lead) (SimpleKey f k n) m) t =
    key_made_agrees x (finish_at x r) (opened_flow r p o lead) f k n m (Just t)
finish_agrees x (AtColon r (FlowPairs p Square o lead) (Asked q v) m) t =
    asked_agrees x (finish_at x r) (opened_flow r p o lead) q v m (Just t)
finish_agrees x (AtColon r (FlowPairs p Square o lead) NoKey m) t =
    bare_made_agrees x (finish_at x r) (opened_flow r p o lead) m (Just t)

-- what stays empty
nothing_agrees :
    (x : Terminal) (r : Hole) → IsHole r →
    Agree (hole_events r no_terminal) x.at.start (close_frames x (hole_frames r)) (settle_want x r NoProperties)
nothing_agrees x (AtRoot (Bare b)) i = absurd i
nothing_agrees x (AtRoot (Explicit s j)) i =
    both _ _ (is_stream_kind x.kind) _ _ _ _
    (one _ _ (null j.shown.end None) _ _ (same _ _ (BehindRoot (ExplicitRoot s j Nothing)) tt (λ more. refl)))
    (same _ _ (Want (AtRoot (Explicit s j)) NoProperties) tt (λ more. refl))
nothing_agrees x (AtEntry r p loose c lead j) i =
    both _ _ (entry_empty loose c x) _ _ _ _
    (one _ _ (null j.end None) _ _
    (entries_agree x (finish_at x r) r p loose c (Entry lead j Nothing) (finish_agrees x r)))
    (same _ _ (Want (AtEntry r p loose c lead j) NoProperties) tt (λ more. refl))
nothing_agrees x (AtItem r p Square o lead) i =
    same _ _ (Want (AtItem r p Square o lead) NoProperties) tt (λ more. refl)
nothing_agrees x (AtItem r p Curly o lead) i = same _ _ (Want (AtItem r p Curly o lead) NoProperties) tt (λ more. refl)
nothing_agrees x (AtKey r a f) i = absurd i
nothing_agrees x (AtAsk r (BlockPairs p c lead) q) i =
    both _ _ (ask_empty (BlockIn c) x) _ _ _ _
    (one _ _ (null x.at.start (Some c)) _ _
    (block_ask_agrees x (finish_at x r) r p c lead q Nothing (finish_agrees x r)))
    (same _ _ (Want (AtAsk r (BlockPairs p c lead) q) NoProperties) tt (λ more. refl))
nothing_agrees x (AtAsk r (FlowPairs p Square o lead) q) i =
    both _ _ (ask_empty (FlowIn Square) x) _ _ _ _
    (one _ _ (null x.at.start None) _ _ (square_ask_agrees x (finish_at x r) (opened_flow r p o lead) q Nothing))
    (same _ _ (Want (AtAsk r (FlowPairs p Square o lead) q) NoProperties) tt (λ more. refl))
nothing_agrees x (AtAsk r (FlowPairs p Curly o lead) q) i =
    both _ _ (ask_empty (FlowIn Curly) x) _ _ _ _
    (one _ _ (null x.at.start None) _ _ (curly_ask_agrees x (finish_at x r) (opened_flow r p o lead) q Nothing))
    (same _ _ (Want (AtAsk r (FlowPairs p Curly o lead) q) NoProperties) tt (λ more. refl))
nothing_agrees x (AtColon r (BlockPairs p c lead) left m) i =
    both _ _ (value_empty (BlockIn c) x) _ _ _ _
    (one _ _ (null m.start None) _ _
    (block_agrees x (finish_at x r) r p c lead (WithColon left m Nothing) (finish_agrees x r)))
    (same _ _ (Want (AtColon r (BlockPairs p c lead) left m) NoProperties) tt (λ more. refl))
nothing_agrees x (AtColon r (FlowPairs p Curly o lead) left m) i =
    both _ _ (value_empty (FlowIn Curly) x) _ _ _ _
    (one _ _ (null m.start None) _ _
    (curly_agrees x (finish_at x r) (opened_flow r p o lead) (WithColon left m Nothing)))
    (same _ _ (Want (AtColon r (FlowPairs p Curly o lead) left m) NoProperties) tt (λ more. refl))
nothing_agrees x (AtColon r (FlowPairs p Square o lead) (SimpleKey f k n) m) i =
    both _ _ (value_empty (FlowIn Square) x) _ _ _ _
    (one _ _ (null m.start None) _ _ (key_made_agrees x (finish_at x r) (opened_flow r p o lead) f k n m Nothing))
    (same _ _ (Want (AtColon r (FlowPairs p Square o lead) (SimpleKey f k n) m) NoProperties) tt (λ more. refl))
nothing_agrees x (AtColon r (FlowPairs p Square o lead) (Asked q v) m) i =
    both _ _ (value_empty (FlowIn Square) x) _ _ _ _
    (one _ _ (null x.at.start None) _ _ (asked_agrees x (finish_at x r) (opened_flow r p o lead) q v m Nothing))
    (same _ _ (Want (AtColon r (FlowPairs p Square o lead) (Asked q v) m) NoProperties) tt (λ more. refl))
nothing_agrees x (AtColon r (FlowPairs p Square o lead) NoKey m) i =
    both _ _ (value_empty (FlowIn Square) x) _ _ _ _
    (one _ _ (null m.start None) _ _ (bare_made_agrees x (finish_at x r) (opened_flow r p o lead) m Nothing))
    (same _ _ (Want (AtColon r (FlowPairs p Square o lead) NoKey m) NoProperties) tt (λ more. refl))

-- rooms and indents of frames are those of holes
pub indent_same : (r : Hole) → frames_indent (hole_frames r) ≡ hole_indent r
indent_same (AtRoot (Bare b)) = refl
indent_same (AtRoot (Explicit s i)) = refl
indent_same (AtEntry r p loose c lead i) = refl
indent_same (AtItem r p Square o lead) = refl
indent_same (AtItem r p Curly o lead) = refl
indent_same (AtKey r (BlockPairs p c lead) f) = refl
indent_same (AtKey r (FlowPairs p Square o lead) f) = refl
indent_same (AtKey r (FlowPairs p Curly o lead) f) = refl
indent_same (AtAsk r (BlockPairs p c lead) q) = refl
indent_same (AtAsk r (FlowPairs p Square o lead) q) = refl
indent_same (AtAsk r (FlowPairs p Curly o lead) q) = refl
indent_same (AtColon r (BlockPairs p c lead) left m) = refl
indent_same (AtColon r (FlowPairs p Curly o lead) left m) = refl
indent_same (AtColon r (FlowPairs p Square o lead) (SimpleKey f k n) m) = refl
indent_same (AtColon r (FlowPairs p Square o lead) (Asked q v) m) = refl
indent_same (AtColon r (FlowPairs p Square o lead) NoKey m) = refl

-- all of a room but its first lexeme
abbrev pub forget : Room → Room
forget (KeyIn (BlockIn c) f) = KeyIn (BlockIn c) no_terminal
forget (KeyIn (FlowIn bracket) f) = KeyIn (FlowIn Square) no_terminal
forget room = room

pub room_same : (r : Hole) → frames_room (hole_frames r) ≡ forget (room_of r)
room_same (AtRoot (Bare b)) = refl
room_same (AtRoot (Explicit s i)) = refl
room_same (AtEntry r p loose c lead i) = refl
room_same (AtItem r p Square o lead) = refl
room_same (AtItem r p Curly o lead) = refl
room_same (AtKey r (BlockPairs p c lead) f) = refl
room_same (AtKey r (FlowPairs p Square o lead) f) = refl
room_same (AtKey r (FlowPairs p Curly o lead) f) = refl
room_same (AtAsk r (BlockPairs p c lead) q) = refl
room_same (AtAsk r (FlowPairs p Square o lead) q) = refl
room_same (AtAsk r (FlowPairs p Curly o lead) q) = refl
room_same (AtColon r (BlockPairs p c lead) left m) = refl
room_same (AtColon r (FlowPairs p Curly o lead) left m) = refl
room_same (AtColon r (FlowPairs p Square o lead) (SimpleKey f k n) m) = refl
room_same (AtColon r (FlowPairs p Square o lead) (Asked q v) m) = refl
room_same (AtColon r (FlowPairs p Square o lead) NoKey m) = refl

pub behind_forget : (room : Room) → behind_property (forget room) ≡ behind_property room
behind_forget (RightOf n) = refl
behind_forget (ValueIn c) = refl
behind_forget (KeyIn (BlockIn c) f) = refl
behind_forget (KeyIn (FlowIn bracket) f) = refl
behind_forget (BehindKey c) = refl
behind_forget ItemIn = refl
behind_forget Inside = refl

pub behind_same : (r : Hole) → behind_property (frames_room (hole_frames r)) ≡ behind_property (room_of r)
behind_same r = ap behind_property (room_same r) ∙ behind_forget (room_of r)

-- equal tests
both_if :
    (f : List TreeEvent → List TreeEvent) (x : Mark) (b c : Bool) → b ≡ c → (y z : Ending) (p q : OpenPlace) →
    Agree f x y p → Agree f x z q → Agree f x (choose b y z) (choose c p q)
both_if f x b c e y z p q a d = subst (λ b. Agree f x (choose b y z) (choose c p q)) (sym e) (both f x c y z p q a d)

properties_end_agree :
    (x : Terminal) (r : Hole) (p : TreeProperties) → first_with p no_terminal ≡ first_terminal (Alone p) →
    Agree (hole_events r (first_with p no_terminal)) x.at.start
    (with_event (alone_event p (frames_indent (hole_frames r))) (finish_frames x (properties_end p) (hole_frames r)))
    (finish_at x r (Just (Alone p)))
properties_end_agree x r p e =
    subst
    (λ d.
    Agree (hole_events r (first_with p no_terminal)) x.at.start
    (with_event (alone_event p d) (finish_frames x (properties_end p) (hole_frames r)))
    (finish_at x r (Just (Alone p))))
    (sym (indent_same r)) (one _ _ (alone_event p (hole_indent r)) _ _ (finish_agrees x r (Alone p)))

pub close_agrees :
    (x : Terminal) (p : OpenPlace) → HasOneName p →
    Agree (open_events x.at.start p) x.at.start (ended_by x (state_at p)) (settle_place x p)
close_agrees x (Fresh b) i = same _ _ (Fresh b) tt (λ more. refl)
close_agrees x (InDirectives ds) i = same _ _ (InDirectives ds) tt (λ more. refl)
close_agrees x (BehindRoot ro) i = same _ _ (BehindRoot ro) tt (λ more. refl)
close_agrees x (Ended s) i = same _ _ (Ended s) tt (λ more. refl)
close_agrees x (Want r NoProperties) i = nothing_agrees x r i
close_agrees x (Want r (One k j)) i =
    both_if _ _ _ _ (ap (λ room. continues_node room (One k j) x.kind x.at) (behind_same r)) _ _ _ _
    (same _ _ (Want r (One k j)) tt (λ more. refl)) (properties_end_agree x r (One k j) refl)
close_agrees x (Want r (Two k j m h)) i =
    both_if _ _ _ _ (ap (λ room. continues_node room (Two k j m h) x.kind x.at) (behind_same r)) _ _ _ _
    (same _ _ (Want r (Two k j m h)) tt (λ more. refl)) (properties_end_agree x r (Two k j m h) refl)
close_agrees x (PastEntry r p loose c es) i = entries_agree x (finish_at x r) r p loose c es (finish_agrees x r)
close_agrees x (PastKey r (BlockPairs p c lead) f t) i =
    same _ _ (PastKey r (BlockPairs p c lead) f t) tt (λ more. refl)
close_agrees x (PastKey r (FlowPairs p Square o lead) f t) i =
    same _ _ (PastKey r (FlowPairs p Square o lead) f t) tt (λ more. refl)
close_agrees x (PastKey r (FlowPairs p Curly o lead) f t) i =
    same _ _ (PastKey r (FlowPairs p Curly o lead) f t) tt (λ more. refl)
close_agrees x (PastAsk r (BlockPairs p c lead) q v) i =
    block_ask_agrees x (finish_at x r) r p c lead q v (finish_agrees x r)
close_agrees x (PastAsk r (FlowPairs p Square o lead) q v) i =
    square_ask_agrees x (finish_at x r) (opened_flow r p o lead) q v
close_agrees x (PastAsk r (FlowPairs p Curly o lead) q v) i =
    curly_ask_agrees x (finish_at x r) (opened_flow r p o lead) q v
close_agrees x (PastPair r (BlockPairs p c lead) pair) i =
    block_agrees x (finish_at x r) r p c lead pair (finish_agrees x r)
close_agrees x (PastPair r (FlowPairs p Curly o lead) pair) i =
    curly_agrees x (finish_at x r) (opened_flow r p o lead) pair
close_agrees x (PastPair r (FlowPairs p Square o lead) (AskOnly q v e)) i =
    alone_agrees x (finish_at x r) (opened_flow r p o lead) q v e
close_agrees x (PastPair r (FlowPairs p Square o lead) (WithColon (SimpleKey f k n) m v)) i =
    key_made_agrees x (finish_at x r) (opened_flow r p o lead) f k n m v
close_agrees x (PastPair r (FlowPairs p Square o lead) (WithColon (Asked q u) m v)) i =
    asked_agrees x (finish_at x r) (opened_flow r p o lead) q u m v
close_agrees x (PastPair r (FlowPairs p Square o lead) (WithColon NoKey m v)) i =
    bare_made_agrees x (finish_at x r) (opened_flow r p o lead) m v
close_agrees x (PastItem r p Square o lead item) i = same _ _ (PastItem r p Square o lead item) tt (λ more. refl)
close_agrees x (PastItem r p Curly o lead (Single t)) i =
    same _ _ (PastItem r p Curly o lead (Single t)) tt (λ more. refl)
close_agrees x (PastItem r p Curly o lead (Paired pair)) i =
    same _ _ (PastItem r p Curly o lead (Paired pair)) tt (λ more. refl)
