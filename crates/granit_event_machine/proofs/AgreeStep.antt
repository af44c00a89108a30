-- What a lexeme gives: the event machine's steps are those of the machine that builds trees.
use Rattle.std.proofs.Common.{◌≡◌, ℕ, Bool, true, false, List, [], ◌∷◌, ◌++◌, refl, sym, ap, subst, Some, None}
use Rattle.granit_base.specs.Place.{Mark}
use Rattle.granit_event_machine.specs.EventMachine.{SequenceFrame, EventState, InFrames, frames_room, frames_indent}
use Rattle.granit_event_machine.specs.EventMachine.{EventStep, GoesTo, StopsWith, after_events, if_gives, put_frames}
use Rattle.granit_event_machine.specs.EventMachine.{flow_frame, part_frames, BlockSite, entry_frames, plain_pair}
use Rattle.granit_event_machine.specs.EventMachine.{begin_pair_frames, stop_kind, want_frames, take_top, take_frames}
use Rattle.granit_event_machine.specs.PlaceFrames.{site_in, hole_frames, state_at}
use Rattle.granit_grammar.specs.TreeMachine.{NextPlace, Go, NotTaken, if_go, part_take, entry_take, entry_at}
use Rattle.granit_grammar.specs.TreeMachine.{plain_site, pair_site, want_take, take}
use Rattle.granit_language.specs.Choice.{choose}
use Rattle.granit_language.specs.FaultKinds.{fault_kind_at}
use Rattle.granit_language.specs.GrammarFault.{GrammarFault, ExpectedBlockMappingKey}
use Rattle.granit_language.specs.Node.{TreeProperties, NoProperties, One, Two, Node, AliasNode, ScalarNode, Flow, Just}
use Rattle.granit_language.specs.Node.{NoEntry, Through, PairLead, NoPair, AfterPair, Pair, WithColon, AskOnly}
use Rattle.granit_language.specs.Node.{SimpleKey, Asked, NoKey, NoItem, NoLast, LastItem, Single, Paired}
use Rattle.granit_language.specs.OpenEvents.{hole_indent, around_first, around_before, hole_events, open_events}
use Rattle.granit_language.specs.OpenPlace.{Bare, Explicit, Around, BlockPairs, FlowPairs, Hole, AtRoot, AtEntry}
use Rattle.granit_language.specs.OpenPlace.{AtItem, AtKey, AtAsk, AtColon, OpenPlace, Fresh, InDirectives, BehindRoot}
use Rattle.granit_language.specs.OpenPlace.{Want, PastEntry, PastKey, PastAsk, PastPair, PastItem, room_of, IsHole}
use Rattle.granit_language.specs.OpenPlace.{HasOneName}
use Rattle.granit_language.specs.Room.{BlockIn, FlowIn, Room, RightOf, ValueIn, KeyIn, BehindKey, ItemIn, Inside}
use Rattle.granit_language.specs.Room.{behind_property, room_behind, right_fits, loose_fits, indicates, opens}
use Rattle.granit_language.specs.Room.{part_fits, differ}
use Rattle.granit_language.specs.Settling.{put_in}
use Rattle.granit_language.specs.Terminal.{PartKind, Alias, Property, Scalar, Open, TerminalKind, Directive}
use Rattle.granit_language.specs.Terminal.{DocumentStart, DocumentEnd, TheEnd, Dash, Question, Comma, Colon, Close}
use Rattle.granit_language.specs.Terminal.{Part, At, terminal, edge, entry_in, no_terminal}
use Rattle.granit_language.specs.TreeEvents.{TreeEvent, scalar_event, alias_event, flow_start, sequence_start}
use Rattle.granit_language.specs.TreeEvents.{mapping_start, pair_start, node_events, first_with, first_terminal}
use Rattle.granit_language.specs.TreeEvents.{node_end, bare_document_start}
use Rattle.granit_lexemes.specs.declared.layout.Bracket.{Bracket}
use Rattle.granit_lexemes.specs.declared.layout.Bracket.TheVariants.{Square, Curly}
use Rattle.granit_event_machine.proofs.AgreeClose.{indent_same, forget, room_same, behind_same}

-- A step agrees with a step, where these events were given before and the fault would be of this kind.
pub data StepsTo (f : List TreeEvent → List TreeEvent) (k : GrammarFault) : EventStep → NextPlace → Type 0 where
  goes_to :
      {st : EventState} {es : List TreeEvent} {q : OpenPlace} → HasOneName q → st ≡ state_at q →
      ((y : Mark) (more : List TreeEvent) → open_events y q more ≡ f (es ++ more)) → StepsTo f k (GoesTo st es) (Go q)
  stops_at : {j : GrammarFault} → j ≡ k → StepsTo f k (StopsWith j) NotTaken

after_none :
    (f : List TreeEvent → List TreeEvent) (k : GrammarFault) (s : EventStep) (n : NextPlace) → StepsTo f k s n →
    StepsTo f k (after_events [] s) n
after_none f k s n (goes_to i e g) = goes_to i e g
after_none f k s n (stops_at e) = stops_at e

after_one :
    (f : List TreeEvent → List TreeEvent) (k : GrammarFault) (e : TreeEvent) (s : EventStep) (n : NextPlace) →
    StepsTo (λ more. f (e ∷ more)) k s n → StepsTo f k (after_events (e ∷ []) s) n
after_one f k e s n (goes_to i h g) = goes_to i h g
after_one f k e s n (stops_at h) = stops_at h

if_steps : (f : List TreeEvent → List TreeEvent) (k : GrammarFault) (a b : Bool) → a ≡ b →
    (s : EventStep) (n : NextPlace) →
    StepsTo f k s n → StepsTo f k (if_gives a k s) (if_go b n)
if_steps f k true true e s n h = h
if_steps f k false false e s n h = stops_at refl
if_steps f k true false e s n h = cc (e)
if_steps f k false true e s n h = cc (e)

choose_steps :
    (f : List TreeEvent → List TreeEvent) (k : GrammarFault) (a b : Bool) → a ≡ b →
    (s t : EventStep) (n m : NextPlace) →
    StepsTo f k s n → StepsTo f k t m → StepsTo f k (choose a s t) (choose b n m)
choose_steps f k true true e s t n m h g = h
choose_steps f k false false e s t n m h g = g
choose_steps f k true false e s t n m h g = cc (e)
choose_steps f k false true e s t n m h g = cc (e)

-- a finished node
put_state : (r : Hole) (t : Node) → put_frames (node_end t) (hole_frames r) ≡ state_at (put_in r (Just t))
put_state (AtRoot (Bare b)) t = refl
put_state (AtRoot (Explicit s i)) t = refl
put_state (AtEntry r p loose c lead i) t = refl
put_state (AtItem r p Square o lead) t = refl
put_state (AtItem r p Curly o lead) t = refl
put_state (AtKey r (BlockPairs p c lead) f) t = refl
put_state (AtKey r (FlowPairs p Square o lead) f) t = refl
put_state (AtKey r (FlowPairs p Curly o lead) f) t = refl
put_state (AtAsk r (BlockPairs p c lead) q) t = refl
put_state (AtAsk r (FlowPairs p Square o lead) q) t = refl
put_state (AtAsk r (FlowPairs p Curly o lead) q) t = refl
put_state (AtColon r (BlockPairs p c lead) left m) t = refl
put_state (AtColon r (FlowPairs p Curly o lead) left m) t = refl
put_state (AtColon r (FlowPairs p Square o lead) (SimpleKey f k n) m) t = refl
put_state (AtColon r (FlowPairs p Square o lead) (Asked q v) m) t = refl
put_state (AtColon r (FlowPairs p Square o lead) NoKey m) t = refl

put_open : (r : Hole) (t : Node) → HasOneName (put_in r (Just t))
put_open (AtRoot (Bare b)) t = tt
put_open (AtRoot (Explicit s i)) t = tt
put_open (AtEntry r p loose c lead i) t = tt
put_open (AtItem r p bracket o lead) t = tt
put_open (AtKey r a f) t = tt
put_open (AtAsk r a q) t = tt
put_open (AtColon r a left m) t = tt

put_events :
    (r : Hole) (t : Node) (y : Mark) (more : List TreeEvent) →
    open_events y (put_in r (Just t)) more ≡ hole_events r (first_terminal t) (node_events t (hole_indent r) more)
put_events (AtRoot (Bare b)) t y more = refl
put_events (AtRoot (Explicit s i)) t y more = refl
put_events (AtEntry r p loose c lead i) t y more = refl
put_events (AtItem r p bracket o lead) t y more = refl
put_events (AtKey r a f) t y more = refl
put_events (AtAsk r a q) t y more = refl
put_events (AtColon r a left m) t y more = refl

-- before a hole, behind properties, where a lexeme stands
abbrev Into : Hole → TreeProperties → TerminalKind → At → List TreeEvent → List TreeEvent
Into r p kind i more = hole_events r (first_with p (terminal kind i)) more

part_steps :
    (k : GrammarFault) (r : Hole) (p : TreeProperties) (m : PartKind) (i : At) →
    StepsTo (Into r p (Part m) i) k (part_frames k (hole_frames r) p m i) (part_take r p m i)
part_steps k r NoProperties (Alias name) i =
    subst
    (λ d.
    StepsTo (Into r NoProperties (Part (Alias name)) i) k
    (GoesTo (put_frames i.shown.end (hole_frames r)) (alias_event name i d ∷ []))
    (Go (put_in r (Just (AliasNode name i)))))
    (sym (indent_same r))
    (goes_to (put_open r (AliasNode name i)) (put_state r (AliasNode name i)) (put_events r (AliasNode name i)))
part_steps k r NoProperties (Property m) i = goes_to tt refl (λ y more. refl)
part_steps k r (One n j) (Property m) i =
    if_steps _ _ (differ n m) (differ n m) refl _ _ (goes_to tt refl (λ y more. refl))
part_steps k r (Two n j b h) (Property m) i = stops_at refl
part_steps k r (One n j) (Alias name) i = stops_at refl
part_steps k r (Two n j b h) (Alias name) i = stops_at refl
part_steps k r NoProperties (Scalar style text) i =
    subst
    (λ d.
    StepsTo (Into r NoProperties (Part (Scalar style text)) i) k
    (GoesTo (put_frames i.shown.end (hole_frames r)) (scalar_event NoProperties style text i d ∷ []))
    (Go (put_in r (Just (ScalarNode NoProperties style text i)))))
    (sym (indent_same r))
    (goes_to (put_open r (ScalarNode NoProperties style text i)) (put_state r (ScalarNode NoProperties style text i))
    (put_events r (ScalarNode NoProperties style text i)))
part_steps k r (One n j) (Scalar style text) i =
    subst
    (λ d.
    StepsTo (Into r (One n j) (Part (Scalar style text)) i) k
    (GoesTo (put_frames i.shown.end (hole_frames r)) (scalar_event (One n j) style text i d ∷ []))
    (Go (put_in r (Just (ScalarNode (One n j) style text i)))))
    (sym (indent_same r))
    (goes_to (put_open r (ScalarNode (One n j) style text i)) (put_state r (ScalarNode (One n j) style text i))
    (put_events r (ScalarNode (One n j) style text i)))
part_steps k r (Two n j b h) (Scalar style text) i =
    subst
    (λ d.
    StepsTo (Into r (Two n j b h) (Part (Scalar style text)) i) k
    (GoesTo (put_frames i.shown.end (hole_frames r)) (scalar_event (Two n j b h) style text i d ∷ []))
    (Go (put_in r (Just (ScalarNode (Two n j b h) style text i)))))
    (sym (indent_same r))
    (goes_to (put_open r (ScalarNode (Two n j b h) style text i))
    (put_state r (ScalarNode (Two n j b h) style text i)) (put_events r (ScalarNode (Two n j b h) style text i)))
part_steps k r NoProperties (Open bracket) i =
    subst
    (λ d.
    StepsTo (Into r NoProperties (Part (Open bracket)) i) k
    (GoesTo (InFrames (flow_frame bracket ∷ hole_frames r)) (flow_start NoProperties bracket i d ∷ []))
    (Go (Want (AtItem r NoProperties bracket i NoItem) NoProperties)))
    (sym (indent_same r)) (goes_to tt refl (λ y more. refl))
part_steps k r (One n j) (Open bracket) i =
    subst
    (λ d.
    StepsTo (Into r (One n j) (Part (Open bracket)) i) k
    (GoesTo (InFrames (flow_frame bracket ∷ hole_frames r)) (flow_start (One n j) bracket i d ∷ []))
    (Go (Want (AtItem r (One n j) bracket i NoItem) NoProperties)))
    (sym (indent_same r)) (goes_to tt refl (λ y more. refl))
part_steps k r (Two n j b h) (Open bracket) i =
    subst
    (λ d.
    StepsTo (Into r (Two n j b h) (Part (Open bracket)) i) k
    (GoesTo (InFrames (flow_frame bracket ∷ hole_frames r)) (flow_start (Two n j b h) bracket i d ∷ []))
    (Go (Want (AtItem r (Two n j b h) bracket i NoItem) NoProperties)))
    (sym (indent_same r)) (goes_to tt refl (λ y more. refl))

-- the first lexeme of a pair
abbrev Beside : Hole → Around → TerminalKind → At → List TreeEvent → List TreeEvent
Beside r a kind i more =
    hole_events r (around_first a (terminal kind i)) (around_before a (terminal kind i) (hole_indent r) more)

entry_steps :
    (k : GrammarFault) (r : Hole) (a : Around) (kind : TerminalKind) (i : At) →
    StepsTo (Beside r a kind i) k (entry_frames k (site_in a (hole_frames r)) kind i) (entry_take r a kind i)
entry_steps k r (BlockPairs p c lead) (Part m) i =
    after_none _ _ _ _ (part_steps k (AtKey r (BlockPairs p c lead) (terminal (Part m) i)) NoProperties m i)
entry_steps k r (FlowPairs p Square o lead) (Part m) i =
    after_one _ _ (pair_start (Part m) i) _ _
    (part_steps k (AtKey r (FlowPairs p Square o lead) (terminal (Part m) i)) NoProperties m i)
entry_steps k r (FlowPairs p Curly o lead) (Part m) i =
    after_none _ _ _ _ (part_steps k (AtKey r (FlowPairs p Curly o lead) (terminal (Part m) i)) NoProperties m i)
entry_steps k r (BlockPairs p c lead) Question i = goes_to tt refl (λ y more. refl)
entry_steps k r (FlowPairs p Square o lead) Question i = goes_to tt refl (λ y more. refl)
entry_steps k r (FlowPairs p Curly o lead) Question i = goes_to tt refl (λ y more. refl)
entry_steps k r (BlockPairs p c lead) (Colon None) i = goes_to tt refl (λ y more. refl)
entry_steps k r (FlowPairs p Square o lead) (Colon None) i = goes_to tt refl (λ y more. refl)
entry_steps k r (FlowPairs p Curly o lead) (Colon None) i = goes_to tt refl (λ y more. refl)
entry_steps k r a (Colon (Some n)) i = stops_at refl
entry_steps k r a (Directive d) i = stops_at refl
entry_steps k r a DocumentStart i = stops_at refl
entry_steps k r a DocumentEnd i = stops_at refl
entry_steps k r a TheEnd i = stops_at refl
entry_steps k r a Dash i = stops_at refl
entry_steps k r a Comma i = stops_at refl
entry_steps k r a (Close bracket) i = stops_at refl

-- a new block mapping
block_steps :
    (k : GrammarFault) (r : Hole) (p : TreeProperties) (kind : TerminalKind) (i : At) →
    StepsTo (Into r p kind i) k
    (after_events (mapping_start p (terminal kind i) (frames_indent (hole_frames r)) ∷ [])
    (entry_frames k (BlockSite (edge i) (hole_frames r)) kind i))
    (entry_take r (BlockPairs p (edge i) NoPair) kind i)
block_steps k r p kind i =
    subst
    (λ d.
    StepsTo (Into r p kind i) k
    (after_events (mapping_start p (terminal kind i) d ∷ [])
    (entry_frames k (BlockSite (edge i) (hole_frames r)) kind i))
    (entry_take r (BlockPairs p (edge i) NoPair) kind i))
    (sym (indent_same r))
    (after_one _ _ (mapping_start p (terminal kind i) (hole_indent r)) _ _
    (entry_steps k r (BlockPairs p (edge i) NoPair) kind i))

plain_steps :
    (k : GrammarFault) (r : Hole) (kind : TerminalKind) (i : At) →
    StepsTo (Into r NoProperties kind i) k (plain_pair k (hole_frames r) kind i) (entry_at (plain_site r i) kind i)
plain_steps k (AtItem r p Square o lead) kind i = entry_steps k r (FlowPairs p Square o lead) kind i
plain_steps k (AtItem r p Curly o lead) kind i = entry_steps k r (FlowPairs p Curly o lead) kind i
plain_steps k (AtRoot (Bare b)) kind i = block_steps k (AtRoot (Bare b)) NoProperties kind i
plain_steps k (AtRoot (Explicit s j)) kind i = block_steps k (AtRoot (Explicit s j)) NoProperties kind i
plain_steps k (AtEntry r p loose c lead j) kind i = block_steps k (AtEntry r p loose c lead j) NoProperties kind i
plain_steps k (AtKey r (BlockPairs p c lead) f) kind i =
    block_steps k (AtKey r (BlockPairs p c lead) f) NoProperties kind i
plain_steps k (AtKey r (FlowPairs p Square o lead) f) kind i =
    block_steps k (AtKey r (FlowPairs p Square o lead) f) NoProperties kind i
plain_steps k (AtKey r (FlowPairs p Curly o lead) f) kind i =
    block_steps k (AtKey r (FlowPairs p Curly o lead) f) NoProperties kind i
plain_steps k (AtAsk r (BlockPairs p c lead) q) kind i =
    block_steps k (AtAsk r (BlockPairs p c lead) q) NoProperties kind i
plain_steps k (AtAsk r (FlowPairs p Square o lead) q) kind i =
    block_steps k (AtAsk r (FlowPairs p Square o lead) q) NoProperties kind i
plain_steps k (AtAsk r (FlowPairs p Curly o lead) q) kind i =
    block_steps k (AtAsk r (FlowPairs p Curly o lead) q) NoProperties kind i
plain_steps k (AtColon r (BlockPairs p c lead) left m) kind i =
    block_steps k (AtColon r (BlockPairs p c lead) left m) NoProperties kind i
plain_steps k (AtColon r (FlowPairs p Curly o lead) left m) kind i =
    block_steps k (AtColon r (FlowPairs p Curly o lead) left m) NoProperties kind i
plain_steps k (AtColon r (FlowPairs p Square o lead) (SimpleKey f t n) m) kind i =
    block_steps k (AtColon r (FlowPairs p Square o lead) (SimpleKey f t n) m) NoProperties kind i
plain_steps k (AtColon r (FlowPairs p Square o lead) (Asked q v) m) kind i =
    block_steps k (AtColon r (FlowPairs p Square o lead) (Asked q v) m) NoProperties kind i
plain_steps k (AtColon r (FlowPairs p Square o lead) NoKey m) kind i =
    block_steps k (AtColon r (FlowPairs p Square o lead) NoKey m) NoProperties kind i

pair_steps :
    (k : GrammarFault) (r : Hole) (p : TreeProperties) (kind : TerminalKind) (i : At) →
    StepsTo (Into r p kind i) k (begin_pair_frames k (hole_frames r) p kind i) (entry_at (pair_site r p i) kind i)
pair_steps k r NoProperties kind i = plain_steps k r kind i
pair_steps k r (One n j) kind i = block_steps k r (One n j) kind i
pair_steps k r (Two n j b h) kind i = block_steps k r (Two n j b h) kind i

-- tests don't see the first lexeme of a simple key
abbrev SameTests : Room → Room → Type 0
SameTests a b =
    ((i : At) → opens a i ≡ opens b i) × ((i : At) → part_fits a i ≡ part_fits b i)
    × ((i : At) → indicates a i ≡ indicates b i) × ((e : ℕ) → loose_fits a e ≡ loose_fits b e)
    × ((e : ℕ) → right_fits a e ≡ right_fits b e)

forget_tests : (room : Room) → SameTests (forget room) room
forget_tests (RightOf n) = (λ i. refl, λ i. refl, λ i. refl, λ e. refl, λ e. refl)
forget_tests (ValueIn c) = (λ i. refl, λ i. refl, λ i. refl, λ e. refl, λ e. refl)
forget_tests (KeyIn (BlockIn c) f) = (λ i. refl, λ i. refl, λ i. refl, λ e. refl, λ e. refl)
forget_tests (KeyIn (FlowIn bracket) f) = (λ i. refl, λ i. refl, λ i. refl, λ e. refl, λ e. refl)
forget_tests (BehindKey c) = (λ i. refl, λ i. refl, λ i. refl, λ e. refl, λ e. refl)
forget_tests ItemIn = (λ i. refl, λ i. refl, λ i. refl, λ e. refl, λ e. refl)
forget_tests Inside = (λ i. refl, λ i. refl, λ i. refl, λ e. refl, λ e. refl)

same_tests : (a b : Room) → a ≡ b → SameTests a b
same_tests a b e = (
  λ i. ap (λ r. opens r i) e,
  λ i. ap (λ r. part_fits r i) e,
  λ i. ap (λ r. indicates r i) e,
  λ d. ap (λ r. loose_fits r d) e,
  λ d. ap (λ r. right_fits r d) e,
)

room_tests :
    (r : Hole) (p : TreeProperties) →
    SameTests (room_behind p (frames_room (hole_frames r))) (room_behind p (room_of r))
room_tests r NoProperties = subst (λ room. SameTests room (room_of r)) (sym (room_same r)) (forget_tests (room_of r))
room_tests r (One k i) =
    same_tests (behind_property (frames_room (hole_frames r))) (behind_property (room_of r)) (behind_same r)
room_tests r (Two k i m j) =
    same_tests (behind_property (frames_room (hole_frames r))) (behind_property (room_of r)) (behind_same r)

close_steps :
    (r : Hole) (p : TreeProperties) (bracket : Bracket) (i : At) →
    StepsTo (Into r p (Close bracket) i) (stop_kind (hole_frames r)) (want_frames (hole_frames r) p (Close bracket) i)
    (want_take r p (Close bracket) i)
close_steps (AtItem r q Square o lead) NoProperties Square i =
    goes_to (put_open r (Flow q Square o lead NoLast i)) (put_state r (Flow q Square o lead NoLast i))
    (put_events r (Flow q Square o lead NoLast i))
close_steps (AtItem r q Curly o lead) NoProperties Curly i =
    goes_to (put_open r (Flow q Curly o lead NoLast i)) (put_state r (Flow q Curly o lead NoLast i))
    (put_events r (Flow q Curly o lead NoLast i))
close_steps (AtRoot (Bare b)) p bracket i = stops_at refl
close_steps (AtRoot (Explicit s j)) p bracket i = stops_at refl
close_steps (AtEntry r q loose c lead j) p bracket i = stops_at refl
close_steps (AtItem r q Square o lead) p bracket i = stops_at refl
close_steps (AtItem r q Curly o lead) p bracket i = stops_at refl
close_steps (AtKey r (BlockPairs q c lead) f) p bracket i = stops_at refl
close_steps (AtKey r (FlowPairs q Square o lead) f) p bracket i = stops_at refl
close_steps (AtKey r (FlowPairs q Curly o lead) f) p bracket i = stops_at refl
close_steps (AtAsk r (BlockPairs q c lead) j) p bracket i = stops_at refl
close_steps (AtAsk r (FlowPairs q Square o lead) j) p bracket i = stops_at refl
close_steps (AtAsk r (FlowPairs q Curly o lead) j) p bracket i = stops_at refl
close_steps (AtColon r (BlockPairs q c lead) left m) p bracket i = stops_at refl
close_steps (AtColon r (FlowPairs q Curly o lead) left m) p bracket i = stops_at refl
close_steps (AtColon r (FlowPairs q Square o lead) (SimpleKey f t n) m) p bracket i = stops_at refl
close_steps (AtColon r (FlowPairs q Square o lead) (Asked j v) m) p bracket i = stops_at refl
close_steps (AtColon r (FlowPairs q Square o lead) NoKey m) p bracket i = stops_at refl

want_steps :
    (r : Hole) (p : TreeProperties) (kind : TerminalKind) (i : At) →
    StepsTo (Into r p kind i) (stop_kind (hole_frames r)) (want_frames (hole_frames r) p kind i) (want_take r p kind i)
want_steps r p (Part m) i =
    let t = room_tests r p
    in choose_steps _ _ _ _ (t.0 i) _ _ _ _ (pair_steps (stop_kind (hole_frames r)) r p (Part m) i)
    (if_steps _ _ _ _ (t.1 i) _ _ (part_steps (stop_kind (hole_frames r)) r p m i))
want_steps r p Dash i =
    let t = room_tests r p in
    choose_steps _ _ _ _ (t.3 (edge i)) _ _ _ _
    (subst
    (λ d.
    StepsTo (Into r p Dash i) (stop_kind (hole_frames r))
    (GoesTo (InFrames (SequenceFrame true (edge i) (Some i.end) ∷ hole_frames r))
    (sequence_start p true i d ∷ []))
    (Go (Want (AtEntry r p true (edge i) NoEntry i) NoProperties)))
    (sym (indent_same r)) (goes_to tt refl (λ y more. refl)))
    (if_steps _ _ _ _ (t.4 (edge i)) _ _
    (subst
    (λ d.
    StepsTo (Into r p Dash i) (stop_kind (hole_frames r))
    (GoesTo (InFrames (SequenceFrame false (edge i) (Some i.end) ∷ hole_frames r))
    (sequence_start p false i d ∷ []))
    (Go (Want (AtEntry r p false (edge i) NoEntry i) NoProperties)))
    (sym (indent_same r)) (goes_to tt refl (λ y more. refl))))
want_steps r p Question i =
    if_steps _ _ _ _ ((room_tests r p).2 i) _ _ (pair_steps (stop_kind (hole_frames r)) r p Question i)
want_steps r p (Colon None) i =
    if_steps _ _ _ _ ((room_tests r p).2 i) _ _ (pair_steps (stop_kind (hole_frames r)) r p (Colon None) i)
want_steps r p (Colon (Some n)) i = stops_at refl
want_steps r p (Close bracket) i = close_steps r p bracket i
want_steps r p (Directive d) i = stops_at refl
want_steps r p DocumentStart i = stops_at refl
want_steps r p DocumentEnd i = stops_at refl
want_steps r p TheEnd i = stops_at refl
want_steps r p Comma i = stops_at refl

-- at a hole that is itself an open place
hole_steps :
    (r : Hole) (kind : TerminalKind) (i : At) → IsHole r →
    StepsTo (hole_events r no_terminal) (fault_kind_at (Want r NoProperties) kind) (take_top (hole_frames r) kind i)
    (want_take r NoProperties kind i)
hole_steps (AtRoot (Bare b)) kind i g = absurd g
hole_steps (AtRoot (Explicit s j)) kind i g = want_steps (AtRoot (Explicit s j)) NoProperties kind i
hole_steps (AtEntry r q loose c lead j) kind i g = want_steps (AtEntry r q loose c lead j) NoProperties kind i
hole_steps (AtItem r q Square o lead) kind i g = want_steps (AtItem r q Square o lead) NoProperties kind i
hole_steps (AtItem r q Curly o lead) kind i g = want_steps (AtItem r q Curly o lead) NoProperties kind i
hole_steps (AtKey r (BlockPairs q c lead) f) kind i g = absurd g
hole_steps (AtKey r (FlowPairs q Square o lead) f) kind i g = absurd g
hole_steps (AtKey r (FlowPairs q Curly o lead) f) kind i g = absurd g
hole_steps (AtAsk r (BlockPairs q c lead) j) kind i g = want_steps (AtAsk r (BlockPairs q c lead) j) NoProperties kind i
hole_steps (AtAsk r (FlowPairs q Square o lead) j) kind i g =
    want_steps (AtAsk r (FlowPairs q Square o lead) j) NoProperties kind i
hole_steps (AtAsk r (FlowPairs q Curly o lead) j) kind i g =
    want_steps (AtAsk r (FlowPairs q Curly o lead) j) NoProperties kind i
hole_steps (AtColon r (BlockPairs q c lead) left m) kind i g =
    want_steps (AtColon r (BlockPairs q c lead) left m) NoProperties kind i
hole_steps (AtColon r (FlowPairs q Curly o lead) left m) kind i g =
    want_steps (AtColon r (FlowPairs q Curly o lead) left m) NoProperties kind i
hole_steps (AtColon r (FlowPairs q Square o lead) (SimpleKey f t n) m) kind i g =
    want_steps (AtColon r (FlowPairs q Square o lead) (SimpleKey f t n) m) NoProperties kind i
hole_steps (AtColon r (FlowPairs q Square o lead) (Asked j v) m) kind i g =
    want_steps (AtColon r (FlowPairs q Square o lead) (Asked j v) m) NoProperties kind i
hole_steps (AtColon r (FlowPairs q Square o lead) NoKey m) kind i g =
    want_steps (AtColon r (FlowPairs q Square o lead) NoKey m) NoProperties kind i

-- the kinds
kinds_same :
    (r : Hole) (p : TreeProperties) (kind : TerminalKind) → stop_kind (hole_frames r) ≡ fault_kind_at (Want r p) kind
kinds_same (AtRoot (Bare b)) p kind = refl
kinds_same (AtRoot (Explicit s j)) p kind = refl
kinds_same (AtEntry r q loose c lead j) p kind = refl
kinds_same (AtItem r q Square o lead) p kind = refl
kinds_same (AtItem r q Curly o lead) p kind = refl
kinds_same (AtKey r (BlockPairs q c lead) f) p kind = refl
kinds_same (AtKey r (FlowPairs q Square o lead) f) p kind = refl
kinds_same (AtKey r (FlowPairs q Curly o lead) f) p kind = refl
kinds_same (AtAsk r (BlockPairs q c lead) j) p kind = refl
kinds_same (AtAsk r (FlowPairs q Square o lead) j) p kind = refl
kinds_same (AtAsk r (FlowPairs q Curly o lead) j) p kind = refl
kinds_same (AtColon r (BlockPairs q c lead) left m) p kind = refl
kinds_same (AtColon r (FlowPairs q Curly o lead) left m) p kind = refl
kinds_same (AtColon r (FlowPairs q Square o lead) (SimpleKey f t n) m) p kind = refl
kinds_same (AtColon r (FlowPairs q Square o lead) (Asked j v) m) p kind = refl
kinds_same (AtColon r (FlowPairs q Square o lead) NoKey m) p kind = refl

properties_steps :
    (r : Hole) (p : TreeProperties) (kind : TerminalKind) (i : At) →
    StepsTo (Into r p kind i) (fault_kind_at (Want r p) kind) (want_frames (hole_frames r) p kind i)
    (want_take r p kind i)
properties_steps r p kind i =
    subst (λ k. StepsTo (Into r p kind i) k (want_frames (hole_frames r) p kind i) (want_take r p kind i))
    (kinds_same r p kind) (want_steps r p kind i)

-- the next entry of a block mapping
next_steps :
    (r : Hole) (p : TreeProperties) (c : ℕ) (lead : PairLead) (pair : Pair) (kind : TerminalKind) (i : At) →
    StepsTo (open_events i.start (PastPair r (BlockPairs p c lead) pair)) ExpectedBlockMappingKey
    (if_gives (entry_in (terminal kind i) c) ExpectedBlockMappingKey
    (entry_frames ExpectedBlockMappingKey (BlockSite c (hole_frames r)) kind i))
    (if_go (entry_in (terminal kind i) c) (entry_take r (BlockPairs p c (AfterPair (Through lead pair))) kind i))
next_steps r p c lead (WithColon left m v) kind i =
    if_steps _ _ _ _ refl _ _
    (entry_steps ExpectedBlockMappingKey r (BlockPairs p c (AfterPair (Through lead (WithColon left m v)))) kind i)
next_steps r p c lead (AskOnly q v e) kind i =
    if_steps _ _ _ _ refl _ _
    (entry_steps ExpectedBlockMappingKey r (BlockPairs p c (AfterPair (Through lead (AskOnly q v e)))) kind i)

pub take_agrees :
    (p : OpenPlace) (kind : TerminalKind) (i : At) → HasOneName p →
    StepsTo (open_events i.start p) (fault_kind_at p kind) (take_frames (state_at p) kind i) (take p kind i)
take_agrees (Fresh b) (Directive d) i g = goes_to tt refl (λ y more. refl)
take_agrees (Fresh b) DocumentStart i g = goes_to tt refl (λ y more. refl)
take_agrees (Fresh b) DocumentEnd i g = goes_to tt refl (λ y more. refl)
take_agrees (Fresh b) TheEnd i g = goes_to tt refl (λ y more. refl)
take_agrees (Fresh b) kind i g =
    after_one _ _ (bare_document_start kind i) _ _ (want_steps (AtRoot (Bare b)) NoProperties kind i)
take_agrees (InDirectives ds) (Directive d) i g = goes_to tt refl (λ y more. refl)
take_agrees (InDirectives ds) DocumentStart i g = goes_to tt refl (λ y more. refl)
take_agrees (BehindRoot ro) DocumentStart i g = goes_to tt refl (λ y more. refl)
take_agrees (BehindRoot ro) DocumentEnd i g = goes_to tt refl (λ y more. refl)
take_agrees (BehindRoot ro) TheEnd i g = goes_to tt refl (λ y more. refl)
take_agrees (Want r NoProperties) kind i g = hole_steps r kind i g
take_agrees (Want r (One m j)) kind i g = properties_steps r (One m j) kind i
take_agrees (Want r (Two m j n h)) kind i g = properties_steps r (Two m j n h) kind i
take_agrees (PastEntry r p loose c es) Dash i g = if_steps _ _ _ _ refl _ _ (goes_to tt refl (λ y more. refl))
take_agrees (PastKey r (BlockPairs p c lead) f t) (Colon (Some n)) i g = goes_to tt refl (λ y more. refl)
take_agrees (PastKey r (FlowPairs p Square o lead) f t) (Colon (Some n)) i g = goes_to tt refl (λ y more. refl)
take_agrees (PastKey r (FlowPairs p Curly o lead) f t) (Colon (Some n)) i g = goes_to tt refl (λ y more. refl)
take_agrees (PastAsk r (BlockPairs p c lead) q v) (Colon None) i g =
    if_steps _ _ _ _ refl _ _ (goes_to tt refl (λ y more. refl))
take_agrees (PastAsk r (FlowPairs p Square o lead) q v) (Colon None) i g = goes_to tt refl (λ y more. refl)
take_agrees (PastAsk r (FlowPairs p Curly o lead) q v) (Colon None) i g = goes_to tt refl (λ y more. refl)
take_agrees (PastPair r (BlockPairs p c lead) pair) kind i g = next_steps r p c lead pair kind i
take_agrees (PastPair r (FlowPairs p Curly o lead) pair) Comma i g = goes_to tt refl (λ y more. refl)
take_agrees (PastPair r (FlowPairs p Curly o lead) pair) (Close Curly) i g =
    goes_to (put_open r (Flow p Curly o lead (LastItem (Paired pair)) i))
    (put_state r (Flow p Curly o lead (LastItem (Paired pair)) i))
    (put_events r (Flow p Curly o lead (LastItem (Paired pair)) i))
take_agrees (PastPair r (FlowPairs p Square o lead) (WithColon (SimpleKey f t n) m v)) kind i g = stops_at refl
take_agrees (PastPair r (FlowPairs p Square o lead) (WithColon (Asked q u) m v)) kind i g = stops_at refl
take_agrees (PastPair r (FlowPairs p Square o lead) (WithColon NoKey m v)) kind i g = stops_at refl
take_agrees (PastPair r (FlowPairs p Square o lead) (AskOnly q v e)) kind i g = stops_at refl
take_agrees (PastItem r p Square o lead (Single t)) Comma i g = goes_to tt refl (λ y more. refl)
take_agrees (PastItem r p Square o lead (Paired pair)) Comma i g = goes_to tt refl (λ y more. refl)
take_agrees (PastItem r p Curly o lead (Single t)) Comma i g = goes_to tt refl (λ y more. refl)
take_agrees (PastItem r p Curly o lead (Paired pair)) Comma i g = goes_to tt refl (λ y more. refl)
take_agrees (PastItem r p Square o lead (Single t)) (Close Square) i g =
    goes_to (put_open r (Flow p Square o lead (LastItem (Single t)) i))
    (put_state r (Flow p Square o lead (LastItem (Single t)) i))
    (put_events r (Flow p Square o lead (LastItem (Single t)) i))
take_agrees (PastItem r p Square o lead (Paired pair)) (Close Square) i g =
    goes_to (put_open r (Flow p Square o lead (LastItem (Paired pair)) i))
    (put_state r (Flow p Square o lead (LastItem (Paired pair)) i))
    (put_events r (Flow p Square o lead (LastItem (Paired pair)) i))
take_agrees (PastItem r p Curly o lead (Single t)) (Close Curly) i g =
    goes_to (put_open r (Flow p Curly o lead (LastItem (Single t)) i))
    (put_state r (Flow p Curly o lead (LastItem (Single t)) i))
    (put_events r (Flow p Curly o lead (LastItem (Single t)) i))
take_agrees (PastItem r p Curly o lead (Paired pair)) (Close Curly) i g =
    goes_to (put_open r (Flow p Curly o lead (LastItem (Paired pair)) i))
    (put_state r (Flow p Curly o lead (LastItem (Paired pair)) i))
    (put_events r (Flow p Curly o lead (LastItem (Paired pair)) i))
take_agrees (PastKey r (BlockPairs p c lead) f t) kind i g = stops_at refl
take_agrees (PastKey r (FlowPairs p Square o lead) f t) kind i g = stops_at refl
take_agrees (PastKey r (FlowPairs p Curly o lead) f t) kind i g = stops_at refl
take_agrees (PastAsk r (BlockPairs p c lead) q v) kind i g = stops_at refl
take_agrees (PastAsk r (FlowPairs p Square o lead) q v) kind i g = stops_at refl
take_agrees (PastAsk r (FlowPairs p Curly o lead) q v) kind i g = stops_at refl
take_agrees (PastItem r p Curly o lead (Single t)) kind i g = stops_at refl
take_agrees (PastItem r p Curly o lead (Paired pair)) kind i g = stops_at refl
take_agrees p kind i g = stops_at refl
