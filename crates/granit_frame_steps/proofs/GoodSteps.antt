-- Steps of the grammar's machine lead to states that it comes to.
use Rattle.granit_views.specs.Good.{Holes, at_root, at_entry, at_key, at_asked, at_value, at_item, at_curly}
use Rattle.granit_views.specs.Good.{curly_key, curly_asked, curly_value, made_key, made_value, pair_asked}
use Rattle.granit_views.specs.Good.{pair_value, Good, hole, behind_properties, past_entry, key_done, ask_done}
use Rattle.granit_views.specs.Good.{pair_done, item_done, curly_key_done, curly_ask_done, curly_solo, curly_done}
use Rattle.granit_views.specs.Good.{made_key_done, made_done, square_ask_done, square_done, IsPositive}
use Rattle.granit_event_machine.specs.EventMachine.{Key, AskDone, Done, Value, OpenFrame, PropertiesFrame}
use Rattle.granit_event_machine.specs.EventMachine.{SequenceFrame}
use Rattle.granit_event_machine.specs.EventMachine.{MappingFrame, FlowSequenceFrame, FlowMappingFrame, FlowPairFrame}
use Rattle.granit_event_machine.specs.EventMachine.{past_sequence, past_mapping, past_asked, past_curly}
use Rattle.granit_event_machine.specs.EventMachine.{past_curly_asked}
use Rattle.granit_event_machine.specs.EventMachine.{past_made, past_square_asked, frames_empty, nothing_event}
use Rattle.granit_event_machine.specs.EventMachine.{nothing_end}
use Rattle.granit_event_machine.specs.EventMachine.{frames_room, frames_indent, EventState, IsRooted, InFrames, Ending}
use Rattle.granit_event_machine.specs.EventMachine.{ending, with_event, finish_frames, ended_by, EventStep, GoesTo}
use Rattle.granit_event_machine.specs.EventMachine.{StopsWith}
use Rattle.granit_event_machine.specs.EventMachine.{after_events, if_gives, put_frames, part_frames, BlockSite}
use Rattle.granit_event_machine.specs.EventMachine.{FlowSite}
use Rattle.granit_event_machine.specs.EventMachine.{entry_frames, begin_pair_frames, take_frames, want_frames}
use Rattle.granit_event_machine.specs.EventMachine.{stop_kind}
use Rattle.granit_language.specs.Choice.{choose}
use Rattle.granit_language.specs.GrammarFault.{GrammarFault, ExpectedBlockSequenceEntry, ExpectedBlockMappingKey}
use Rattle.granit_language.specs.Node.{TreeProperties, NoProperties, One, Two}
use Rattle.granit_language.specs.Room.{BlockIn, FlowIn, behind_property, room_behind, right_fits, loose_fits, indicates}
use Rattle.granit_language.specs.Room.{opens, part_fits, differ, continues_node, sequence_over, ask_over}
use Rattle.granit_language.specs.Terminal.{PartKind, Alias, Property, Scalar, Open, TerminalKind, Dash, Question, Comma}
use Rattle.granit_language.specs.Terminal.{Colon, Close, Part, At, Terminal, terminal, edge, stands_left, entry_in}
use Rattle.granit_language.specs.Terminal.{is_comma_kind, closes_kind}
use Rattle.granit_language.specs.TreeEvents.{TreeEvent, SequenceEnds, MappingEnds, pointed, null, alone_event}
use Rattle.granit_language.specs.TreeEvents.{properties_end, mapping_start, sequence_start, pair_start}
use Rattle.granit_lexemes.specs.declared.layout.Bracket.TheVariants.{Square, Curly}
use Rattle.std.proofs.Common.{◌≡◌, ℕ, Bool, true, false, ◌||◌, ◌==◌, List, [], ◌∷◌, refl, Some, None}
use Rattle.granit_base.specs.Place.{Mark}

-- inside a document or behind its root
abbrev pub Stands : EventState → Type 0
Stands (InFrames fs) = Good (InFrames fs)
Stands (IsRooted e) = Unit {0}
Stands st = ⊥

pub data GoodEnding : Ending → Type 0 where
  ends_well : {st : EventState} {es : List TreeEvent} → Stands st → GoodEnding (ending st es)

pub data GoodStep : EventStep → Type 0 where
  goes_well : {st : EventState} {es : List TreeEvent} → Stands st → GoodStep (GoesTo st es)
  stops_well : {k : GrammarFault} → GoodStep (StopsWith k)

stays : (st : EventState) → Stands st → GoodEnding (ending st [])
stays st h = ends_well h

either_ending : (b : Bool) (y z : Ending) → GoodEnding y → GoodEnding z → GoodEnding (choose b y z)
either_ending true y z g h = g
either_ending false y z g h = h

with_ending : (e : TreeEvent) (y : Ending) → GoodEnding y → GoodEnding (with_event e y)
with_ending e y (ends_well g) = ends_well g

either_step : (b : Bool) (y z : EventStep) → GoodStep y → GoodStep z → GoodStep (choose b y z)
either_step true y z g h = g
either_step false y z g h = h

if_step : (b : Bool) (k : GrammarFault) (y : EventStep) → (b ≡ true → GoodStep y) → GoodStep (if_gives b k y)
if_step true k y g = g refl
if_step false k y g = stops_well

pub after_step : (es : List TreeEvent) (y : EventStep) → GoodStep y → GoodStep (after_events es y)
after_step es y (goes_well g) = goes_well g
after_step es y stops_well = stops_well

-- ---- what ends

put_stands : (e : Mark) (fs : List OpenFrame) → Holes fs → Stands (put_frames e fs)
put_stands e fs at_root = tt
put_stands e fs (at_entry p h) = past_entry p h
put_stands e fs (at_key p h) = key_done p h
put_stands e fs (at_asked p h) = ask_done p h
put_stands e fs (at_value p h) = pair_done p h
put_stands e fs (at_item h) = item_done h
put_stands e fs (at_curly h) = curly_solo h
put_stands e fs (curly_key h) = curly_key_done h
put_stands e fs (curly_asked h) = curly_ask_done h
put_stands e fs (curly_value h) = curly_done h
put_stands e fs (made_key h) = made_key_done h
put_stands e fs (made_value h) = made_done h
put_stands e fs (pair_asked h) = square_ask_done h
put_stands e fs (pair_value h) = square_done h

past_sequence_well :
    (x : Terminal) (loose : Bool) (c : ℕ) (fs : List OpenFrame) (on : Ending) → IsPositive c → Holes fs →
    GoodEnding on →
    GoodEnding (past_sequence x loose c fs on)
past_sequence_well x loose c fs on p h g =
    either_ending (sequence_over loose c x) (with_event (pointed SequenceEnds x.at.start) on)
    (ending (InFrames (SequenceFrame loose c None ∷ fs)) []) (with_ending (pointed SequenceEnds x.at.start) on g)
    (ends_well (past_entry p h))

past_mapping_well :
    (x : Terminal) (c : ℕ) (fs : List OpenFrame) (on : Ending) → IsPositive c → Holes fs → GoodEnding on →
    GoodEnding (past_mapping x c fs on)
past_mapping_well x c fs on p h g =
    either_ending (stands_left x c) (with_event (pointed MappingEnds x.at.start) on)
    (ending (InFrames (MappingFrame c Done ∷ fs)) []) (with_ending (pointed MappingEnds x.at.start) on g)
    (ends_well (pair_done p h))

past_asked_well :
    (x : Terminal) (c : ℕ) (fs : List OpenFrame) (on : Ending) → IsPositive c → Holes fs → GoodEnding on →
    GoodEnding (past_asked x c fs on)
past_asked_well x c fs on p h g =
    either_ending (ask_over (BlockIn c) x) (with_event (null x.at.start None) (past_mapping x c fs on))
    (ending (InFrames (MappingFrame c AskDone ∷ fs)) [])
    (with_ending (null x.at.start None) (past_mapping x c fs on) (past_mapping_well x c fs on p h g))
    (ends_well (ask_done p h))

past_curly_well : (x : Terminal) (fs : List OpenFrame) → Holes fs → GoodEnding (past_curly_asked x fs)
past_curly_well x fs h =
    either_ending (ask_over (FlowIn Curly) x) (with_event (null x.at.start None) (past_curly fs))
    (ending (InFrames (FlowMappingFrame false AskDone ∷ fs)) []) (ends_well (curly_done h))
    (ends_well (curly_ask_done h))

past_made_well :
    (x : Terminal) (fs : List OpenFrame) (on : Ending) → Holes fs → GoodEnding on →
    GoodEnding (past_made x (FlowSequenceFrame false ∷ fs) on)
past_made_well x fs on h g =
    either_ending (is_comma_kind x.kind || closes_kind Square x.kind) (with_event (pointed MappingEnds x.at.start) on)
    (ending (InFrames (FlowMappingFrame true Done ∷ FlowSequenceFrame false ∷ fs)) [])
    (with_ending (pointed MappingEnds x.at.start) on g) (ends_well (made_done h))

past_square_well :
    (x : Terminal) (fs : List OpenFrame) (on : Ending) → Holes fs → GoodEnding on →
    GoodEnding (past_square_asked x (FlowSequenceFrame false ∷ fs) on)
past_square_well x fs on h g =
    either_ending (ask_over (FlowIn Square) x)
    (with_event (null x.at.start None) (with_event (pointed MappingEnds x.at.start) on))
    (ending (InFrames (FlowPairFrame AskDone ∷ FlowSequenceFrame false ∷ fs)) [])
    (with_ending (null x.at.start None) (with_event (pointed MappingEnds x.at.start) on)
    (with_ending (pointed MappingEnds x.at.start) on g))
    (ends_well (square_ask_done h))

finish_ends : (x : Terminal) (e : Mark) (fs : List OpenFrame) → Holes fs → GoodEnding (finish_frames x e fs)
finish_ends x e fs at_root = ends_well tt
finish_ends x e fs (at_entry {loose = loose} {c = c} {fs = gs} p h) =
    past_sequence_well x loose c gs (finish_frames x x.at.start gs) p h (finish_ends x x.at.start gs h)
finish_ends x e fs (at_key p h) = ends_well (key_done p h)
finish_ends x e fs (at_asked {c = c} {fs = gs} p h) =
    past_asked_well x c gs (finish_frames x x.at.start gs) p h (finish_ends x x.at.start gs h)
finish_ends x e fs (at_value {c = c} {fs = gs} p h) =
    past_mapping_well x c gs (finish_frames x x.at.start gs) p h (finish_ends x x.at.start gs h)
finish_ends x e fs (at_item h) = ends_well (item_done h)
finish_ends x e fs (at_curly h) = ends_well (curly_solo h)
finish_ends x e fs (curly_key h) = ends_well (curly_key_done h)
finish_ends x e fs (curly_asked {fs = gs} h) = past_curly_well x gs h
finish_ends x e fs (curly_value h) = ends_well (curly_done h)
finish_ends x e fs (made_key h) = ends_well (made_key_done h)
finish_ends x e fs (made_value {fs = gs} h) =
    past_made_well x gs (ending (InFrames (FlowSequenceFrame true ∷ gs)) []) h (ends_well (item_done h))
finish_ends x e fs (pair_asked {fs = gs} h) =
    past_square_well x gs (ending (InFrames (FlowSequenceFrame true ∷ gs)) []) h (ends_well (item_done h))
finish_ends x e fs (pair_value h) = ends_well (item_done h)

hole_closes :
    (b : Bool) (e : TreeEvent) (x : Terminal) (m : Mark) (fs : List OpenFrame) → Holes fs →
    GoodEnding (choose b (with_event e (finish_frames x m fs)) (ending (InFrames fs) []))
hole_closes b e x m fs h =
    either_ending b (with_event e (finish_frames x m fs)) (ending (InFrames fs) [])
    (with_ending e (finish_frames x m fs) (finish_ends x m fs h)) (ends_well (hole h))

pub closes_stand : (x : Terminal) (fs : List OpenFrame) → Good (InFrames fs) → GoodEnding (ended_by x (InFrames fs))
closes_stand x fs (hole at_root) = hole_closes (frames_empty fs x) (nothing_event x fs) x (nothing_end fs) fs at_root
closes_stand x fs (hole (at_entry p h)) =
    hole_closes (frames_empty fs x) (nothing_event x fs) x (nothing_end fs) fs (at_entry p h)
closes_stand x fs (hole (at_key p h)) =
    hole_closes (frames_empty fs x) (nothing_event x fs) x (nothing_end fs) fs (at_key p h)
closes_stand x fs (hole (at_asked p h)) =
    hole_closes (frames_empty fs x) (nothing_event x fs) x (nothing_end fs) fs (at_asked p h)
closes_stand x fs (hole (at_value p h)) =
    hole_closes (frames_empty fs x) (nothing_event x fs) x (nothing_end fs) fs (at_value p h)
closes_stand x fs (hole (at_item h)) =
    hole_closes (frames_empty fs x) (nothing_event x fs) x (nothing_end fs) fs (at_item h)
closes_stand x fs (hole (at_curly h)) =
    hole_closes (frames_empty fs x) (nothing_event x fs) x (nothing_end fs) fs (at_curly h)
closes_stand x fs (hole (curly_key h)) =
    hole_closes (frames_empty fs x) (nothing_event x fs) x (nothing_end fs) fs (curly_key h)
closes_stand x fs (hole (curly_asked h)) =
    hole_closes (frames_empty fs x) (nothing_event x fs) x (nothing_end fs) fs (curly_asked h)
closes_stand x fs (hole (curly_value h)) =
    hole_closes (frames_empty fs x) (nothing_event x fs) x (nothing_end fs) fs (curly_value h)
closes_stand x fs (hole (made_key h)) =
    hole_closes (frames_empty fs x) (nothing_event x fs) x (nothing_end fs) fs (made_key h)
closes_stand x fs (hole (made_value h)) =
    hole_closes (frames_empty fs x) (nothing_event x fs) x (nothing_end fs) fs (made_value h)
closes_stand x fs (hole (pair_asked h)) =
    hole_closes (frames_empty fs x) (nothing_event x fs) x (nothing_end fs) fs (pair_asked h)
closes_stand x fs (hole (pair_value h)) =
    hole_closes (frames_empty fs x) (nothing_event x fs) x (nothing_end fs) fs (pair_value h)
closes_stand x fs (behind_properties {p = p} {fs = gs} g h) =
    either_ending (continues_node (behind_property (frames_room gs)) p x.kind x.at)
    (ending (InFrames (PropertiesFrame p ∷ gs)) [])
    (with_event (alone_event p (frames_indent gs)) (finish_frames x (properties_end p) gs))
    (ends_well (behind_properties g h))
    (with_ending (alone_event p (frames_indent gs)) (finish_frames x (properties_end p) gs)
    (finish_ends x (properties_end p) gs h))
closes_stand x fs (past_entry {loose = loose} {c = c} {fs = gs} p h) =
    past_sequence_well x loose c gs (finish_frames x x.at.start gs) p h (finish_ends x x.at.start gs h)
closes_stand x fs (key_done p h) = ends_well (key_done p h)
closes_stand x fs (ask_done {c = c} {fs = gs} p h) =
    past_asked_well x c gs (finish_frames x x.at.start gs) p h (finish_ends x x.at.start gs h)
closes_stand x fs (pair_done {c = c} {fs = gs} p h) =
    past_mapping_well x c gs (finish_frames x x.at.start gs) p h (finish_ends x x.at.start gs h)
closes_stand x fs (item_done h) = ends_well (item_done h)
closes_stand x fs (curly_key_done h) = ends_well (curly_key_done h)
closes_stand x fs (curly_ask_done {fs = gs} h) = past_curly_well x gs h
closes_stand x fs (curly_solo h) = ends_well (curly_solo h)
closes_stand x fs (curly_done h) = ends_well (curly_done h)
closes_stand x fs (made_key_done h) = ends_well (made_key_done h)
closes_stand x fs (made_done {fs = gs} h) =
    past_made_well x gs (ending (InFrames (FlowSequenceFrame true ∷ gs)) []) h (ends_well (item_done h))
closes_stand x fs (square_ask_done {fs = gs} h) =
    past_square_well x gs (ending (InFrames (FlowSequenceFrame true ∷ gs)) []) h (ends_well (item_done h))
closes_stand x fs (square_done h) = ends_well (item_done h)

-- ---- what is taken

part_stands :
    (stop : GrammarFault) (fs : List OpenFrame) (p : TreeProperties) (m : PartKind) (i : At) → Holes fs →
    GoodStep (part_frames stop fs p m i)
part_stands stop fs NoProperties (Alias name) i h = goes_well (put_stands i.shown.end fs h)
part_stands stop fs (One k j) (Alias name) i h = stops_well
part_stands stop fs (Two k j m q) (Alias name) i h = stops_well
part_stands stop fs NoProperties (Property k) i h = goes_well (behind_properties tt h)
part_stands stop fs (One m j) (Property k) i h =
    if_step (differ m k) stop (GoesTo (InFrames (PropertiesFrame (Two m j k i) ∷ fs)) [])
    (λ e. goes_well (behind_properties e h))
part_stands stop fs (Two k j m q) (Property r) i h = stops_well
part_stands stop fs NoProperties (Scalar style text) i h = goes_well (put_stands i.shown.end fs h)
part_stands stop fs (One k j) (Scalar style text) i h = goes_well (put_stands i.shown.end fs h)
part_stands stop fs (Two k j m q) (Scalar style text) i h = goes_well (put_stands i.shown.end fs h)
part_stands stop fs NoProperties (Open Square) i h = goes_well (hole (at_item h))
part_stands stop fs NoProperties (Open Curly) i h = goes_well (hole (at_curly h))
part_stands stop fs (One k j) (Open Square) i h = goes_well (hole (at_item h))
part_stands stop fs (One k j) (Open Curly) i h = goes_well (hole (at_curly h))
part_stands stop fs (Two k j m q) (Open Square) i h = goes_well (hole (at_item h))
part_stands stop fs (Two k j m q) (Open Curly) i h = goes_well (hole (at_curly h))

-- a pair of a block mapping, of square and of curly brackets
block_entry :
    (stop : GrammarFault) (kind : TerminalKind) (c : ℕ) (i : At) (fs : List OpenFrame) → IsPositive c → Holes fs →
    GoodStep (entry_frames stop (BlockSite c fs) kind i)
block_entry stop (Part k) c i fs g h =
    after_step [] (part_frames stop (MappingFrame c Key ∷ fs) NoProperties k i)
    (part_stands stop (MappingFrame c Key ∷ fs) NoProperties k i (at_key g h))
block_entry stop Question c i fs g h = goes_well (hole (at_asked g h))
block_entry stop (Colon None) c i fs g h = goes_well (hole (at_value g h))
block_entry stop (Colon (Some n)) c i fs g h = stops_well
block_entry stop kind c i fs g h = stops_well

square_entry :
    (stop : GrammarFault) (kind : TerminalKind) (i : At) (fs : List OpenFrame) → Holes fs →
    GoodStep (entry_frames stop (FlowSite Square fs) kind i)
square_entry stop (Part k) i fs h =
    after_step (pair_start (Part k) i ∷ [])
    (part_frames stop (FlowMappingFrame true Key ∷ FlowSequenceFrame false ∷ fs) NoProperties k i)
    (part_stands stop (FlowMappingFrame true Key ∷ FlowSequenceFrame false ∷ fs) NoProperties k i (made_key h))
square_entry stop Question i fs h = goes_well (hole (pair_asked h))
square_entry stop (Colon None) i fs h = goes_well (hole (made_value h))
square_entry stop (Colon (Some n)) i fs h = stops_well
square_entry stop kind i fs h = stops_well

curly_entry :
    (stop : GrammarFault) (kind : TerminalKind) (i : At) (fs : List OpenFrame) → Holes fs →
    GoodStep (entry_frames stop (FlowSite Curly fs) kind i)
curly_entry stop (Part k) i fs h =
    after_step [] (part_frames stop (FlowMappingFrame false Key ∷ fs) NoProperties k i)
    (part_stands stop (FlowMappingFrame false Key ∷ fs) NoProperties k i (curly_key h))
curly_entry stop Question i fs h = goes_well (hole (curly_asked h))
curly_entry stop (Colon None) i fs h = goes_well (hole (curly_value h))
curly_entry stop (Colon (Some n)) i fs h = stops_well
curly_entry stop kind i fs h = stops_well

begin_stands :
    (stop : GrammarFault) (fs : List OpenFrame) (p : TreeProperties) (kind : TerminalKind) (i : At) → Holes fs →
    GoodStep (begin_pair_frames stop fs p kind i)
begin_stands stop fs (One k j) kind i h =
    after_step (mapping_start (One k j) (terminal kind i) (frames_indent fs) ∷ [])
    (entry_frames stop (BlockSite (edge i) fs) kind i) (block_entry stop kind (edge i) i fs tt h)
begin_stands stop fs (Two k j m q) kind i h =
    after_step (mapping_start (Two k j m q) (terminal kind i) (frames_indent fs) ∷ [])
    (entry_frames stop (BlockSite (edge i) fs) kind i) (block_entry stop kind (edge i) i fs tt h)
begin_stands stop fs NoProperties kind i (at_item h) = square_entry stop kind i _ h
begin_stands stop fs NoProperties kind i (at_curly h) = curly_entry stop kind i _ h
begin_stands stop fs NoProperties kind i at_root =
    after_step (mapping_start NoProperties (terminal kind i) (frames_indent fs) ∷ [])
    (entry_frames stop (BlockSite (edge i) fs) kind i) (block_entry stop kind (edge i) i fs tt at_root)
begin_stands stop fs NoProperties kind i (at_entry p h) =
    after_step (mapping_start NoProperties (terminal kind i) (frames_indent fs) ∷ [])
    (entry_frames stop (BlockSite (edge i) fs) kind i) (block_entry stop kind (edge i) i fs tt (at_entry p h))
begin_stands stop fs NoProperties kind i (at_key p h) =
    after_step (mapping_start NoProperties (terminal kind i) (frames_indent fs) ∷ [])
    (entry_frames stop (BlockSite (edge i) fs) kind i) (block_entry stop kind (edge i) i fs tt (at_key p h))
begin_stands stop fs NoProperties kind i (at_asked p h) =
    after_step (mapping_start NoProperties (terminal kind i) (frames_indent fs) ∷ [])
    (entry_frames stop (BlockSite (edge i) fs) kind i) (block_entry stop kind (edge i) i fs tt (at_asked p h))
begin_stands stop fs NoProperties kind i (at_value p h) =
    after_step (mapping_start NoProperties (terminal kind i) (frames_indent fs) ∷ [])
    (entry_frames stop (BlockSite (edge i) fs) kind i) (block_entry stop kind (edge i) i fs tt (at_value p h))
begin_stands stop fs NoProperties kind i (curly_key h) =
    after_step (mapping_start NoProperties (terminal kind i) (frames_indent fs) ∷ [])
    (entry_frames stop (BlockSite (edge i) fs) kind i) (block_entry stop kind (edge i) i fs tt (curly_key h))
begin_stands stop fs NoProperties kind i (curly_asked h) =
    after_step (mapping_start NoProperties (terminal kind i) (frames_indent fs) ∷ [])
    (entry_frames stop (BlockSite (edge i) fs) kind i) (block_entry stop kind (edge i) i fs tt (curly_asked h))
begin_stands stop fs NoProperties kind i (curly_value h) =
    after_step (mapping_start NoProperties (terminal kind i) (frames_indent fs) ∷ [])
    (entry_frames stop (BlockSite (edge i) fs) kind i) (block_entry stop kind (edge i) i fs tt (curly_value h))
begin_stands stop fs NoProperties kind i (made_key h) =
    after_step (mapping_start NoProperties (terminal kind i) (frames_indent fs) ∷ [])
    (entry_frames stop (BlockSite (edge i) fs) kind i) (block_entry stop kind (edge i) i fs tt (made_key h))
begin_stands stop fs NoProperties kind i (made_value h) =
    after_step (mapping_start NoProperties (terminal kind i) (frames_indent fs) ∷ [])
    (entry_frames stop (BlockSite (edge i) fs) kind i) (block_entry stop kind (edge i) i fs tt (made_value h))
begin_stands stop fs NoProperties kind i (pair_asked h) =
    after_step (mapping_start NoProperties (terminal kind i) (frames_indent fs) ∷ [])
    (entry_frames stop (BlockSite (edge i) fs) kind i) (block_entry stop kind (edge i) i fs tt (pair_asked h))
begin_stands stop fs NoProperties kind i (pair_value h) =
    after_step (mapping_start NoProperties (terminal kind i) (frames_indent fs) ∷ [])
    (entry_frames stop (BlockSite (edge i) fs) kind i) (block_entry stop kind (edge i) i fs tt (pair_value h))

close_stands :
    (fs : List OpenFrame) (p : TreeProperties) (i : At) → Holes fs →
    GoodStep (want_frames fs p (Close Square) i) × GoodStep (want_frames fs p (Close Curly) i)
close_stands fs (One k j) i at_root = (stops_well, stops_well)
close_stands fs (One k j) i (at_entry p h) = (stops_well, stops_well)
close_stands fs (One k j) i (at_key p h) = (stops_well, stops_well)
close_stands fs (One k j) i (at_asked p h) = (stops_well, stops_well)
close_stands fs (One k j) i (at_value p h) = (stops_well, stops_well)
close_stands fs (One k j) i (at_item h) = (stops_well, stops_well)
close_stands fs (One k j) i (at_curly h) = (stops_well, stops_well)
close_stands fs (One k j) i (curly_key h) = (stops_well, stops_well)
close_stands fs (One k j) i (curly_asked h) = (stops_well, stops_well)
close_stands fs (One k j) i (curly_value h) = (stops_well, stops_well)
close_stands fs (One k j) i (made_key h) = (stops_well, stops_well)
close_stands fs (One k j) i (made_value h) = (stops_well, stops_well)
close_stands fs (One k j) i (pair_asked h) = (stops_well, stops_well)
close_stands fs (One k j) i (pair_value h) = (stops_well, stops_well)
close_stands fs (Two k j m q) i at_root = (stops_well, stops_well)
close_stands fs (Two k j m q) i (at_entry p h) = (stops_well, stops_well)
close_stands fs (Two k j m q) i (at_key p h) = (stops_well, stops_well)
close_stands fs (Two k j m q) i (at_asked p h) = (stops_well, stops_well)
close_stands fs (Two k j m q) i (at_value p h) = (stops_well, stops_well)
close_stands fs (Two k j m q) i (at_item h) = (stops_well, stops_well)
close_stands fs (Two k j m q) i (at_curly h) = (stops_well, stops_well)
close_stands fs (Two k j m q) i (curly_key h) = (stops_well, stops_well)
close_stands fs (Two k j m q) i (curly_asked h) = (stops_well, stops_well)
close_stands fs (Two k j m q) i (curly_value h) = (stops_well, stops_well)
close_stands fs (Two k j m q) i (made_key h) = (stops_well, stops_well)
close_stands fs (Two k j m q) i (made_value h) = (stops_well, stops_well)
close_stands fs (Two k j m q) i (pair_asked h) = (stops_well, stops_well)
close_stands fs (Two k j m q) i (pair_value h) = (stops_well, stops_well)
close_stands fs NoProperties i (at_item h) = (goes_well (put_stands i.shown.end _ h), stops_well)
close_stands fs NoProperties i (at_curly h) = (stops_well, goes_well (put_stands i.shown.end _ h))
close_stands fs NoProperties i at_root = (stops_well, stops_well)
close_stands fs NoProperties i (at_entry p h) = (stops_well, stops_well)
close_stands fs NoProperties i (at_key p h) = (stops_well, stops_well)
close_stands fs NoProperties i (at_asked p h) = (stops_well, stops_well)
close_stands fs NoProperties i (at_value p h) = (stops_well, stops_well)
close_stands fs NoProperties i (curly_key h) = (stops_well, stops_well)
close_stands fs NoProperties i (curly_asked h) = (stops_well, stops_well)
close_stands fs NoProperties i (curly_value h) = (stops_well, stops_well)
close_stands fs NoProperties i (made_key h) = (stops_well, stops_well)
close_stands fs NoProperties i (made_value h) = (stops_well, stops_well)
close_stands fs NoProperties i (pair_asked h) = (stops_well, stops_well)
close_stands fs NoProperties i (pair_value h) = (stops_well, stops_well)

abbrev Dashed : Bool → TreeProperties → At → List OpenFrame → EventStep
Dashed loose p i fs =
    GoesTo (InFrames (SequenceFrame loose (edge i) (Some i.end) ∷ fs))
    (sequence_start p loose i (frames_indent fs) ∷ [])

pub want_stands :
    (fs : List OpenFrame) (p : TreeProperties) (kind : TerminalKind) (i : At) → Holes fs →
    GoodStep (want_frames fs p kind i)
want_stands fs p (Part k) i h =
    either_step (opens (room_behind p (frames_room fs)) i) (begin_pair_frames (stop_kind fs) fs p (Part k) i)
    (if_gives (part_fits (room_behind p (frames_room fs)) i) (stop_kind fs) (part_frames (stop_kind fs) fs p k i))
    (begin_stands (stop_kind fs) fs p (Part k) i h)
    (if_step (part_fits (room_behind p (frames_room fs)) i) (stop_kind fs) (part_frames (stop_kind fs) fs p k i)
    (λ e. part_stands (stop_kind fs) fs p k i h))
want_stands fs p Dash i h =
    either_step (loose_fits (room_behind p (frames_room fs)) (edge i)) (Dashed true p i fs)
    (if_gives (right_fits (room_behind p (frames_room fs)) (edge i)) (stop_kind fs) (Dashed false p i fs))
    (goes_well (hole (at_entry tt h)))
    (if_step (right_fits (room_behind p (frames_room fs)) (edge i)) (stop_kind fs) (Dashed false p i fs)
    (λ e. goes_well (hole (at_entry tt h))))
want_stands fs p Question i h =
    if_step (indicates (room_behind p (frames_room fs)) i) (stop_kind fs)
    (begin_pair_frames (stop_kind fs) fs p Question i)
    (λ e. begin_stands (stop_kind fs) fs p Question i h)
want_stands fs p (Colon None) i h =
    if_step (indicates (room_behind p (frames_room fs)) i) (stop_kind fs)
    (begin_pair_frames (stop_kind fs) fs p (Colon None) i) (λ e. begin_stands (stop_kind fs) fs p (Colon None) i h)
want_stands fs p (Colon (Some n)) i h = stops_well
want_stands fs p (Close Square) i h = (close_stands fs p i h).0
want_stands fs p (Close Curly) i h = (close_stands fs p i h).1
want_stands fs p kind i h = stops_well

-- where nothing ends before a lexeme
pub take_stands :
    (fs : List OpenFrame) (kind : TerminalKind) (i : At) → Good (InFrames fs) →
    GoodStep (take_frames (InFrames fs) kind i)
take_stands fs kind i (hole at_root) = want_stands fs NoProperties kind i at_root
take_stands fs kind i (hole (at_entry p h)) = want_stands fs NoProperties kind i (at_entry p h)
take_stands fs kind i (hole (at_key p h)) = want_stands fs NoProperties kind i (at_key p h)
take_stands fs kind i (hole (at_asked p h)) = want_stands fs NoProperties kind i (at_asked p h)
take_stands fs kind i (hole (at_value p h)) = want_stands fs NoProperties kind i (at_value p h)
take_stands fs kind i (hole (at_item h)) = want_stands fs NoProperties kind i (at_item h)
take_stands fs kind i (hole (at_curly h)) = want_stands fs NoProperties kind i (at_curly h)
take_stands fs kind i (hole (curly_key h)) = want_stands fs NoProperties kind i (curly_key h)
take_stands fs kind i (hole (curly_asked h)) = want_stands fs NoProperties kind i (curly_asked h)
take_stands fs kind i (hole (curly_value h)) = want_stands fs NoProperties kind i (curly_value h)
take_stands fs kind i (hole (made_key h)) = want_stands fs NoProperties kind i (made_key h)
take_stands fs kind i (hole (made_value h)) = want_stands fs NoProperties kind i (made_value h)
take_stands fs kind i (hole (pair_asked h)) = want_stands fs NoProperties kind i (pair_asked h)
take_stands fs kind i (hole (pair_value h)) = want_stands fs NoProperties kind i (pair_value h)
take_stands fs kind i (behind_properties {p = p} {fs = gs} g h) = want_stands gs p kind i h
take_stands fs Dash i (past_entry {loose = loose} {c = c} {fs = gs} p h) =
    if_step (edge i == c) ExpectedBlockSequenceEntry (GoesTo (InFrames (SequenceFrame loose c (Some i.end) ∷ gs)) [])
    (λ e. goes_well (hole (at_entry p h)))
take_stands fs kind i (past_entry p h) = stops_well
take_stands fs (Colon (Some n)) i (key_done p h) = goes_well (hole (at_value p h))
take_stands fs (Colon None) i (key_done p h) = stops_well
take_stands fs kind i (key_done p h) = stops_well
take_stands fs (Colon None) i (ask_done {c = c} {fs = gs} p h) =
    if_step (edge i == c) ExpectedBlockMappingKey (GoesTo (InFrames (MappingFrame c (Value i.start) ∷ gs)) [])
    (λ e. goes_well (hole (at_value p h)))
take_stands fs (Colon (Some n)) i (ask_done p h) = stops_well
take_stands fs kind i (ask_done p h) = stops_well
take_stands fs kind i (pair_done {c = c} {fs = gs} p h) =
    if_step (entry_in (terminal kind i) c) ExpectedBlockMappingKey
    (entry_frames ExpectedBlockMappingKey (BlockSite c gs) kind i)
    (λ e. block_entry ExpectedBlockMappingKey kind c i gs p h)
take_stands fs Comma i (item_done h) = goes_well (hole (at_item h))
take_stands fs (Close Square) i (item_done {fs = gs} h) = goes_well (put_stands i.shown.end gs h)
take_stands fs (Close Curly) i (item_done h) = stops_well
take_stands fs kind i (item_done h) = stops_well
take_stands fs (Colon (Some n)) i (curly_key_done h) = goes_well (hole (curly_value h))
take_stands fs (Colon None) i (curly_key_done h) = stops_well
take_stands fs kind i (curly_key_done h) = stops_well
take_stands fs Comma i (curly_ask_done h) = stops_well
take_stands fs (Colon None) i (curly_ask_done h) = goes_well (hole (curly_value h))
take_stands fs (Colon (Some n)) i (curly_ask_done h) = stops_well
take_stands fs kind i (curly_ask_done h) = stops_well
take_stands fs Comma i (curly_solo h) = goes_well (hole (at_curly h))
take_stands fs (Close Curly) i (curly_solo {fs = gs} h) = goes_well (put_stands i.shown.end gs h)
take_stands fs (Close Square) i (curly_solo h) = stops_well
take_stands fs kind i (curly_solo h) = stops_well
take_stands fs Comma i (curly_done h) = goes_well (hole (at_curly h))
take_stands fs (Close Curly) i (curly_done {fs = gs} h) = goes_well (put_stands i.shown.end gs h)
take_stands fs (Close Square) i (curly_done h) = stops_well
take_stands fs kind i (curly_done h) = stops_well
take_stands fs (Colon (Some n)) i (made_key_done h) = goes_well (hole (made_value h))
take_stands fs (Colon None) i (made_key_done h) = stops_well
take_stands fs kind i (made_key_done h) = stops_well
take_stands fs kind i (made_done h) = stops_well
take_stands fs (Colon None) i (square_ask_done h) = goes_well (hole (pair_value h))
take_stands fs (Colon (Some n)) i (square_ask_done h) = stops_well
take_stands fs kind i (square_ask_done h) = stops_well
take_stands fs kind i (square_done h) = stops_well
