-- What a lexeme ends: the parser's turns are steps of the grammar's closing.
use Rattle.granit_views.specs.Closed.{Closed, ClosedView, Below, with_all}
use Rattle.granit_views.specs.Fair.{FairAt, FairFinish, Fair, frame_ends_at, frames_below}
use Rattle.granit_views.specs.Good.{Holes, at_root, at_entry, at_key, at_asked, at_value, at_item, at_curly}
use Rattle.granit_views.specs.Good.{curly_key, curly_asked, curly_value, made_key, made_value, pair_asked}
use Rattle.granit_views.specs.Good.{pair_value, Good, hole, behind_properties, past_entry, key_done, ask_done}
use Rattle.granit_views.specs.Good.{pair_done, item_done, curly_key_done, curly_ask_done, curly_solo, curly_done}
use Rattle.granit_views.specs.Good.{made_key_done, made_done, square_ask_done, square_done}
use Rattle.granit_views.specs.View.{Beside, state_of, give_all, with_given}
use Rattle.granit_language.specs.Seen.{terminal_of}
use Rattle.granit_base.specs.Place.{Mark}
use Rattle.granit_event_machine.specs.EventMachine.{OpenFrame, DocumentFrame, PropertiesFrame, SequenceFrame}
use Rattle.granit_event_machine.specs.EventMachine.{MappingFrame}
use Rattle.granit_event_machine.specs.EventMachine.{FlowSequenceFrame, FlowMappingFrame, FlowPairFrame, EventState}
use Rattle.granit_event_machine.specs.EventMachine.{IsFresh}
use Rattle.granit_event_machine.specs.EventMachine.{HasDirectives, IsRooted, InFrames, IsEnded, Ending, with_event}
use Rattle.granit_event_machine.specs.EventMachine.{past_sequence, past_mapping, past_asked, finish_frames, ended_by}
use Rattle.granit_event_machine.specs.EventMachine.{put_frames, frames_room, frames_indent}
use Rattle.granit_language.specs.Choice.{choose}
use Rattle.granit_language.specs.Room.{BlockIn, entry_empty, sequence_over, behind_property, continues_node, ask_over}
use Rattle.granit_language.specs.Scope.{Scope}
use Rattle.granit_language.specs.Telling.{event_told}
use Rattle.granit_language.specs.Terminal.{TerminalKind, Comma, Close, Terminal, stands_left, dash_in, entry_in}
use Rattle.granit_language.specs.Terminal.{bare_in, stands_in, reach_of, is_bare_kind, is_comma_kind, closes_kind}
use Rattle.granit_language.specs.TreeEvents.{SequenceEnds, MappingEnds, TreeEvent, null, pointed, alone_event}
use Rattle.granit_language.specs.TreeEvents.{properties_end}
use Rattle.granit_lexemes.specs.declared.layout.Bracket.TheVariants.{Square}
use Rattle.granit_machine.specs.Closing.{ends_top, close_turn, depth}
use Rattle.granit_machine.specs.Frames.{ParserState}
use Rattle.granit_machine.specs.TokenSort.{Token, token_of}
use Rattle.std.proofs.Common.{◌≡◌, ◌<◌, ℕ, suc, zero, Bool, true, false, List, [], ◌∷◌, ◌++◌, refl, sym, ap, ◌∙◌, subst}
use Rattle.std.proofs.Common.{arith, ◌||◌, ◌&&◌, not, Some, None, Result, Ok}
use Rattle.std.proofs.lemmas.Bool.{or_left, not-true, and_right}
use Rattle.std.specs.Prelude.{nat_le}
use Rattle.std.proofs.lemmas.Bool.Decides.{nat_tests}
use Rattle.granit_event_machine.specs.Guarded.{blocks_open}
use Rattle.granit_error.specs.OptionsData.{OptionsData}
use Rattle.granit_lexemes.specs.Outcome.{Fault, ◌>>=◌}
use Rattle.granit_lexemes.specs.Pieces.{with_front, then_more, turns, pieces}
use Rattle.granit_lexemes.specs.PlainEvent.{PlainEvent}
use Rattle.granit_lexemes.specs.Lexeme as lexemes
use Rattle.granit_machine.proofs.ClosingLemmas.{close_turn-Shortens, close_by}
use Rattle.granit_views.proofs.Ends.{ends_same, left_no_dash, dash_no_entry, left_not_in}
use Rattle.granit_views.proofs.Pops.{ending_gives, ending_at, top_below, Popped, pops}
use Rattle.granit_views.proofs.Standing.{put_good, finish_closes}

chosen : {A : Type 0} → (b : Bool) (y z : A) → b ≡ true → choose b y z ≡ y
chosen true y z e = refl
chosen false y z e = cc (e)

not_chosen : {A : Type 0} → (b : Bool) (y z : A) → b ≡ false → choose b y z ≡ z
not_chosen false y z e = refl
not_chosen true y z e = cc (e)

-- ---- tests

waits_empty :
    (loose : Bool) (left dash pair : Bool) → (left || (loose && pair)) ≡ true →
    (left || (dash || (loose && pair))) ≡ true
waits_empty loose true dash pair e = refl
waits_empty loose false true pair e = refl
waits_empty loose false false pair e = e

or_split : (a b : Bool) (P : Type 0) → (a || b) ≡ true → (a ≡ true → P) → (b ≡ true → P) → P
or_split true b P e f g = f refl
or_split false b P e f g = g e

waits_over :
    (loose : Bool) (x : Terminal) (c : ℕ) → (stands_left x c || (loose && entry_in x c)) ≡ true →
    sequence_over loose c x ≡ true
waits_over true x c e =
    or_split (stands_left x c) (entry_in x c) (not (dash_in x c) ≡ true) e (λ l. ap not (left_no_dash x c l))
    (λ p. ap not (dash_no_entry x c p))
waits_over false x c e = or_split (stands_left x c) false (stands_left x c ≡ true) e (λ l. l) (λ f. cc (f))

left_not_bare : (x : Terminal) (c : ℕ) → stands_left x c ≡ true → not (bare_in x c) ≡ true
left_not_bare x c e = ap not (and_right (is_bare_kind x.kind) (stands_in x c) (left_not_in (reach_of x.kind x.at) c e))

ends_not_bare : (k : TerminalKind) → (is_comma_kind k || closes_kind Square k) ≡ true → not (is_bare_kind k) ≡ true
ends_not_bare Comma e = refl
ends_not_bare (Close bracket) e = refl
ends_not_bare k e = cc (e)

-- ---- the parts of the grammar's closing

over_sequence :
    (x : Terminal) (loose : Bool) (c : ℕ) (fs : List OpenFrame) → Holes fs → sequence_over loose c x ≡ true →
    past_sequence x loose c fs (finish_frames x x.at.start fs)
    ≡ with_event (pointed SequenceEnds x.at.start) (ended_by x (put_frames x.at.start fs))
over_sequence x loose c fs h e =
    chosen (sequence_over loose c x) _ _ e
    ∙ ap (with_event (pointed SequenceEnds x.at.start)) (finish_closes x x.at.start fs h)

over_mapping :
    (x : Terminal) (c : ℕ) (fs : List OpenFrame) → Holes fs → stands_left x c ≡ true →
    past_mapping x c fs (finish_frames x x.at.start fs)
    ≡ with_event (pointed MappingEnds x.at.start) (ended_by x (put_frames x.at.start fs))
over_mapping x c fs h e =
    chosen (stands_left x c) _ _ e ∙ ap (with_event (pointed MappingEnds x.at.start)) (finish_closes x x.at.start fs h)

over_asked :
    (x : Terminal) (c : ℕ) (fs : List OpenFrame) → Holes fs → stands_left x c ≡ true →
    past_asked x c fs (finish_frames x x.at.start fs)
    ≡ with_event (null x.at.start None)
    (with_event (pointed MappingEnds x.at.start) (ended_by x (put_frames x.at.start fs)))
over_asked x c fs h e =
    chosen (ask_over (BlockIn c) x) _ _ (left_not_bare x c e)
    ∙ ap (with_event (null x.at.start None)) (over_mapping x c fs h e)

over_square :
    (x : Terminal) (fs : List OpenFrame) → Holes fs →
    with_event (pointed MappingEnds x.at.start) (finish_frames x x.at.start fs)
    ≡ with_event (pointed MappingEnds x.at.start) (ended_by x (put_frames x.at.start fs))
over_square x fs h = ap (with_event (pointed MappingEnds x.at.start)) (finish_closes x x.at.start fs h)

abbrev pub Ended : Terminal → List OpenFrame → Ending
Ended x fs = with_all (ending_gives x.at.start fs) (ended_by x (put_frames (ending_at x.at.start fs) (top_below fs)))

pub closes_ended :
    (x : Terminal) (fs : List OpenFrame) → Good (InFrames fs) → frame_ends_at x (InFrames fs) ≡ true →
    ended_by x (InFrames fs) ≡ Ended x fs
closes_ended x fs (hole (at_root {m = None})) e = cc (e)
closes_ended x fs (hole (at_root {m = Some m})) e = chosen _ _ _ e
closes_ended x fs (hole (at_entry {loose = loose} {c = c} {w = w} {fs = gs} q h)) e =
    chosen (entry_empty loose c x) _ _ (waits_empty loose (stands_left x c) (dash_in x c) (entry_in x c) e)
    ∙ ap (with_event (null w None)) (over_sequence x loose c gs h (waits_over loose x c e))
closes_ended x fs (hole (at_key q h)) e = cc (e)
closes_ended x fs (hole (at_asked {c = c} {fs = gs} q h)) e =
    chosen (stands_left x c || entry_in x c) _ _ (or_left (stands_left x c) (entry_in x c) e)
    ∙ ap (with_event (null x.at.start (Some c))) (over_asked x c gs h e)
closes_ended x fs (hole (at_value {c = c} {w = w} {fs = gs} q h)) e =
    chosen (stands_left x c || entry_in x c) _ _ (or_left (stands_left x c) (entry_in x c) e)
    ∙ ap (with_event (null w None)) (over_mapping x c gs h e)
closes_ended x fs (hole (at_item h)) e = cc (e)
closes_ended x fs (hole (at_curly h)) e = cc (e)
closes_ended x fs (hole (curly_key h)) e = cc (e)
closes_ended x fs (hole (curly_asked h)) e = cc (e)
closes_ended x fs (hole (curly_value h)) e = cc (e)
closes_ended x fs (hole (made_key h)) e = cc (e)
closes_ended x fs (hole (made_value {w = w} {fs = gs} h)) e =
    chosen (is_comma_kind x.kind || closes_kind Square x.kind) _ _ e
    ∙ ap (with_event (null w None))
    (chosen (is_comma_kind x.kind || closes_kind Square x.kind) _ _ e
    ∙ over_square x (FlowSequenceFrame false ∷ gs) (at_item h))
closes_ended x fs (hole (pair_asked {fs = gs} h)) e =
    chosen (is_comma_kind x.kind || closes_kind Square x.kind) _ _ e
    ∙ ap (with_event (null x.at.start None))
    (chosen (not (is_bare_kind x.kind)) _ _ (ends_not_bare x.kind e)
    ∙ ap (with_event (null x.at.start None)) (over_square x (FlowSequenceFrame false ∷ gs) (at_item h)))
closes_ended x fs (hole (pair_value {w = w} {fs = gs} h)) e =
    chosen (is_comma_kind x.kind || closes_kind Square x.kind) _ _ e
    ∙ ap (with_event (null x.at.start None)) (over_square x (FlowSequenceFrame false ∷ gs) (at_item h))
closes_ended x fs (behind_properties {p = p} {fs = gs} g h) e =
    not_chosen (continues_node (behind_property (frames_room gs)) p x.kind x.at) _ _ (not-true _ e)
    ∙ ap (with_event (alone_event p (frames_indent gs))) (finish_closes x (properties_end p) gs h)
closes_ended x fs (past_entry {loose = loose} {c = c} {fs = gs} q h) e = over_sequence x loose c gs h e
closes_ended x fs (key_done q h) e = cc (e)
closes_ended x fs (ask_done {c = c} {fs = gs} q h) e = over_asked x c gs h e
closes_ended x fs (pair_done {c = c} {fs = gs} q h) e = over_mapping x c gs h e
closes_ended x fs (item_done h) e = cc (e)
closes_ended x fs (curly_key_done h) e = cc (e)
closes_ended x fs (curly_ask_done h) e = cc (e)
closes_ended x fs (curly_solo h) e = cc (e)
closes_ended x fs (curly_done h) e = cc (e)
closes_ended x fs (made_key_done h) e = cc (e)
closes_ended x fs (made_done {fs = gs} h) e =
    chosen (is_comma_kind x.kind || closes_kind Square x.kind) _ _ e
    ∙ over_square x (FlowSequenceFrame false ∷ gs) (at_item h)
closes_ended x fs (square_ask_done {fs = gs} h) e =
    chosen (not (is_bare_kind x.kind)) _ _ e
    ∙ ap (with_event (null x.at.start None)) (over_square x (FlowSequenceFrame false ∷ gs) (at_item h))
closes_ended x fs (square_done {fs = gs} h) e = over_square x (FlowSequenceFrame false ∷ gs) (at_item h)

-- ---- the state behind

fair_put : (x : Terminal) (e : Mark) (fs : List OpenFrame) → Holes fs → FairFinish x fs → Fair x (put_frames e fs)
fair_put x e fs at_root f = (tt, λ t. cc (t))
fair_put x e fs (at_entry q h) f = f
fair_put x e fs (at_key q h) f = f
fair_put x e fs (at_asked q h) f = f
fair_put x e fs (at_value q h) f = f
fair_put x e fs (at_item h) f = f
fair_put x e fs (at_curly h) f = f
fair_put x e fs (curly_key h) f = f
fair_put x e fs (curly_asked h) f = f
fair_put x e fs (curly_value h) f = f
fair_put x e fs (made_key h) f = f
fair_put x e fs (made_value h) f = f
fair_put x e fs (pair_asked h) f = f
fair_put x e fs (pair_value h) f = f

-- the frames below one that ends take a node
below_holes :
    (x : Terminal) (fs : List OpenFrame) → Good (InFrames fs) → frame_ends_at x (InFrames fs) ≡ true →
    Holes (top_below fs)
below_holes x fs (hole (at_root {m = m})) e = at_root
below_holes x fs (hole (at_entry q h)) e = h
below_holes x fs (hole (at_key q h)) e = h
below_holes x fs (hole (at_asked q h)) e = h
below_holes x fs (hole (at_value q h)) e = h
below_holes x fs (hole (at_item h)) e = h
below_holes x fs (hole (at_curly h)) e = h
below_holes x fs (hole (curly_key h)) e = h
below_holes x fs (hole (curly_asked h)) e = h
below_holes x fs (hole (curly_value h)) e = h
below_holes x fs (hole (made_key h)) e = at_item h
below_holes x fs (hole (made_value h)) e = at_item h
below_holes x fs (hole (pair_asked h)) e = at_item h
below_holes x fs (hole (pair_value h)) e = at_item h
below_holes x fs (behind_properties g h) e = h
below_holes x fs (past_entry q h) e = h
below_holes x fs (key_done q h) e = h
below_holes x fs (ask_done q h) e = h
below_holes x fs (pair_done q h) e = h
below_holes x fs (item_done h) e = h
below_holes x fs (curly_key_done h) e = h
below_holes x fs (curly_ask_done h) e = h
below_holes x fs (curly_solo h) e = h
below_holes x fs (curly_done h) e = h
below_holes x fs (made_key_done h) e = at_item h
below_holes x fs (made_done h) e = at_item h
below_holes x fs (square_ask_done h) e = at_item h
below_holes x fs (square_done h) e = at_item h

fair_below :
    (x : Terminal) (fs : List OpenFrame) (e : Mark) → Good (InFrames fs) → (t : frame_ends_at x (InFrames fs) ≡ true) →
    FairFinish x (frames_below (InFrames fs)) → Fair x (put_frames e (top_below fs))
fair_below x fs e (hole (at_root {m = m})) t f = (tt, λ t. cc (t))
fair_below x fs e (hole (at_entry q h)) t f = fair_put x e _ h f
fair_below x fs e (hole (at_key q h)) t f = fair_put x e _ h f
fair_below x fs e (hole (at_asked q h)) t f = fair_put x e _ h f
fair_below x fs e (hole (at_value q h)) t f = fair_put x e _ h f
fair_below x fs e (hole (at_item h)) t f = fair_put x e _ h f
fair_below x fs e (hole (at_curly h)) t f = fair_put x e _ h f
fair_below x fs e (hole (curly_key h)) t f = fair_put x e _ h f
fair_below x fs e (hole (curly_asked h)) t f = fair_put x e _ h f
fair_below x fs e (hole (curly_value h)) t f = fair_put x e _ h f
fair_below x fs e (hole (made_key h)) t f = fair_put x e _ (at_item h) f
fair_below x fs e (hole (made_value h)) t f = fair_put x e _ (at_item h) f
fair_below x fs e (hole (pair_asked h)) t f = fair_put x e _ (at_item h) f
fair_below x fs e (hole (pair_value h)) t f = fair_put x e _ (at_item h) f
fair_below x fs e (behind_properties g h) t f = fair_put x e _ h f
fair_below x fs e (past_entry q h) t f = fair_put x e _ h f
fair_below x fs e (key_done q h) t f = fair_put x e _ h f
fair_below x fs e (ask_done q h) t f = fair_put x e _ h f
fair_below x fs e (pair_done q h) t f = fair_put x e _ h f
fair_below x fs e (item_done h) t f = fair_put x e _ h f
fair_below x fs e (curly_key_done h) t f = fair_put x e _ h f
fair_below x fs e (curly_ask_done h) t f = fair_put x e _ h f
fair_below x fs e (curly_solo h) t f = fair_put x e _ h f
fair_below x fs e (curly_done h) t f = fair_put x e _ h f
fair_below x fs e (made_key_done h) t f = fair_put x e _ (at_item h) f
fair_below x fs e (made_done h) t f = fair_put x e _ (at_item h) f
fair_below x fs e (square_ask_done h) t f = fair_put x e _ (at_item h) f
fair_below x fs e (square_done h) t f = fair_put x e _ (at_item h) f

-- ---- all turns

-- what turns give
abbrev TurnsView : OptionsData → Terminal → EventState → Beside → Result (List PlainEvent × ParserState) Fault → Type 0
TurnsView o x st d r = (p : ParserState) × (r ≡ Ok ([], p)) × ClosedView o x st d p

not_more : (n : ℕ) → nat_le n n ≡ true
not_more n = grind (arith, nat_tests)

one_fewer : (n : ℕ) → nat_le n (suc n) ≡ true
one_fewer n = grind (arith, nat_tests)

pub no_more_through : (n m k : ℕ) → nat_le n m ≡ true → nat_le m k ≡ true → nat_le n k ≡ true
no_more_through n m k e h = grind (arith, nat_tests)

below_same : (st : EventState) → Below st st
below_same IsFresh = refl
below_same (HasDirectives v) = refl
below_same (IsRooted e) = refl
below_same (InFrames fs) = not_more (blocks_open fs)
below_same IsEnded = refl

frames_from :
    (gs fs : List OpenFrame) (st : EventState) → nat_le (blocks_open gs) (blocks_open fs) ≡ true →
    Below (InFrames gs) st → Below (InFrames fs) st
frames_from gs fs (InFrames ks) e h = no_more_through (blocks_open ks) (blocks_open gs) (blocks_open fs) h e
frames_from gs fs (IsRooted m) e h = tt
frames_from gs fs IsFresh e h = h
frames_from gs fs (HasDirectives v) e h = h
frames_from gs fs IsEnded e h = h

abbrev inner_frames : EventState → List OpenFrame
inner_frames (InFrames fs) = fs
inner_frames st = []

abbrev put_list : Mark → List OpenFrame → List OpenFrame
put_list m gs = inner_frames (put_frames m gs)

-- behind a finished node, the frames around it are open
below_from :
    (m : Mark) (gs fs : List OpenFrame) (st : EventState) → Holes gs →
    nat_le (blocks_open gs) (blocks_open fs) ≡ true → Below (put_frames m gs) st → Below (InFrames fs) st
below_from m gs fs st at_root e h = subst (Below (InFrames fs)) (sym h) tt
below_from m gs fs st (at_entry p g) e h = frames_from (put_list m gs) fs st e h
below_from m gs fs st (at_key p g) e h = frames_from (put_list m gs) fs st e h
below_from m gs fs st (at_asked p g) e h = frames_from (put_list m gs) fs st e h
below_from m gs fs st (at_value p g) e h = frames_from (put_list m gs) fs st e h
below_from m gs fs st (at_item g) e h = frames_from (put_list m gs) fs st e h
below_from m gs fs st (at_curly g) e h = frames_from (put_list m gs) fs st e h
below_from m gs fs st (curly_key g) e h = frames_from (put_list m gs) fs st e h
below_from m gs fs st (curly_asked g) e h = frames_from (put_list m gs) fs st e h
below_from m gs fs st (curly_value g) e h = frames_from (put_list m gs) fs st e h
below_from m gs fs st (made_key g) e h = frames_from (put_list m gs) fs st e h
below_from m gs fs st (made_value g) e h = frames_from (put_list m gs) fs st e h
below_from m gs fs st (pair_asked g) e h = frames_from (put_list m gs) fs st e h
below_from m gs fs st (pair_value g) e h = frames_from (put_list m gs) fs st e h

top_fewer : (fs : List OpenFrame) → nat_le (blocks_open (top_below fs)) (blocks_open fs) ≡ true
top_fewer [] = refl
top_fewer (DocumentFrame m ∷ fs) = not_more (blocks_open fs)
top_fewer (PropertiesFrame p ∷ fs) = not_more (blocks_open fs)
top_fewer (SequenceFrame loose c w ∷ fs) = one_fewer (blocks_open fs)
top_fewer (MappingFrame c at ∷ fs) = one_fewer (blocks_open fs)
top_fewer (FlowSequenceFrame d ∷ fs) = not_more (blocks_open fs)
top_fewer (FlowMappingFrame single at ∷ fs) = not_more (blocks_open fs)
top_fewer (FlowPairFrame at ∷ fs) = not_more (blocks_open fs)

stay :
    (o : OptionsData) (x : Terminal) (st : EventState) (d : Beside) → Good st → FairAt x st →
    frame_ends_at x st ≡ false →
    ClosedView o x st d (state_of o st d)
stay o x st d g f e = record {
  closed_state = st;
  gives = [];
  last = d.last;
  view = refl;
  closes_is = refl;
  is_good = g;
  is_fair = f;
  stays = e;
  below = below_same st;
}

pub give_append :
    (o : OptionsData) (es more : List TreeEvent) (given : List PlainEvent) →
    give_all o (es ++ more) given ≡ give_all o more (give_all o es given)
give_append o [] more given = refl
give_append o (e ∷ es) more given = give_append o es more (given ++ event_told o e)

with_append : (es more : List TreeEvent) (y : Ending) → with_all (es ++ more) y ≡ with_all es (with_all more y)
with_append [] more y = refl
with_append (e ∷ es) more y = ap (with_event e) (with_append es more y)

-- one turn, and then the others
turned :
    (o : OptionsData) (x : Terminal) (fs : List OpenFrame) (d : Beside) (p : ParserState) → Good (InFrames fs) →
    frame_ends_at x (InFrames fs) ≡ true →
    ClosedView o x (put_frames (ending_at x.at.start fs) (top_below fs))
    (with_given (ending_at x.at.start fs) (give_all o (ending_gives x.at.start fs) d.given) d) p →
    ClosedView o x (InFrames fs) d p
turned o x fs d p g e v = record {
  closed_state = v.closed_state;
  gives = ending_gives x.at.start fs ++ v.gives;
  last = v.last;
  view =
      v.view
      ∙ ap (λ given. state_of o v.closed_state (with_given v.last given d))
      (sym (give_append o (ending_gives x.at.start fs) v.gives d.given));
  closes_is =
      closes_ended x fs g e
      ∙ (ap (with_all (ending_gives x.at.start fs)) v.closes_is
      ∙ sym (with_append (ending_gives x.at.start fs) v.gives (ended_by x v.closed_state)));
  is_good = v.is_good;
  is_fair = v.is_fair;
  stays = v.stays;
  below =
      below_from (ending_at x.at.start fs) (top_below fs) fs v.closed_state (below_holes x fs g e) (top_fewer fs)
      v.below;
}

turn_is :
    (o : OptionsData) (t : Token) (p : ParserState) (b : Bool) → ends_top t p p.frames ≡ b →
    close_turn o t p ≡ close_by b o t p
unfolding close_turn
turn_is o t p b e = ap (λ b. close_by b o t p) e

no_more :
    (o : OptionsData) (t : Token) (n : ℕ) (p : ParserState) → close_turn o t p ≡ Ok (None, p) →
    turns (close_turn o t) (suc n) p ≡ Ok ([], p)
unfolding turns
no_more o t n p e = ap (λ r. r >>= λ x. then_more (turns (close_turn o t) n) x.0 x.1) e

one_more :
    (o : OptionsData) (t : Token) (n : ℕ) (p q r : ParserState) → close_turn o t p ≡ Ok (Some [], q) →
    turns (close_turn o t) n q ≡ Ok ([], r) → turns (close_turn o t) (suc n) p ≡ Ok ([], r)
unfolding turns
one_more o t n p q r e h = ap (λ r. r >>= λ x. then_more (turns (close_turn o t) n) x.0 x.1) e ∙ ap (with_front []) h

abbrev Views : ℕ → Bool → Scope → lexemes.Lexeme → OptionsData → Type 0
Views n b s l o =
    (st : EventState) (d : Beside) → Good st → Fair (terminal_of b s l) st → depth (state_of o st d) < n →
    TurnsView o (terminal_of b s l) st d (turns (close_turn o (token_of b l)) n (state_of o st d))

turn_more :
    (n : ℕ) (b : Bool) (s : Scope) (l : lexemes.Lexeme) (o : OptionsData) (fs : List OpenFrame) (d : Beside) →
    Views n b s l o → (g : Good (InFrames fs)) → Fair (terminal_of b s l) (InFrames fs) →
    depth (state_of o (InFrames fs) d) < suc n → frame_ends_at (terminal_of b s l) (InFrames fs) ≡ true →
    TurnsView o (terminal_of b s l) (InFrames fs) d
    (turns (close_turn o (token_of b l)) (suc n) (state_of o (InFrames fs) d))
turn_more n b s l o fs d ih g f m e =
    let x = terminal_of b s l in
    let p = state_of o (InFrames fs) d in
    let q = Popped o l.start fs d in
    let turn : close_turn o (token_of b l) p
    ≡ Ok (Some [], q) = turn_is o (token_of b l) p true (ends_same b s l o d (InFrames fs) g f.0 ∙ e)
    ∙ ap (λ q. Ok (Some [], q)) (pops b s l o d fs g e) in
    let shorter : depth q < depth p = close_turn-Shortens o (token_of b l) p q [] turn in
    let more = ih (put_frames (ending_at l.start fs) (top_below fs))
    (with_given (ending_at l.start fs) (give_all o (ending_gives l.start fs) d.given) d)
    (put_good (ending_at l.start fs) (top_below fs) (below_holes x fs g e))
    (fair_below x fs (ending_at l.start fs) g e (f.1 e)) (omega (arith, shorter, m)) in
    (more.0, one_more o (token_of b l) n p q more.0 turn more.1, turned o x fs d more.0 g e more.2)

turn_stops :
    (n : ℕ) (b : Bool) (s : Scope) (l : lexemes.Lexeme) (o : OptionsData) (st : EventState) (d : Beside) → Good st →
    FairAt (terminal_of b s l) st → frame_ends_at (terminal_of b s l) st ≡ false →
    TurnsView o (terminal_of b s l) st d (turns (close_turn o (token_of b l)) (suc n) (state_of o st d))
turn_stops n b s l o st d g f e =
    let p = state_of o st d in (
      p,
      no_more o (token_of b l) n p (turn_is o (token_of b l) p false (ends_same b s l o d st g f ∙ e)),
      stay o (terminal_of b s l) st d g f e,
    )

turn_by :
    (n : ℕ) (b : Bool) (s : Scope) (l : lexemes.Lexeme) (o : OptionsData) (st : EventState) (d : Beside) →
    Views n b s l o → Good st → Fair (terminal_of b s l) st → depth (state_of o st d) < suc n → (t : Bool) →
    frame_ends_at (terminal_of b s l) st ≡ t →
    TurnsView o (terminal_of b s l) st d (turns (close_turn o (token_of b l)) (suc n) (state_of o st d))
turn_by n b s l o st d ih g f m false e = turn_stops n b s l o st d g f.0 e
turn_by n b s l o (InFrames fs) d ih g f m true e = turn_more n b s l o fs d ih g f m e
turn_by n b s l o st d ih g f m true e = cc (e)

views : (n : ℕ) (b : Bool) (s : Scope) (l : lexemes.Lexeme) (o : OptionsData) → Views n b s l o
views zero b s l o st d g f m = absurd (omega (arith, m))
views (suc n) b s l o st d g f m =
    turn_by n b s l o st d (views n b s l o) g f m (frame_ends_at (terminal_of b s l) st) refl

pub close_agrees :
    (b : Bool) (s : Scope) (l : lexemes.Lexeme) (o : OptionsData) (st : EventState) (d : Beside) → Good st →
    Fair (terminal_of b s l) st → Closed b s l o st d
unfolding pieces
close_agrees b s l o st d g f =
    let v = views (suc (depth (state_of o st d))) b s l o st d g f (omega arith) in
    record { left = v.0; closes_to = ap (λ r. r >>= λ x. Ok x.1) v.1; viewed = v.2 }
