-- What waits behind lexemes that are fed is a node directly behind a `-` or a `:`.
use Rattle.granit_views.specs.Running.{FairRun}
use Rattle.granit_views.specs.View.{item_of, waiting_of}
use Rattle.granit_agreement.proofs.OpenRuns.{waiting_in, Leaves, fed_left}
use Rattle.granit_language.specs.Awaiting.{PairWaits, WaitsIn, AwaitsNode}
use Rattle.granit_language.specs.Seen.{Flagged, terminal_seen}
use Rattle.granit_event_machine.specs.EventMachine.{PairAt, Key, KeyDone, Asking, AskDone, Done, Value, EventState}
use Rattle.granit_event_machine.specs.EventMachine.{IsFresh}
use Rattle.granit_event_machine.specs.EventMachine.{HasDirectives, IsRooted, InFrames, IsEnded, Ending, ending}
use Rattle.granit_event_machine.specs.EventMachine.{ended_by}
use Rattle.granit_event_machine.specs.EventMachine.{EventStep, GoesTo, StopsWith, after_events, take_frames, FlowSite}
use Rattle.granit_event_machine.specs.EventMachine.{pair_frames}
use Rattle.granit_event_machine.specs.PlaceFrames.{site_in, hole_frames, pair_made, state_at}
use Rattle.granit_grammar.specs.TreeMachine.{Short, parse, tree_start}
use Rattle.granit_grammar.proofs.Leading.{leads_want}
use Rattle.granit_language.specs.Node.{NoProperties, One, Two, Single, Paired, Left}
use Rattle.granit_language.specs.OpenTold.{EmptyAt}
use Rattle.granit_language.specs.OpenPlace.{Bare, Explicit, Around, BlockPairs, FlowPairs, Hole, AtRoot, AtEntry}
use Rattle.granit_language.specs.OpenPlace.{AtItem, AtKey, AtAsk, AtColon, OpenPlace, Fresh, InDirectives, BehindRoot}
use Rattle.granit_language.specs.OpenPlace.{Ended, Want, PastEntry, PastKey, PastAsk, PastPair, PastItem, IsHole}
use Rattle.granit_language.specs.OpenPlace.{spell_open, OpenPlaced}
use Rattle.granit_language.specs.Room.{is_made}
use Rattle.granit_language.specs.Scope.{no_scope}
use Rattle.granit_language.specs.Scoping.{scoped}
use Rattle.granit_language.specs.Terminal.{no_terminal}
use Rattle.granit_lexemes.specs.declared.layout.Bracket.TheVariants.{Square, Curly}
use Rattle.granit_machine.specs.Frames.{ParserState, Waiting, parser_start}
use Rattle.granit_machine.specs.Machine.{feed_all}
use Rattle.std.proofs.Common.{◌≡◌, ℕ, Bool, true, false, List, [], map, refl, sym, ap, ◌∙◌, subst, Some, Ok}
use Rattle.granit_base.specs.Place.{Mark}
use Rattle.granit_error.specs.OptionsData.{OptionsData}
use Rattle.granit_lexemes.specs.PlainEvent.{PlainEvent}

-- ---- what waits there

abbrev no_value : PairAt → Type 0
no_value (Value m) = ⊥
no_value at = Unit {0}

pair_calm : (n : ℕ) (a : Around) (r : Hole) (made : Bool) (at : PairAt) (w : Waiting) → no_value at →
    waiting_of n (pair_frames (site_in a (hole_frames r)) made at) ≡ Some w → ⊥
pair_calm n (BlockPairs p c lead) r made (Value m) w v e = v
pair_calm n (BlockPairs p c lead) r made at w v e = cc (e)
pair_calm n (FlowPairs p Square i lead) r true (Value m) w v e = v
pair_calm n (FlowPairs p Square i lead) r true at w v e = cc (e)
pair_calm n (FlowPairs p Square i lead) r false at w v e = cc (e)
pair_calm n (FlowPairs p Curly i lead) r made (Value m) w v e = v
pair_calm n (FlowPairs p Curly i lead) r made at w v e = cc (e)

square_made :
    (n : ℕ) (a : Bool) (fs : List Rattle.granit_event_machine.specs.EventMachine.OpenFrame) (m : Mark) (w : Waiting) →
    waiting_of n (pair_frames (Rattle.granit_event_machine.specs.EventMachine.FlowSite Square fs) a (Value m))
    ≡ Some w →
    a ≡ true
square_made n true fs m w e = refl
square_made n false fs m w e = absurd cc

colon_waits : (n : ℕ) (a : Around) (r : Hole) (left : Left) (m : Mark) (w : Waiting) →
    waiting_of n (pair_frames (site_in a (hole_frames r)) (is_made left) (Value m)) ≡ Some w → PairWaits a left
colon_waits n (BlockPairs p c lead) r left m w e = tt
colon_waits n (FlowPairs p Square i lead) r left m w e = square_made n (is_made left) (hole_frames r) m w e
colon_waits n (FlowPairs p Curly i lead) r left m w e = tt

hole_waits : (n : ℕ) (r : Hole) (w : Waiting) → waiting_of n (hole_frames r) ≡ Some w → WaitsIn r
hole_waits n (AtRoot (Bare b)) w e = absurd cc
hole_waits n (AtRoot (Explicit s i)) w e = absurd cc
hole_waits n (AtEntry r p loose c lead i) w e = tt
hole_waits n (AtItem r p Square i lead) w e = absurd cc
hole_waits n (AtItem r p Curly i lead) w e = absurd cc
hole_waits n (AtKey r a f) w e = absurd (pair_calm n a r true Key w tt e)
hole_waits n (AtAsk r a q) w e = absurd (pair_calm n a r false Asking w tt e)
hole_waits n (AtColon r a left m) w e = colon_waits n a r left m.start w e

place_waits : (o : OptionsData) (q : OpenPlace) (w : Waiting) → waiting_in o (state_at q) ≡ Some w →
    (r : Hole) × (q ≡ Want r NoProperties) × WaitsIn r
place_waits o (Want r NoProperties) w e = (r, refl, hole_waits o.max_buffered_comment_events r w e)
place_waits o (Want r (One k i)) w e = absurd cc
place_waits o (Want r (Two k i m j)) w e = absurd cc
place_waits o (PastEntry r p loose c es) w e = absurd cc
place_waits o (PastKey r a f k) w e = absurd (pair_calm o.max_buffered_comment_events a r true KeyDone w tt e)
place_waits o (PastAsk r a q v) w e = absurd (pair_calm o.max_buffered_comment_events a r false AskDone w tt e)
place_waits o (PastPair r a pair) w e =
    absurd (pair_calm o.max_buffered_comment_events a r (pair_made pair) Done w tt e)
place_waits o (PastItem r p Square i lead item) w e = absurd cc
place_waits o (PastItem r p Curly i lead (Single t)) w e = absurd cc
place_waits o (PastItem r p Curly i lead (Paired pair)) w e = absurd cc
place_waits o (Fresh b) w e = absurd cc
place_waits o (InDirectives ds) w e = absurd cc
place_waits o (BehindRoot ro) w e = absurd cc
place_waits o (Ended s) w e = absurd cc

pub waits_awaits :
    (o : OptionsData) (m : Mark) (fs : List Flagged) (gs : List PlainEvent) (p : ParserState) (w : Waiting) →
    FairRun fs no_scope IsFresh → feed_all o (map item_of fs) (parser_start m) ≡ Ok (gs, p) → p.waiting ≡ Some w →
    AwaitsNode (scoped no_scope (map terminal_seen fs))
waits_awaits o m fs gs p w fair e n =
    let l = fed_left o m fs gs p fair e in
    let (r, is, waits) = place_waits o l.place w (sym l.waits ∙ n) in
    record {
      hole = r;
      placed = (subst (OpenPlaced no_terminal) is (l.before.placed no_terminal)).0;
      spelled = subst (λ p. spell_open p [] ≡ scoped no_scope (map terminal_seen fs)) is l.before.spelled;
      waits = waits;
    }

-- ---- and such a node waits

colon_held : (n : ℕ) (a : Around) (r : Hole) (left : Left) (m : Mark) → PairWaits a left →
    (w : Waiting) × (waiting_of n (pair_frames (site_in a (hole_frames r)) (is_made left) (Value m)) ≡ Some w)
colon_held n (BlockPairs p c lead) r left m h = (record { at = m; room = n; held = [] }, refl)
colon_held n (FlowPairs p Square i lead) r left m h = (
  record { at = m; room = n; held = [] },
  ap
      (λ b. waiting_of n (pair_frames (Rattle.granit_event_machine.specs.EventMachine.FlowSite Square (hole_frames r)) b
      (Value m)))
      h,
)
colon_held n (FlowPairs p Curly i lead) r left m h = (record { at = m; room = n; held = [] }, refl)

hole_held : (n : ℕ) (r : Hole) → WaitsIn r → (w : Waiting) × (waiting_of n (hole_frames r) ≡ Some w)
hole_held n (AtRoot root) h = absurd h
hole_held n (AtEntry r p loose c lead i) h = (record { at = i.end; room = n; held = [] }, refl)
hole_held n (AtItem r p bracket i lead) h = absurd h
hole_held n (AtKey r a f) h = absurd h
hole_held n (AtAsk r a q) h = absurd h
hole_held n (AtColon r a left m) h = colon_held n a r left m.start h

is_hole : (r : Hole) → WaitsIn r → IsHole r
is_hole (AtRoot root) h = absurd h
is_hole (AtEntry r p loose c lead i) h = tt
is_hole (AtItem r p bracket i lead) h = absurd h
is_hole (AtKey r a f) h = absurd h
is_hole (AtAsk r a q) h = absurd h
is_hole (AtColon r a left m) h = tt

pub awaits_waits :
    (o : OptionsData) (m : Mark) (fs : List Flagged) (gs : List PlainEvent) (p : ParserState) →
    FairRun fs no_scope IsFresh → feed_all o (map item_of fs) (parser_start m) ≡ Ok (gs, p) →
    AwaitsNode (scoped no_scope (map terminal_seen fs)) → (w : Waiting) × (p.waiting ≡ Some w)
awaits_waits o m fs gs p fair e a =
    let xs = scoped no_scope (map terminal_seen fs) in
    let l = fed_left o m fs gs p fair e in
    let read : parse xs tree_start ≡ Short (Want a.hole NoProperties) =
    ap (λ xs. parse xs tree_start) (sym a.spelled) ∙ leads_want a.hole [] (is_hole a.hole a.waits) a.placed in
    let same : Want a.hole NoProperties ≡ l.place = subst (λ b. Leaves b l.place) read l.parsed in
    let (w, is) = hole_held o.max_buffered_comment_events a.hole a.waits in
    (w, l.waits ∙ ap (λ p. waiting_in o (state_at p)) (sym same) ∙ is)

-- ---- where it stands if it stays empty

colon_at : (n : ℕ) (a : Around) (r : Hole) (left : Left) (m : Mark) (w : Waiting) →
    waiting_of n (pair_frames (site_in a (hole_frames r)) (is_made left) (Value m)) ≡ Some w → w.at ≡ m
colon_at n (BlockPairs p c lead) r left m w e = cc (e)
colon_at n (FlowPairs p Square i lead) r left m w e = square_at (is_made left) e
  where
    square_at : (b : Bool) → waiting_of n (pair_frames (FlowSite Square (hole_frames r)) b (Value m)) ≡ Some w →
        w.at ≡ m
    square_at true e = cc (e)
    square_at false e = absurd cc
colon_at n (FlowPairs p Curly i lead) r left m w e = cc (e)

hole_at : (n : ℕ) (r : Hole) (w : Waiting) → WaitsIn r → waiting_of n (hole_frames r) ≡ Some w → EmptyAt r w.at
hole_at n (AtRoot root) w h e = absurd h
hole_at n (AtEntry r p loose c lead i) w h e = cc (e)
hole_at n (AtItem r p bracket i lead) w h e = absurd h
hole_at n (AtKey r a f) w h e = absurd h
hole_at n (AtAsk r a q) w h e = absurd h
hole_at n (AtColon r a left m) w h e = colon_at n a r left m.start w e

-- what waits in an open place is a node directly behind a `-` or a `:`
pub place_empty : (o : OptionsData) (p : OpenPlace) (w : Waiting) → waiting_in o (state_at p) ≡ Some w →
    (r : Hole) × (p ≡ Want r NoProperties) × WaitsIn r × EmptyAt r w.at
place_empty o p w e =
    let (r, is, waits) = place_waits o p w e in
    (r, is, waits, hole_at o.max_buffered_comment_events r w waits (ap (λ p. waiting_in o (state_at p)) (sym is) ∙ e))
