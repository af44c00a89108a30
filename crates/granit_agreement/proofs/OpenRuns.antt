-- What the parser is fed with leaves an open place, and it gives the events before that.
use Rattle.std.proofs.Common.{◌≡◌, true, List, [], ◌∷◌, ◌++◌, map, refl, sym, ap, ap₂, ◌∙◌, subst, append_assoc, Option}
use Rattle.std.proofs.Common.{Some, None, Result, Ok, Err}
use Rattle.std.proofs.lemmas.List.{append-nil}
use Rattle.std.specs.Prelude.{nat_le}
use Rattle.granit_base.specs.Place.{Mark}
use Rattle.granit_error.specs.OptionsData.{OptionsData}
use Rattle.granit_views.specs.Good.{Good, is_fresh}
use Rattle.granit_views.specs.Running.{Knows, ParserSeen, ComesTo, NextView, FairNext, FairRun}
use Rattle.granit_views.specs.Stepping.{taken, at_kind}
use Rattle.granit_views.specs.View.{Beside, item_of, state_of, waiting_of}
use Rattle.granit_agreement.proofs.WholeRuns.{told_append, give_told, seen_given, Emptied, Fed, Cleared, fed_ok, fed_is}
use Rattle.granit_agreement.proofs.WholeRuns.{seen_cleared, knows_cleared, fault_passed, none_stay}
use Rattle.granit_frame_steps.proofs.WholeSteps.{step_next}
use Rattle.granit_language.specs.Seen.{Flagged, terminal_of, terminal_seen}
use Rattle.granit_event_machine.specs.EventMachine.{EventState, IsFresh, HasDirectives, IsRooted, InFrames, IsEnded}
use Rattle.granit_event_machine.specs.EventMachine.{Ending}
use Rattle.granit_event_machine.specs.EventMachine.{ending, ended_by, EventStep, GoesTo, StopsWith, after_events}
use Rattle.granit_event_machine.specs.EventMachine.{take_frames}
use Rattle.granit_event_machine.specs.Guarded.{state_count, is_loose}
use Rattle.granit_event_machine.specs.PlaceFrames.{state_at}
use Rattle.granit_grammar.specs.TreeMachine.{NextPlace, take, TreeAnswer, ReadAs, RefusedAt, Short, at_end, tree_goes}
use Rattle.granit_grammar.specs.TreeMachine.{parse, tree_start}
use Rattle.granit_event_machine.proofs.AgreeClose.{ending_state, ending_events, close_agrees}
use Rattle.granit_event_machine.proofs.AgreeStep.{StepsTo, goes_to, stops_at, take_agrees}
use Rattle.granit_event_machine.proofs.Limit.{from_zero}
use Rattle.granit_grammar.proofs.Placing.{Tells, one_cut}
use Rattle.granit_language.specs.FaultKinds.{fault_kind_at}
use Rattle.granit_language.specs.GrammarFault.{GrammarFault, TooManyBlocks}
use Rattle.granit_language.specs.OpenEvents.{open_events}
use Rattle.granit_language.specs.OpenPlace.{OpenPlace, Ended, HasOneName}
use Rattle.granit_language.specs.OpenTold.{ToldBefore}
use Rattle.granit_language.specs.Scope.{Scope, no_scope}
use Rattle.granit_language.specs.Scoping.{next_scope, scoped}
use Rattle.granit_language.specs.Settling.{settle_place}
use Rattle.granit_language.specs.Telling.{events_told}
use Rattle.granit_language.specs.Terminal.{Terminal, text_start}
use Rattle.granit_language.specs.TreeEvents.{StreamStarts, TreeEvent, pointed, stream_events}
use Rattle.granit_lexemes.specs.Outcome.{Fault, ◌>>=◌}
use Rattle.granit_lexemes.specs.Pieces.{with_front}
use Rattle.granit_lexemes.specs.PlainEvent.{PlainEvent, StreamStart, event_on}
use Rattle.granit_machine.proofs.ClosingLemmas.{FeedGiven}
use Rattle.granit_machine.specs.Closing.{close}
use Rattle.granit_machine.specs.Frames.{ParserState, Waiting, parser_start}
use Rattle.granit_machine.specs.Machine.{feed_all}
use Rattle.granit_machine.specs.Parser.{take_token}
use Rattle.granit_machine.specs.TokenSort.{token_of}

-- ---- the events of lexemes, and the state behind them

abbrev Ran : Type 0
Ran = Option (List TreeEvent × EventState)

abbrev ran_front : List TreeEvent → Ran → Ran
ran_front es None = None
ran_front es (Some y) = Some (es ++ y.0, y.1)

abbrev ran_on : EventStep → (EventState → Ran) → Ran
ran_on (GoesTo st es) on = ran_front es (on st)
ran_on (StopsWith k) on = None

abbrev ran : List Terminal → EventState → Ran
ran [] st = Some ([], st)
ran (x ∷ xs) st = ran_on (taken (ended_by x st) x) (ran xs)

-- ---- they are those of the open place

abbrev Opens : (List TreeEvent → List TreeEvent) → Ran → TreeAnswer → Type 0
Opens f (Some y) (Short q) =
    (y.1 ≡ state_at q) × ((x : Mark) (more : List TreeEvent) → open_events x q more ≡ f (y.0 ++ more))
Opens f (Some y) (ReadAs s) = (y.1 ≡ IsEnded) × ((more : List TreeEvent) → stream_events s more ≡ f (y.0 ++ more))
Opens f None (RefusedAt q x) = Unit {0}
Opens f w a = ⊥

abbrev Before : (List TreeEvent → List TreeEvent) → OpenPlace → Type 0
Before f p = (x : Mark) (more : List TreeEvent) → open_events x p more ≡ f more

end_opens : (p : OpenPlace) (f : List TreeEvent → List TreeEvent) → Before f p →
    Opens f (Some ([], state_at p)) (at_end p)
end_opens (Ended s) f g = (refl, g text_start)
end_opens p f g = (refl, g)

front_opens : (f : List TreeEvent → List TreeEvent) (es : List TreeEvent) (r : Ran) (a : TreeAnswer) →
    Opens (λ more. f (es ++ more)) r a → Opens f (ran_front es r) a
front_opens f es (Some y) (Short q) h = (h.0, λ x more. h.1 x more ∙ ap f (sym (append_assoc es y.0 more)))
front_opens f es (Some y) (ReadAs s) h = (h.0, λ more. h.1 more ∙ ap f (sym (append_assoc es y.0 more)))
front_opens f es (Some y) (RefusedAt q x) h = h
front_opens f es None (RefusedAt q x) h = h
front_opens f es None (Short q) h = h
front_opens f es None (ReadAs s) h = h

other_opens : (f g : List TreeEvent → List TreeEvent) (r : Ran) (a : TreeAnswer) →
    ((more : List TreeEvent) → f more ≡ g more) →
    Opens f r a → Opens g r a
other_opens f g (Some y) (Short q) e h = (h.0, λ x more. h.1 x more ∙ e (y.0 ++ more))
other_opens f g (Some y) (ReadAs s) e h = (h.0, λ more. h.1 more ∙ e (y.0 ++ more))
other_opens f g (Some y) (RefusedAt q x) e h = h
other_opens f g None (RefusedAt q x) e h = h
other_opens f g None (Short q) e h = h
other_opens f g None (ReadAs s) e h = h

front_front : (es more : List TreeEvent) (r : Ran) → ran_front (es ++ more) r ≡ ran_front es (ran_front more r)
front_front es more None = refl
front_front es more (Some y) = ap (λ ds. Some (ds, y.1)) (append_assoc es more y.0)

after_ran : (es : List TreeEvent) (s : EventStep) (on : EventState → Ran) →
    ran_on (after_events es s) on ≡ ran_front es (ran_on s on)
after_ran es (GoesTo st more) on = front_front es more (on st)
after_ran es (StopsWith k) on = refl

abbrev Follows : List Terminal → Type 0
Follows xs = (p : OpenPlace) (f : List TreeEvent → List TreeEvent) → HasOneName p → Before f p →
    Opens f (ran xs (state_at p)) (parse xs p)

step_opens : (xs : List Terminal) → Follows xs →
    (f : List TreeEvent → List TreeEvent) (k : GrammarFault) (q : OpenPlace)
    (x : Terminal) (s : EventStep) (n : NextPlace) → StepsTo f k s n →
    Opens f (ran_on s (ran xs)) (tree_goes n q x (parse xs))
step_opens xs h f k q x s n (goes_to {st = st} {es = es} {q = p} i e g) =
    front_opens f es (ran xs st) (parse xs p)
    (subst (λ st. Opens (λ more. f (es ++ more)) (ran xs st) (parse xs p)) (sym e) (h p (λ more. f (es ++ more)) i g))
step_opens xs h f k q x s n (stops_at e) = tt

closed_opens : (xs : List Terminal) → Follows xs → (f : List TreeEvent → List TreeEvent) (q : OpenPlace) (x : Terminal)
    (y : Ending) → HasOneName q → ending_state y ≡ state_at q →
    ((more : List TreeEvent) → open_events x.at.start q more ≡ f (ending_events y ++ more)) →
    Opens f (ran_on (taken y x) (ran xs)) (tree_goes (take q x.kind x.at) q x (parse xs))
closed_opens xs h f q x (ending st es) i e g =
    let to = tree_goes (take q x.kind x.at) q x (parse xs) in
    subst (λ r. Opens f r to) (sym (after_ran es (take_frames st x.kind x.at) (ran xs)))
    (front_opens f es (ran_on (take_frames st x.kind x.at) (ran xs)) to
    (other_opens (open_events x.at.start q) (λ more. f (es ++ more)) (ran_on (take_frames st x.kind x.at) (ran xs)) to g
    (subst (λ st. Opens (open_events x.at.start q) (ran_on (take_frames st x.kind x.at) (ran xs)) to) (sym e)
    (step_opens xs h (open_events x.at.start q) (fault_kind_at q x.kind) q x (take_frames (state_at q) x.kind x.at)
    (take q x.kind x.at) (take_agrees q x.kind x.at i)))))

follows : (xs : List Terminal) → Follows xs
follows [] p f i g = end_opens p f g
follows (x ∷ xs) p f i g =
    let a = close_agrees x p i in
    closed_opens xs (follows xs) f (settle_place x p) x (ended_by x (state_at p)) a.is_open a.state_is
    (λ more. a.gives more ∙ g x.at.start (ending_events (ended_by x (state_at p)) ++ more))

-- ---- the parser comes to it

abbrev Lands : OptionsData → FeedGiven → Ran → Type 0
Lands o (Ok y) (Some z) = (y.0 ≡ events_told o z.0) × (d : Beside) × ParserSeen o z.1 y.1 d
Lands o (Ok y) None = ⊥
Lands o (Err f) w = Unit {0}

front_lands : (o : OptionsData) (gs : List PlainEvent) (es : List TreeEvent) (r : FeedGiven) (w : Ran) →
    gs ≡ events_told o es → Lands o r w → Lands o (with_front gs r) (ran_front es w)
front_lands o gs es (Ok y) (Some z) e h = (ap₂ (λ a b. a ++ b) e h.0 ∙ sym (told_append o es z.0), h.1, h.2)
front_lands o gs es (Ok y) None e h = h
front_lands o gs es (Err f) w e h = tt

abbrev Land : OptionsData → List Flagged → Type 0
Land o fs =
    (s : Scope) (st : EventState) (d : Beside) (p : ParserState) → ComesTo st → Knows o st s d →
    nat_le (state_count st) o.block_nesting_limit ≡ true → d.given ≡ [] → FairRun fs s st → ParserSeen o st p d →
    Lands o (feed_all o (map item_of fs) p) (ran (scoped s (map terminal_seen fs)) st)

step_lands :
    (o : OptionsData) (f : Flagged) (fs : List Flagged) (s : Scope) (r : Result ParserState Fault) (y : EventStep) →
    NextView o (terminal_of f.1 s f.0) s [] r y →
    FairNext y (λ st. FairRun fs (next_scope (terminal_of f.1 s f.0).kind s) st) → Land o fs →
    Lands o (Fed o f (map item_of fs) r)
    (ran_on y (ran (scoped (next_scope (terminal_of f.1 s f.0).kind s) (map terminal_seen fs))))
step_lands o f fs s (Ok p) (GoesTo st es) h fair ih =
    let x = terminal_of f.1 s f.0 in
    let to = ran (scoped (next_scope x.kind s) (map terminal_seen fs)) st in
    subst (λ r. Lands o r (ran_front es to)) (sym (fed_ok o f (map item_of fs) p))
    (front_lands o p.given es (feed_all o (map item_of fs) (Emptied p)) to
    (seen_given o st p h.beside h.is_seen ∙ (h.gives ∙ give_told o es []))
    (ih (next_scope x.kind s) st (Cleared h.beside) (Emptied p) h.comes
    (knows_cleared o st (next_scope x.kind s) h.beside h.knows)
    (fault_passed (nat_le (state_count st) o.block_nesting_limit) (TooManyBlocks (is_loose st)) _ h.passes) refl
    fair (seen_cleared o st p h.beside h.is_seen)))
step_lands o f fs s (Err e) y h fair ih = tt
step_lands o f fs s (Ok p) (StopsWith k) h fair ih = absurd h

one_lands :
    (o : OptionsData) (f : Flagged) (fs : List Flagged) (s : Scope) (st : EventState) (d : Beside) → Good st →
    Knows o st s d → nat_le (state_count st) o.block_nesting_limit ≡ true → d.given ≡ [] → FairRun (f ∷ fs) s st →
    Land o fs →
    Lands o (feed_all o (map item_of (f ∷ fs)) (state_of o st d)) (ran (scoped s (map terminal_seen (f ∷ fs))) st)
one_lands o f fs s st d g q e n fair ih =
    let x = terminal_of f.1 s f.0 in
    let r =
    close o (token_of f.1 (at_kind f.0 f.0.kind f.0.key)) (state_of o st d)
    >>= take_token o (token_of f.1 (at_kind f.0 f.0.kind f.0.key)) in
    subst (λ r. Lands o r (ran (scoped s (map terminal_seen (f ∷ fs))) st))
    (sym (fed_is o f (map item_of fs) (state_of o st d)))
    (step_lands o f fs s r (taken (ended_by x st) x)
    (subst (λ given. NextView o x s given r (taken (ended_by x st) x)) n
    (step_next f.1 f.0.kind f.0.key s f.0 o st d g fair.0 q e))
    fair.1 ih)

lands : (o : OptionsData) (fs : List Flagged) → Land o fs
lands o [] s st d p c q e n fair h = (refl, d, h)
lands o (f ∷ fs) s IsEnded d p c q e n fair h = absurd fair.0.0
lands o (f ∷ fs) s IsFresh d p c q e n fair h =
    subst (λ p. Lands o (feed_all o (map item_of (f ∷ fs)) p) (ran (scoped s (map terminal_seen (f ∷ fs))) IsFresh))
    (sym h)
    (one_lands o f fs s IsFresh d c q e n fair (lands o fs))
lands o (f ∷ fs) s (HasDirectives v) d p c q e n fair h =
    subst
    (λ p. Lands o (feed_all o (map item_of (f ∷ fs)) p) (ran (scoped s (map terminal_seen (f ∷ fs))) (HasDirectives v)))
    (sym h) (one_lands o f fs s (HasDirectives v) d c q e n fair (lands o fs))
lands o (f ∷ fs) s (IsRooted m) d p c q e n fair h =
    subst (λ p. Lands o (feed_all o (map item_of (f ∷ fs)) p)
    (ran (scoped s (map terminal_seen (f ∷ fs))) (IsRooted m)))
    (sym h) (one_lands o f fs s (IsRooted m) d c q e n fair (lands o fs))
lands o (f ∷ fs) s (InFrames gs) d p c q e n fair h =
    subst (λ p. Lands o (feed_all o (map item_of (f ∷ fs)) p)
    (ran (scoped s (map terminal_seen (f ∷ fs))) (InFrames gs)))
    (sym h) (one_lands o f fs s (InFrames gs) d c q e n fair (lands o fs))

-- ---- what is left

abbrev pub waiting_in : OptionsData → EventState → Option Waiting
waiting_in o (InFrames fs) = waiting_of o.max_buffered_comment_events fs
waiting_in o st = None

seen_waiting : (o : OptionsData) (st : EventState) (p : ParserState) (d : Beside) → ParserSeen o st p d →
    p.waiting ≡ waiting_in o st
seen_waiting o IsFresh p d h = ap (λ p. p.waiting) h
seen_waiting o (HasDirectives v) p d h = ap (λ p. p.waiting) h
seen_waiting o (IsRooted m) p d h = ap (λ p. p.waiting) h
seen_waiting o (InFrames fs) p d h = ap (λ p. p.waiting) h
seen_waiting o IsEnded p d h = h.1

-- an answer leaves an open place
abbrev pub Leaves : TreeAnswer → OpenPlace → Type 0
Leaves (Short q) place = q ≡ place
Leaves (ReadAs s) place = Ended s ≡ place
Leaves (RefusedAt q x) place = ⊥

-- an open place, the events before it, and what waits there
pub record Left (o : OptionsData) (xs : List Terminal) (gs : List PlainEvent) (p : ParserState) : Type 0 where
  pub place : OpenPlace
  pub parsed : Leaves (parse xs tree_start) place
  pub before : ToldBefore o xs place (event_on StreamStart text_start ∷ gs)
  pub waits : p.waiting ≡ waiting_in o (state_at place)

abbrev begun : List TreeEvent → List TreeEvent
begun more = pointed StreamStarts text_start ∷ more

nothing_more : (o : OptionsData) (es : List TreeEvent) (gs : List PlainEvent) → gs ≡ events_told o es →
    events_told o (begun (es ++ [])) ≡ event_on StreamStart text_start ∷ gs
nothing_more o es gs e =
    ap (λ es. events_told o (begun es)) (append-nil es)
    ∙ ap (λ gs. event_on StreamStart text_start ∷ gs) (sym e)

left_by : (o : OptionsData) (xs : List Terminal) (gs : List PlainEvent) (p : ParserState) (r : Ran) (a : TreeAnswer) →
    parse xs tree_start ≡ a → Opens begun r a → Lands o (Ok (gs, p)) r → Left o xs gs p
left_by o xs gs p (Some y) (Short q) e h l =
    let t = subst (λ a. Tells a xs) e (one_cut xs) in
    record {
      place = q;
      parsed = subst (λ a. Leaves a q) (sym e) refl;
      before =
          record {
            spelled = t.0;
            placed = t.1;
            told = λ x. ap (events_told o) (h.1 x []) ∙ nothing_more o y.0 gs l.0;
          };
      waits = seen_waiting o y.1 p l.1 l.2 ∙ ap (waiting_in o) h.0;
    }
left_by o xs gs p (Some y) (ReadAs s) e h l =
    let t = subst (λ a. Tells a xs) e (one_cut xs) in
    record {
      place = Ended s;
      parsed = subst (λ a. Leaves a (Ended s)) (sym e) refl;
      before =
          record {
            spelled = t.0;
            placed = λ x. t.1;
            told = λ x. ap (events_told o) (h.1 []) ∙ nothing_more o y.0 gs l.0;
          };
      waits = seen_waiting o y.1 p l.1 l.2 ∙ ap (waiting_in o) h.0;
    }
left_by o xs gs p (Some y) (RefusedAt q x) e h l = absurd h
left_by o xs gs p None a e h l = absurd l

pub fed_left :
    (o : OptionsData) (m : Mark) (fs : List Flagged) (gs : List PlainEvent) (p : ParserState) →
    FairRun fs no_scope IsFresh →
    feed_all o (map item_of fs) (parser_start m) ≡ Ok (gs, p) → Left o (scoped no_scope (map terminal_seen fs)) gs p
fed_left o m fs gs p fair e =
    let xs = scoped no_scope (map terminal_seen fs) in
    left_by o xs gs p (ran xs IsFresh) (parse xs tree_start) refl
    (follows xs tree_start begun tt (λ x more. refl))
    (subst (λ (r : FeedGiven). Lands o r (ran xs IsFresh)) e
    (lands o fs no_scope IsFresh (record { last = m; count = 0; names = []; handles = []; kept = []; given = [] })
    (parser_start m)
    is_fresh (refl, refl, refl, refl, refl, none_stay o.keep_tags) (from_zero o.block_nesting_limit) refl fair refl))
