-- The parser's run over lexemes and that of the grammar's machine.
use Rattle.granit_views.specs.Good.{Good, is_fresh}
use Rattle.granit_views.specs.Running.{Knows, ParserSeen, ComesTo, NextView, FairNext, FairRun, RunView}
use Rattle.granit_views.specs.Stepping.{taken, at_kind}
use Rattle.granit_views.specs.View.{Beside, item_of, state_of, give_all}
use Rattle.granit_language.specs.Seen.{Flagged, terminal_of, terminal_seen}
use Rattle.granit_event_machine.specs.EventMachine.{EventState, IsFresh, HasDirectives, IsRooted, InFrames, IsEnded}
use Rattle.granit_event_machine.specs.EventMachine.{Ending}
use Rattle.granit_event_machine.specs.EventMachine.{ending, ended_by, EventStep, GoesTo, StopsWith, after_events}
use Rattle.granit_event_machine.specs.EventMachine.{take_frames}
use Rattle.granit_event_machine.specs.EventMachine.{EventAnswer, Events, Faulty, Unfinished, events_before}
use Rattle.granit_event_machine.specs.Guarded.{Guard, passed, goes_by, closed_by, guarded, first_fault, fault_unless}
use Rattle.granit_event_machine.specs.Guarded.{state_count, is_loose, whole_guard}
use Rattle.granit_language.specs.GrammarFault.{GrammarFault, TooManyBlocks}
use Rattle.granit_language.specs.Scope.{Scope, no_scope}
use Rattle.granit_language.specs.Scoping.{next_scope, scoped}
use Rattle.granit_language.specs.Telling.{event_told, events_told}
use Rattle.granit_language.specs.Terminal.{Terminal}
use Rattle.granit_language.specs.TreeEvents.{TreeEvent}
use Rattle.granit_machine.specs.Closing.{close}
use Rattle.granit_machine.specs.Frames.{ParserState, parser_start}
use Rattle.granit_machine.specs.Lexing.{FlaggedItem}
use Rattle.granit_machine.specs.Machine.{feed_all}
use Rattle.granit_machine.specs.Parser.{take_token, take_tail, next_line, feed}
use Rattle.granit_machine.specs.TokenSort.{token_of}
use Rattle.std.proofs.Common.{◌≡◌, ℕ, Bool, true, false, List, [], ◌∷◌, ◌++◌, map, refl, sym, ap, ap₂, ◌∙◌, subst}
use Rattle.std.proofs.Common.{append_assoc, Option, None, Result, Ok, Err}
use Rattle.std.specs.Prelude.{nat_le, if◌then◌else◌}
use Rattle.std.proofs.lemmas.List.{append-nil}
use Rattle.granit_base.specs.Place.{Mark}
use Rattle.granit_error.specs.OptionsData.{OptionsData}
use Rattle.granit_lexemes.specs.Outcome.{Fault, ◌>>=◌}
use Rattle.granit_lexemes.specs.Pieces.{with_front}
use Rattle.granit_lexemes.specs.PlainEvent.{PlainEvent}
use Rattle.granit_lexemes.specs.Lexeme as lexemes
use Rattle.granit_event_machine.proofs.Guards.{before_before}
use Rattle.granit_event_machine.proofs.Limit.{from_zero}
use Rattle.granit_frame_steps.proofs.WholeSteps.{step_next}

-- ---- events

pub told_append :
    (o : OptionsData) (es more : List TreeEvent) → events_told o (es ++ more) ≡ events_told o es ++ events_told o more
told_append o [] more = refl
told_append o (e ∷ es) more =
    ap (λ gs. event_told o e ++ gs) (told_append o es more)
    ∙ sym (append_assoc (event_told o e) (events_told o es) (events_told o more))

pub give_told :
    (o : OptionsData) (es : List TreeEvent) (given : List PlainEvent) → give_all o es given ≡ given ++ events_told o es
give_told o [] given = sym (append-nil given)
give_told o (e ∷ es) given =
    give_told o es (given ++ event_told o e) ∙ append_assoc given (event_told o e) (events_told o es)

-- ---- the grammar's machine takes step by step

goes_after :
    (g : Guard) (es : List TreeEvent) (y : EventStep) (x : Terminal) (on : EventState → EventAnswer) →
    events_before es (goes_by g y x on) ≡ goes_by g (after_events es y) x on
goes_after g es (GoesTo st more) x on = before_before es more (passed (g st x) x (on st))
goes_after g es (StopsWith k) x on = refl

closed_goes :
    (g : Guard) (y : Ending) (x : Terminal) (on : EventState → EventAnswer) →
    closed_by g y x on ≡ goes_by g (taken y x) x on
closed_goes g (ending st es) x on = goes_after g es (take_frames st x.kind x.at) x on

-- ---- the parser is fed item by item

abbrev pub Emptied : ParserState → ParserState
Emptied p = record p { given = [] }

abbrev pub Given : ParserState → Result (List PlainEvent × ParserState) Fault
Given q = Ok (q.given, Emptied q)

abbrev pub Front :
    OptionsData → List FlaggedItem → List PlainEvent × ParserState → Result (List PlainEvent × ParserState) Fault
Front o is x = with_front x.0 (feed_all o is x.1)

abbrev pub Fed :
    OptionsData → Flagged → List FlaggedItem → Result ParserState Fault → Result (List PlainEvent × ParserState) Fault
Fed o f is r =
    ((r >>= take_tail f.0.kind None (next_line is)) >>= Given) >>= Front o is

tail_none : (k : lexemes.LexemeKind) (next : Option ℕ) (p : ParserState) → take_tail k None next p ≡ Ok p
tail_none lexemes.Dash next p = refl
tail_none k next p = refl

pub fed_ok :
    (o : OptionsData) (f : Flagged) (is : List FlaggedItem) (p : ParserState) →
    Fed o f is (Ok p) ≡ with_front p.given (feed_all o is (Emptied p))
fed_ok o f is p =
    ap (λ r. (r >>= Given) >>= Front o is)
    (tail_none f.0.kind (next_line is) p)

pub fed_is :
    (o : OptionsData) (f : Flagged) (is : List FlaggedItem) (p : ParserState) →
    feed_all o (item_of f ∷ is) p
    ≡ Fed o f is
    (close o (token_of f.1 (at_kind f.0 f.0.kind f.0.key)) p
    >>= take_token o (token_of f.1 (at_kind f.0 f.0.kind f.0.key)))
unfolding feed
fed_is o f is p = refl

-- ---- between two lexemes

pub seen_given : (o : OptionsData) (st : EventState) (p : ParserState) (d : Beside)
    → ParserSeen o st p d → p.given ≡ d.given
seen_given o IsFresh p d h = ap (λ p. p.given) h
seen_given o (HasDirectives v) p d h = ap (λ p. p.given) h
seen_given o (IsRooted m) p d h = ap (λ p. p.given) h
seen_given o (InFrames fs) p d h = ap (λ p. p.given) h
seen_given o IsEnded p d h = h.0

abbrev pub Cleared : Beside → Beside
Cleared d = record d { given = [] }

pub seen_cleared :
    (o : OptionsData) (st : EventState) (p : ParserState) (d : Beside) → ParserSeen o st p d →
    ParserSeen o st (Emptied p) (Cleared d)
seen_cleared o IsFresh p d h = ap Emptied h
seen_cleared o (HasDirectives v) p d h = ap Emptied h
seen_cleared o (IsRooted m) p d h = ap Emptied h
seen_cleared o (InFrames fs) p d h = ap Emptied h
seen_cleared o IsEnded p d h = (refl, h.1)

pub knows_cleared : (o : OptionsData) (st : EventState) (s : Scope) (d : Beside) → Knows o st s d
    → Knows o st s (Cleared d)
knows_cleared o IsFresh s d h = h
knows_cleared o (HasDirectives v) s d h = h
knows_cleared o (IsRooted m) s d h = (ap Cleared h.0, h.1, h.2)
knows_cleared o (InFrames fs) s d h = (ap Cleared h.0, h.1, h.2)
knows_cleared o IsEnded s d h = tt

pub fault_passed :
    (b : Bool) (k : GrammarFault) (f : Option GrammarFault) → first_fault (fault_unless b k) f ≡ None → b ≡ true
fault_passed true k f e = refl
fault_passed false k f e = cc (e)

-- ---- runs

run_front :
    (o : OptionsData) (gs : List PlainEvent) (es : List TreeEvent) (r : Result (List PlainEvent × ParserState) Fault)
    (a : EventAnswer) → gs ≡ events_told o es → RunView o r a → RunView o (with_front gs r) (events_before es a)
run_front o gs es (Ok y) (Events more) e h = ap₂ (λ a b. a ++ b) e h ∙ sym (told_append o es more)
run_front o gs es (Ok y) Unfinished e h = tt
run_front o gs es (Ok y) (Faulty k x) e h = absurd h
run_front o gs es (Err f) (Faulty k x) e h = h
run_front o gs es (Err f) (Events more) e h = absurd h
run_front o gs es (Err f) Unfinished e h = absurd h

abbrev Go : OptionsData → List Flagged → Scope → EventState → EventAnswer
Go o fs s st = guarded (whole_guard o) (scoped s (map terminal_seen fs)) st

abbrev Runs : OptionsData → List Flagged → Type 0
Runs o fs =
    (s : Scope) (st : EventState) (d : Beside) (p : ParserState) → ComesTo st → Knows o st s d →
    nat_le (state_count st) o.block_nesting_limit ≡ true → d.given ≡ [] → FairRun fs s st → ParserSeen o st p d →
    RunView o (feed_all o (map item_of fs) p) (Go o fs s st)

step_run :
    (o : OptionsData) (f : Flagged) (fs : List Flagged) (s : Scope) (r : Result ParserState Fault) (y : EventStep) →
    NextView o (terminal_of f.1 s f.0) s [] r y →
    FairNext y (λ st. FairRun fs (next_scope (terminal_of f.1 s f.0).kind s) st) → Runs o fs →
    RunView o (Fed o f (map item_of fs) r)
    (goes_by (whole_guard o) y (terminal_of f.1 s f.0) (λ st. Go o fs (next_scope (terminal_of f.1 s f.0).kind s) st))
step_run o f fs s (Ok p) (GoesTo st es) h fair ih =
    let x = terminal_of f.1 s f.0 in
    subst
    (λ a.
    RunView o (Fed o f (map item_of fs) (Ok p)) (events_before es (passed a x (Go o fs (next_scope x.kind s) st))))
    (sym h.passes)
    (subst (λ r. RunView o r (events_before es (Go o fs (next_scope x.kind s) st)))
    (sym (fed_ok o f (map item_of fs) p))
    (run_front o p.given es (feed_all o (map item_of fs) (Emptied p)) (Go o fs (next_scope x.kind s) st)
    (seen_given o st p h.beside h.is_seen ∙ (h.gives ∙ give_told o es []))
    (ih (next_scope x.kind s) st (Cleared h.beside) (Emptied p) h.comes
    (knows_cleared o st (next_scope x.kind s) h.beside h.knows)
    (fault_passed (nat_le (state_count st) o.block_nesting_limit) (TooManyBlocks (is_loose st)) _ h.passes) refl
    fair (seen_cleared o st p h.beside h.is_seen))))
step_run o f fs s (Err e) (GoesTo st es) h fair ih =
    let x = terminal_of f.1 s f.0 in
    subst (λ a. RunView o (Err e) (events_before es (passed a x (Go o fs (next_scope x.kind s) st)))) (sym h.1) h.2
step_run o f fs s (Ok p) (StopsWith k) h fair ih = absurd h
step_run o f fs s (Err e) (StopsWith k) h fair ih = h

one_run :
    (o : OptionsData) (f : Flagged) (fs : List Flagged) (s : Scope) (st : EventState) (d : Beside) → Good st →
    Knows o st s d → nat_le (state_count st) o.block_nesting_limit ≡ true → d.given ≡ [] → FairRun (f ∷ fs) s st →
    Runs o fs → RunView o (feed_all o (map item_of (f ∷ fs)) (state_of o st d)) (Go o (f ∷ fs) s st)
one_run o f fs s st d g q e n fair ih =
    let x = terminal_of f.1 s f.0 in
    subst (λ a. RunView o (feed_all o (map item_of (f ∷ fs)) (state_of o st d)) a)
    (sym (closed_goes (whole_guard o) (ended_by x st) x (λ st. Go o fs (next_scope x.kind s) st)))
    (subst
    (λ r.
    RunView o r
    (goes_by (whole_guard o) (taken (ended_by x st) x) x (λ st. Go o fs (next_scope x.kind s) st)))
    (sym (fed_is o f (map item_of fs) (state_of o st d)))
    (step_run o f fs s
    (close o (token_of f.1 (at_kind f.0 f.0.kind f.0.key)) (state_of o st d)
    >>= take_token o (token_of f.1 (at_kind f.0 f.0.kind f.0.key)))
    (taken (ended_by x st) x)
    (subst
    (λ given.
    NextView o x s given
    (close o (token_of f.1 (at_kind f.0 f.0.kind f.0.key)) (state_of o st d)
    >>= take_token o (token_of f.1 (at_kind f.0 f.0.kind f.0.key)))
    (taken (ended_by x st) x))
    n (step_next f.1 f.0.kind f.0.key s f.0 o st d g fair.0 q e))
    fair.1 ih))

runs : (o : OptionsData) (fs : List Flagged) → Runs o fs
runs o [] s IsEnded d p c q e n fair h = refl
runs o [] s IsFresh d p c q e n fair h = tt
runs o [] s (HasDirectives v) d p c q e n fair h = tt
runs o [] s (IsRooted m) d p c q e n fair h = tt
runs o [] s (InFrames gs) d p c q e n fair h = tt
runs o (f ∷ fs) s IsEnded d p c q e n fair h = absurd fair.0.0
runs o (f ∷ fs) s IsFresh d p c q e n fair h =
    subst (λ p. RunView o (feed_all o (map item_of (f ∷ fs)) p) (Go o (f ∷ fs) s IsFresh)) (sym h)
    (one_run o f fs s IsFresh d c q e n fair (runs o fs))
runs o (f ∷ fs) s (HasDirectives v) d p c q e n fair h =
    subst (λ p. RunView o (feed_all o (map item_of (f ∷ fs)) p) (Go o (f ∷ fs) s (HasDirectives v))) (sym h)
    (one_run o f fs s (HasDirectives v) d c q e n fair (runs o fs))
runs o (f ∷ fs) s (IsRooted m) d p c q e n fair h =
    subst (λ p. RunView o (feed_all o (map item_of (f ∷ fs)) p) (Go o (f ∷ fs) s (IsRooted m))) (sym h)
    (one_run o f fs s (IsRooted m) d c q e n fair (runs o fs))
runs o (f ∷ fs) s (InFrames gs) d p c q e n fair h =
    subst (λ p. RunView o (feed_all o (map item_of (f ∷ fs)) p) (Go o (f ∷ fs) s (InFrames gs))) (sym h)
    (one_run o f fs s (InFrames gs) d c q e n fair (runs o fs))

-- before the first document no handle stays
pub none_stay : (keep : Bool) → ◌≡◌ {A = List (List ℕ × List ℕ)} [] (if keep then [] else [])
none_stay true = refl
none_stay false = refl

-- from the start of a stream
pub run_agrees :
    (o : OptionsData) (m : Mark) (fs : List Flagged) → FairRun fs no_scope IsFresh →
    RunView o (feed_all o (map item_of fs) (parser_start m))
    (guarded (whole_guard o) (scoped no_scope (map terminal_seen fs)) IsFresh)
run_agrees o m fs fair =
    runs o fs no_scope IsFresh (record { last = m; count = 0; names = []; handles = []; kept = []; given = [] })
    (parser_start m)
    is_fresh (refl, refl, refl, refl, refl, none_stay o.keep_tags) (from_zero o.block_nesting_limit) refl fair refl
