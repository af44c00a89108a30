-- The event machine gives the events of the stream that is read, or the fault of the open place.
use Rattle.std.proofs.Common.{◌≡◌, List, [], ◌∷◌, ◌++◌, refl, sym, ◌∙◌, subst}
use Rattle.granit_base.specs.Place.{Mark}
use Rattle.granit_event_machine.specs.EventMachine.{EventState, IsFresh, Ending, ending, ended_by, EventStep}
use Rattle.granit_event_machine.specs.EventMachine.{take_frames}
use Rattle.granit_event_machine.specs.EventMachine.{EventAnswer, Events, Faulty, Unfinished, events_before}
use Rattle.granit_event_machine.specs.EventMachine.{outcome_at_end}
use Rattle.granit_event_machine.specs.EventMachine.{go_on, go_closed, run_events_from, run_events}
use Rattle.granit_event_machine.specs.PlaceFrames.{state_at}
use Rattle.granit_grammar.specs.TreeMachine.{NextPlace, take, TreeAnswer, ReadAs, RefusedAt, Short, at_end, tree_goes}
use Rattle.granit_grammar.specs.TreeMachine.{parse, tree_start}
use Rattle.granit_language.specs.FaultKinds.{fault_kind_at}
use Rattle.granit_language.specs.Node.{NoProperties, One, Two}
use Rattle.granit_language.specs.OpenEvents.{open_events}
use Rattle.granit_language.specs.OpenPlace.{OpenPlace, Fresh, InDirectives, BehindRoot, Ended, Want, PastEntry, PastKey}
use Rattle.granit_language.specs.OpenPlace.{PastAsk, PastPair, PastItem, HasOneName}
use Rattle.granit_language.specs.Settling.{settle_place}
use Rattle.granit_language.specs.Terminal.{Terminal, text_start}
use Rattle.granit_language.specs.TreeEvents.{StreamStarts, TreeEvent, pointed, stream_events}
use Rattle.granit_event_machine.proofs.AgreeClose.{Agree, close_agrees}
use Rattle.granit_event_machine.proofs.AgreeStep.{StepsTo, goes_to, stops_at, take_agrees}

-- two answers agree, where these events were given before
abbrev pub Answers : (List TreeEvent → List TreeEvent) → EventAnswer → TreeAnswer → Type 0
Answers f (Events es) (ReadAs s) = stream_events s [] ≡ f es
Answers f (Faulty k x) (RefusedAt q y) = (k ≡ fault_kind_at q y.kind) × (x ≡ y)
Answers f Unfinished (Short q) = Unit {0}
Answers f outcome answer = ⊥

with_before :
    (f : List TreeEvent → List TreeEvent) (es : List TreeEvent) (o : EventAnswer) (a : TreeAnswer) →
    Answers (λ more. f (es ++ more)) o a → Answers f (events_before es o) a
with_before f es (Events more) (ReadAs s) h = h
with_before f es (Events more) (RefusedAt q y) h = h
with_before f es (Events more) (Short q) h = h
with_before f es (Faulty k x) (RefusedAt q y) h = h
with_before f es (Faulty k x) (ReadAs s) h = h
with_before f es (Faulty k x) (Short q) h = h
with_before f es Unfinished (Short q) h = h
with_before f es Unfinished (ReadAs s) h = h
with_before f es Unfinished (RefusedAt q y) h = h

-- the places of a state that isn't the end's
not_ended :
    (p : OpenPlace) (f : List TreeEvent → List TreeEvent) →
    ((more : List TreeEvent) → open_events text_start p more ≡ f more) →
    Answers f (outcome_at_end (state_at p)) (at_end p)
not_ended (Ended s) f g = g []
not_ended (Fresh b) f g = tt
not_ended (InDirectives ds) f g = tt
not_ended (BehindRoot ro) f g = tt
not_ended (Want r NoProperties) f g = tt
not_ended (Want r (One k i)) f g = tt
not_ended (Want r (Two k i m j)) f g = tt
not_ended (PastEntry r p loose c es) f g = tt
not_ended (PastKey r a k t) f g = tt
not_ended (PastAsk r a q v) f g = tt
not_ended (PastPair r a pair) f g = tt
not_ended (PastItem r p bracket o lead item) f g = tt

abbrev Onward : (EventState → EventAnswer) → (OpenPlace → TreeAnswer) → Type 0
Onward on to =
    (p : OpenPlace) (f : List TreeEvent → List TreeEvent) → HasOneName p →
    ((y : Mark) (more : List TreeEvent) → open_events y p more ≡ f more) → Answers f (on (state_at p)) (to p)

step_answers :
    (on : EventState → EventAnswer) (to : OpenPlace → TreeAnswer) → Onward on to →
    (f g : List TreeEvent → List TreeEvent) (q : OpenPlace) (x : Terminal) (s : EventStep) (n : NextPlace) →
    StepsTo f (fault_kind_at q x.kind) s n → ((more : List TreeEvent) → f more ≡ g more) →
    Answers g (go_on s x on) (tree_goes n q x to)
step_answers on to h f g q x s n (goes_to {st = st} {es = es} {q = p} i e k) r =
    with_before g es (on st) (to p)
    (subst (λ st. Answers (λ more. g (es ++ more)) (on st) (to p)) (sym e)
    (h p (λ more. g (es ++ more)) i (λ y more. k y more ∙ r (es ++ more))))
step_answers on to h f g q x s n (stops_at e) r = (e, refl)

closed_answers :
    (on : EventState → EventAnswer) (to : OpenPlace → TreeAnswer) → Onward on to →
    (f : List TreeEvent → List TreeEvent) (q : OpenPlace) (x : Terminal) (y : Ending) → Agree f x.at.start y q →
    Answers f (go_closed y x on) (tree_goes (take q x.kind x.at) q x to)
closed_answers on to h f q x (ending st es) a =
    with_before f es (go_on (take_frames st x.kind x.at) x on) (tree_goes (take q x.kind x.at) q x to)
    (subst
    (λ st.
    Answers (λ more. f (es ++ more)) (go_on (take_frames st x.kind x.at) x on)
    (tree_goes (take q x.kind x.at) q x to))
    (sym a.state_is)
    (step_answers on to h (open_events x.at.start q) (λ more. f (es ++ more)) q x (take_frames (state_at q) x.kind x.at)
    (take q x.kind x.at) (take_agrees q x.kind x.at a.is_open) a.gives))

-- equal histories
other :
    (f g : List TreeEvent → List TreeEvent) (o : EventAnswer) (a : TreeAnswer) →
    ((more : List TreeEvent) → f more ≡ g more) → Answers f o a → Answers g o a
other f g (Events es) (ReadAs s) e h = h ∙ e es
other f g (Events es) (RefusedAt q y) e h = h
other f g (Events es) (Short q) e h = h
other f g (Faulty k x) (RefusedAt q y) e h = h
other f g (Faulty k x) (ReadAs s) e h = h
other f g (Faulty k x) (Short q) e h = h
other f g Unfinished (Short q) e h = h
other f g Unfinished (ReadAs s) e h = h
other f g Unfinished (RefusedAt q y) e h = h

follows : (xs : List Terminal) → Onward (run_events_from xs) (parse xs)
follows [] p f i g = not_ended p f (g text_start)
follows (x ∷ xs) p f i g =
    other (open_events x.at.start p) f _ _ (g x.at.start)
    (closed_answers (run_events_from xs) (parse xs) (follows xs) (open_events x.at.start p) (settle_place x p) x
    (ended_by x (state_at p)) (close_agrees x p i))

-- the two machines agree on each list
pub machines_agree : (xs : List Terminal) → Answers (λ more. more) (run_events xs) (parse xs tree_start)
machines_agree xs =
    with_before (λ more. more) (pointed StreamStarts text_start ∷ []) (run_events_from xs IsFresh) (parse xs tree_start)
    (follows xs tree_start (λ more. pointed StreamStarts text_start ∷ more) tt (λ y more. refl))
