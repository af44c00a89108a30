-- A fault: the lexemes before it begin a stream, and no stream goes on with its lexeme.
use Rattle.std.proofs.Common.{◌≡◌, List, [], ◌∷◌, ◌++◌, refl, sym, ap, ◌∙◌, subst}
use Rattle.granit_event_machine.specs.EventMachine.{EventStep, EventAnswer, Events, Faulty, Unfinished, run_events}
use Rattle.granit_grammar.specs.TreeMachine.{NextPlace, Go, NotTaken, take, tree_step, TreeAnswer, ReadAs, RefusedAt}
use Rattle.granit_grammar.specs.TreeMachine.{Short, tree_goes, parse, tree_start}
use Rattle.granit_language.specs.FaultKinds.{fault_kind_at}
use Rattle.granit_language.specs.Faults.{IsSpelled, FaultAt}
use Rattle.granit_language.specs.GrammarFault.{GrammarFault}
use Rattle.granit_language.specs.Node.{Stream}
use Rattle.granit_language.specs.OpenPlace.{BlockPairs, FlowPairs, OpenPlace, Fresh, InDirectives, BehindRoot, Ended}
use Rattle.granit_language.specs.OpenPlace.{Want, PastEntry, PastKey, PastAsk, PastPair, PastItem, spell_open}
use Rattle.granit_language.specs.OpenPlace.{OpenPlaced, HasOneName}
use Rattle.granit_language.specs.Placed.{StreamPlaced}
use Rattle.granit_language.specs.Settling.{settle_place}
use Rattle.granit_language.specs.Terminal.{TheEnd, At, Terminal, terminal, no_terminal}
use Rattle.granit_language.specs.TreeEvents.{TreeEvent, stream_events}
use Rattle.granit_language.specs.Yield.{spell_stream}
use Rattle.granit_lexemes.specs.declared.layout.Bracket.TheVariants.{Square, Curly}
use Rattle.granit_grammar.proofs.Sound.{close_spells, step_leads, Leads, Then}
use Rattle.granit_grammar.proofs.Placing.{Tells, one_cut, close_placed, take_placed, NextPlaced}
use Rattle.granit_grammar.proofs.Complete.{reads}
use Rattle.granit_event_machine.proofs.AgreeClose.{close_agrees}
use Rattle.granit_event_machine.proofs.AgreeStep.{StepsTo, goes_to, stops_at, take_agrees}
use Rattle.granit_event_machine.proofs.Agree.{Answers, machines_agree}
use Rattle.granit_grammar.proofs.Leading.{not_fault}
use Rattle.granit_event_machine.proofs.Settled.{close_settled}
use Rattle.granit_whole.proofs.Viable.{completes}

-- a step leads to an open place
abbrev pub NextOpen : NextPlace → Type 0
NextOpen (Go q) = HasOneName q
NextOpen NotTaken = Unit {0}

steps_open :
    (f : List TreeEvent → List TreeEvent) (k : GrammarFault) (s : EventStep) (n : NextPlace)
    → StepsTo f k s n → NextOpen n
steps_open f k s n (goes_to i e g) = i
steps_open f k s n (stops_at e) = tt

pub step_open : (p : OpenPlace) (x : Terminal) → HasOneName p → NextOpen (tree_step p x)
step_open p x i = steps_open _ _ _ _ (take_agrees (settle_place x p) x.kind x.at (close_agrees x p i).is_open)

-- A list whose parse stops at a lexeme: what stands before it, the place before it, and the place where it isn't
-- admitted.
record StopsAt (xs : List Terminal) (p q : OpenPlace) (x : Terminal) : Type 0 where
  front : List Terminal
  rest : List Terminal
  last : OpenPlace
  is : xs ≡ front ++ (x ∷ rest)
  last_open : HasOneName last
  last_placed : (y : Terminal) → OpenPlaced y last
  leads : (more : List Terminal) → parse (front ++ more) p ≡ parse more last
  stops_here : (more : List Terminal) → parse (x ∷ more) last ≡ RefusedAt q x
  cut : (more : List Terminal) → spell_open q more ≡ spell_open p (front ++ more)
  placed : OpenPlaced x q
  place_open : HasOneName q
  settled : settle_place x q ≡ q

goes_stops :
    (n : NextPlace) (l : Terminal) (xs : List Terminal) (p q : OpenPlace) (x : Terminal) → HasOneName p →
    ((y : Terminal) → OpenPlaced y p) → take (settle_place l p) l.kind l.at ≡ n → NextOpen n → NextPlaced n →
    Leads n (Then p l.kind l.at) →
    ((r : OpenPlace) → HasOneName r → ((y : Terminal) → OpenPlaced y r) →
    parse xs r ≡ RefusedAt q x → StopsAt xs r q x) →
    tree_goes n (settle_place l p) l (parse xs) ≡ RefusedAt q x → StopsAt (l ∷ xs) p q x
goes_stops (Go r) l xs p q x i f e j g t ih h =
    let s = ih r j g h in
    record {
      front = l ∷ s.front;
      rest = s.rest;
      last = s.last;
      is = ap (λ xs. l ∷ xs) s.is;
      last_open = s.last_open;
      last_placed = s.last_placed;
      leads = λ more. ap (λ n. tree_goes n (settle_place l p) l (parse (s.front ++ more))) e ∙ s.leads more;
      stops_here = s.stops_here;
      cut = λ more. s.cut more ∙ t (s.front ++ more);
      placed = s.placed;
      place_open = s.place_open;
      settled = s.settled;
    }
goes_stops NotTaken l xs p q x i f e j g t ih h =
    let same : l ≡ x = cc (h) in
    let place : settle_place l p ≡ q = cc (h) in
    record {
      front = [];
      rest = xs;
      last = p;
      is = ap (λ l. l ∷ xs) same;
      last_open = i;
      last_placed = f;
      leads = λ more. refl;
      stops_here =
          λ more.
          subst (λ y. parse (y ∷ more) p ≡ RefusedAt q x) same
          (ap (λ n. tree_goes n (settle_place l p) l (parse more)) e ∙ h);
      cut = λ more. subst (λ q. spell_open q more ≡ spell_open p more) place (close_spells l p more);
      placed = subst (λ y. OpenPlaced y q) same (subst (OpenPlaced l) place (close_placed l p (f l)));
      place_open = subst HasOneName place (close_agrees l p i).is_open;
      settled = subst (λ y. settle_place y q ≡ q) same (subst (λ q. settle_place l q ≡ q) place (close_settled l p));
    }

stops :
    (xs : List Terminal) (p q : OpenPlace) (x : Terminal) → HasOneName p → ((y : Terminal) → OpenPlaced y p) →
    parse xs p ≡ RefusedAt q x → StopsAt xs p q x
stops [] p q x i f h = absurd (not_fault p q x h)
stops (l ∷ xs) p q x i f h =
    goes_stops (tree_step p l) l xs p q x i f refl (step_open p l i)
    (take_placed (settle_place l p) l.kind l.at (close_placed l p (f l))) (step_leads p l)
    (λ r j g e. stops xs r q x j g e)
    h

-- what is read from a place behind a front is a stream
pub whole : (xs : List Terminal) (s : Stream) → parse xs tree_start ≡ ReadAs s → IsSpelled xs
whole xs s e = let t = subst (λ a. Tells a xs) e (one_cut xs) in (s, t.0, t.1)

unread_there :
    (xs : List Terminal) (q : OpenPlace) (x : Terminal) → parse xs tree_start ≡ RefusedAt q x → IsSpelled xs → ⊥
unread_there xs q x e s = let a = reads s.0 s.2 in cc (a, e, ap (λ ls. parse ls tree_start) s.1)

pub fault_at :
    (xs : List Terminal) (q : OpenPlace) (x : Terminal) → parse xs tree_start ≡ RefusedAt q x →
    FaultAt xs (fault_kind_at q x.kind) x
fault_at xs q x h =
    let s = stops xs tree_start q x tt (λ y. tt) h in
    let c = completes s.last s.last_open (s.last_placed no_terminal) in
    record {
      front = s.front;
      rest = s.rest;
      is = s.is;
      place = q;
      cut = s.cut;
      placed = s.placed;
      is_open = s.place_open;
      settled = s.settled;
      kind_is = refl;
      unread = λ more t. unread_there (s.front ++ (x ∷ more)) q x (s.leads (x ∷ more) ∙ s.stops_here more) t;
      viable = (c.0, whole (s.front ++ c.0) c.1.0 (s.leads c.0 ∙ c.1.1));
    }

-- what the event machine says of a list
events_told :
    (xs : List Terminal) (es : List TreeEvent) (a : TreeAnswer) → Answers (λ more. more) (Events es) a → Tells a xs →
    (s : Stream) × (spell_stream s [] ≡ xs) × StreamPlaced s × (es ≡ stream_events s [])
events_told xs es (ReadAs s) h t = (s, t.0, t.1, sym h)
events_told xs es (RefusedAt q y) h t = absurd h
events_told xs es (Short q) h t = absurd h

pub events_are :
    (xs : List Terminal) (es : List TreeEvent) → run_events xs ≡ Events es →
    (s : Stream) × (spell_stream s [] ≡ xs) × StreamPlaced s × (es ≡ stream_events s [])
events_are xs es e =
    events_told xs es (parse xs tree_start)
    (subst (λ o. Answers (λ more. more) o (parse xs tree_start)) e (machines_agree xs)) (one_cut xs)

fault_told :
    (xs : List Terminal) (k : GrammarFault) (x : Terminal) (a : TreeAnswer) → parse xs tree_start ≡ a →
    Answers (λ more. more) (Faulty k x) a → FaultAt xs k x
fault_told xs k x (ReadAs s) e h = absurd h
fault_told xs k x (Short q) e h = absurd h
fault_told xs k x (RefusedAt q y) e h =
    subst (λ x. FaultAt xs k x) (sym h.1) (subst (λ k. FaultAt xs k y) (sym h.0) (fault_at xs q y e))

pub faults_are : (xs : List Terminal) (k : GrammarFault) (x : Terminal) → run_events xs ≡ Faulty k x → FaultAt xs k x
faults_are xs k x e =
    fault_told xs k x (parse xs tree_start) refl
    (subst (λ o. Answers (λ more. more) o (parse xs tree_start)) e (machines_agree xs))

-- the events of a placed stream are given
stream_told : (s : Stream) (o : EventAnswer) → Answers (λ more. more) o (ReadAs s) → o ≡ Events (stream_events s [])
stream_told s (Events es) h = ap Events (sym h)
stream_told s (Faulty k x) h = absurd h
stream_told s Unfinished h = absurd h

pub streams_are_read : (s : Stream) → StreamPlaced s → run_events (spell_stream s []) ≡ Events (stream_events s [])
streams_are_read s f =
    stream_told s (run_events (spell_stream s []))
    (subst (Answers (λ more. more) (run_events (spell_stream s []))) (reads s f) (machines_agree (spell_stream s [])))

-- behind the end nothing is wanted
abbrev EndsOnly : NextPlace → Type 0
EndsOnly (Go (Ended s)) = Unit {0}
EndsOnly NotTaken = Unit {0}
EndsOnly (Go q) = ⊥

end_taken : (p : OpenPlace) (i : At) → EndsOnly (take p TheEnd i)
end_taken (Fresh b) i = tt
end_taken (InDirectives ds) i = tt
end_taken (BehindRoot ro) i = tt
end_taken (Ended s) i = tt
end_taken (Want r p) i = tt
end_taken (PastEntry r p loose c es) i = tt
end_taken (PastKey r a k t) i = tt
end_taken (PastAsk r a q v) i = tt
end_taken (PastPair r (BlockPairs p c lead) pair) i = tt
end_taken (PastPair r (FlowPairs p Square o lead) pair) i = tt
end_taken (PastPair r (FlowPairs p Curly o lead) pair) i = tt
end_taken (PastItem r p Square o lead item) i = tt
end_taken (PastItem r p Curly o lead item) i = tt

abbrev NotShort : TreeAnswer → Type 0
NotShort (Short q) = ⊥
NotShort a = Unit {0}

end_goes : (n : NextPlace) (p : OpenPlace) (x : Terminal) → EndsOnly n → NotShort (tree_goes n p x (parse []))
end_goes (Go (Ended s)) p x e = tt
end_goes NotTaken p x e = tt
end_goes (Go q) p x e = absurd e

goes_further :
    (n : NextPlace) (p : OpenPlace) (x : Terminal) (ls : List Terminal) → ((q : OpenPlace) → NotShort (parse ls q)) →
    NotShort (tree_goes n p x (parse ls))
goes_further (Go q) p x ls h = h q
goes_further NotTaken p x ls h = tt

not_short : (xs : List Terminal) (i : At) (p : OpenPlace) → NotShort (parse (xs ++ (terminal TheEnd i ∷ [])) p)
not_short [] i p =
    end_goes (take (settle_place (terminal TheEnd i) p) TheEnd i) (settle_place (terminal TheEnd i) p)
    (terminal TheEnd i)
    (end_taken (settle_place (terminal TheEnd i) p) i)
not_short (x ∷ xs) i p =
    goes_further (take (settle_place x p) x.kind x.at) (settle_place x p) x (xs ++ (terminal TheEnd i ∷ []))
    (not_short xs i)

unfinished_short : (a : TreeAnswer) → Answers (λ more. more) Unfinished a → NotShort a → ⊥
unfinished_short (ReadAs s) h g = h
unfinished_short (RefusedAt q y) h g = h
unfinished_short (Short q) h g = g

pub never_unfinished : (xs : List Terminal) (i : At) → run_events (xs ++ (terminal TheEnd i ∷ [])) ≡ Unfinished → ⊥
never_unfinished xs i e =
    let ls = xs ++ (terminal TheEnd i ∷ [])
    in unfinished_short (parse ls tree_start)
    (subst (λ o. Answers (λ more. more) o (parse ls tree_start)) e (machines_agree ls)) (not_short xs i tree_start)
