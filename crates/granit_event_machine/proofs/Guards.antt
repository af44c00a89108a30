-- The guarded machine answers as the event machine, but at the first lexeme that doesn't pass.
use Rattle.std.proofs.Common.{◌≡◌, List, [], ◌∷◌, ◌++◌, refl, sym, ap, ◌∙◌, subst, append_assoc, inl, inr, Option}
use Rattle.std.proofs.Common.{Some, None}
use Rattle.std.specs.Prelude.{◌⊎◌}
use Rattle.granit_error.specs.OptionsData.{OptionsData}
use Rattle.granit_event_machine.specs.EventMachine.{EventState, IsEnded, Ending, ending, ended_by, EventStep, GoesTo}
use Rattle.granit_event_machine.specs.EventMachine.{StopsWith, take_frames, EventAnswer, Events, Faulty, Unfinished}
use Rattle.granit_event_machine.specs.EventMachine.{events_before, outcome_at_end, go_on, go_closed, run_events_from}
use Rattle.granit_event_machine.specs.Guarded.{Guard, passed, goes_by, closed_by, guarded, PassesStep, PassesClosed}
use Rattle.granit_event_machine.specs.Guarded.{Passes}
use Rattle.granit_event_machine.specs.Guarded.{first_fault, both_guards, scope_guard}
use Rattle.granit_event_machine.specs.Passing.{runs_none, runs_on, GuardFault}
use Rattle.granit_language.specs.GrammarFault.{GrammarFault}
use Rattle.granit_language.specs.Scoping.{scope_fault, Means}
use Rattle.granit_language.specs.Terminal.{Terminal}
use Rattle.granit_language.specs.TreeEvents.{TreeEvent}

pub before_before :
    (es more : List TreeEvent) (o : EventAnswer) →
    events_before es (events_before more o) ≡ events_before (es ++ more) o
before_before es more (Events rest) = ap Events (sym (append_assoc es more rest))
before_before es more (Faulty k x) = refl
before_before es more Unfinished = refl

-- ---- where all pass, the answers are equal

step_same :
    (g : Guard) (P : EventState → Type 0) (on to : EventState → EventAnswer) →
    ((st : EventState) → P st → on st ≡ to st) → (s : EventStep) (x : Terminal) → PassesStep g s x P →
    goes_by g s x on ≡ go_on s x to
step_same g P on to h (GoesTo st es) x p = ap (events_before es) (ap (λ f. passed f x (on st)) p.0 ∙ h st p.1)
step_same g P on to h (StopsWith k) x p = refl

closed_same :
    (g : Guard) (P : EventState → Type 0) (on to : EventState → EventAnswer) →
    ((st : EventState) → P st → on st ≡ to st) → (y : Ending) (x : Terminal) → PassesClosed g y x P →
    closed_by g y x on ≡ go_closed y x to
closed_same g P on to h (ending st es) x p =
    ap (events_before es) (step_same g P on to h (take_frames st x.kind x.at) x p)

pub passes_same :
    (g : Guard) (xs : List Terminal) (st : EventState) → Passes g xs st → guarded g xs st ≡ run_events_from xs st
passes_same g [] st p = refl
passes_same g (x ∷ xs) st p =
    closed_same g (Passes g xs) (guarded g xs) (run_events_from xs) (passes_same g xs) (ended_by x st) x p

-- ---- what each answer says

abbrev pub TellsOf : Guard → List Terminal → EventState → EventAnswer → Type 0
TellsOf g xs st (Events es) = Passes g xs st
TellsOf g xs st Unfinished = Passes g xs st
TellsOf g xs st (Faulty k x) = (Passes g xs st × (run_events_from xs st ≡ Faulty k x)) ⊎ GuardFault g xs st k x

pass_step :
    (g : Guard) (x : Terminal) (xs : List Terminal) (st st1 st2 : EventState) (es1 es2 : List TreeEvent) →
    ended_by x st ≡ ending st1 es1 → take_frames st1 x.kind x.at ≡ GoesTo st2 es2 → g st2 x ≡ None → Passes g xs st2 →
    Passes g (x ∷ xs) st
pass_step g x xs st st1 st2 es1 es2 e1 e2 e3 h =
    subst (λ y. PassesClosed g y x (Passes g xs)) (sym e1)
    (subst (λ s. PassesStep g s x (Passes g xs)) (sym e2) (e3, h))

run_step :
    (x : Terminal) (st st1 st2 : EventState) (es1 es2 : List TreeEvent) → ended_by x st ≡ ending st1 es1 →
    take_frames st1 x.kind x.at ≡ GoesTo st2 es2 → (more : List Terminal) →
    run_events_from (x ∷ more) st ≡ events_before (es1 ++ es2) (run_events_from more st2)
run_step x st st1 st2 es1 es2 e1 e2 more =
    ap (λ y. go_closed y x (run_events_from more)) e1
    ∙ (ap (λ s. events_before es1 (go_on s x (run_events_from more))) e2
    ∙ before_before es1 es2 (run_events_from more st2))

pub unpass :
    (h : Guard) (x : Terminal) (xs : List Terminal) (st st1 st2 : EventState) (es1 es2 : List TreeEvent) →
    ended_by x st ≡ ending st1 es1 → take_frames st1 x.kind x.at ≡ GoesTo st2 es2 → Passes h (x ∷ xs) st →
    (h st2 x ≡ None) × Passes h xs st2
unpass h x xs st st1 st2 es1 es2 e1 e2 p =
    subst (λ s. PassesStep h s x (Passes h xs)) e2 (subst (λ y. PassesClosed h y x (Passes h xs)) e1 p)

guard_step :
    (g : Guard) (x : Terminal) (st st1 st2 : EventState) (es1 es2 : List TreeEvent) (f : Option GrammarFault) →
    ended_by x st ≡ ending st1 es1 → take_frames st1 x.kind x.at ≡ GoesTo st2 es2 → g st2 x ≡ f →
    (more : List Terminal) →
    guarded g (x ∷ more) st ≡ events_before es1 (events_before es2 (passed f x (guarded g more st2)))
guard_step g x st st1 st2 es1 es2 f e1 e2 e3 more =
    ap (λ y. closed_by g y x (guarded g more)) e1
    ∙ (ap (λ s. events_before es1 (goes_by g s x (guarded g more))) e2
    ∙ ap (λ f. events_before es1 (events_before es2 (passed f x (guarded g more st2)))) e3)

lift :
    (g : Guard) (x : Terminal) (xs : List Terminal) (st st1 st2 : EventState) (es1 es2 : List TreeEvent) →
    ended_by x st ≡ ending st1 es1 → take_frames st1 x.kind x.at ≡ GoesTo st2 es2 → g st2 x ≡ None → (o : EventAnswer) →
    TellsOf g xs st2 o → TellsOf g (x ∷ xs) st (events_before es1 (events_before es2 o))
lift g x xs st st1 st2 es1 es2 e1 e2 e3 (Events es) h = pass_step g x xs st st1 st2 es1 es2 e1 e2 e3 h
lift g x xs st st1 st2 es1 es2 e1 e2 e3 Unfinished h = pass_step g x xs st st1 st2 es1 es2 e1 e2 e3 h
lift g x xs st st1 st2 es1 es2 e1 e2 e3 (Faulty k y) (inl h) =
    inl (
      pass_step g x xs st st1 st2 es1 es2 e1 e2 e3 h.0,
      run_step x st st1 st2 es1 es2 e1 e2 xs ∙ ap (events_before (es1 ++ es2)) h.1,
    )
lift g x xs st st1 st2 es1 es2 e1 e2 e3 (Faulty k y) (inr h) = inr (record {
  front = x ∷ h.front;
  rest = h.rest;
  is = ap (λ xs. x ∷ xs) h.is;
  behind = h.behind;
  given = (es1 ++ es2) ++ h.given;
  runs =
      λ more.
      run_step x st st1 st2 es1 es2 e1 e2 (h.front ++ (y ∷ more))
      ∙ (ap (events_before (es1 ++ es2)) (h.runs more)
      ∙ before_before (es1 ++ es2) h.given (run_events_from more h.behind));
  comes = runs_on e1 e2 h.comes;
  fault = h.fault;
  passes = pass_step g x h.front st st1 st2 es1 es2 e1 e2 e3 h.passes;
  seen = λ k more p. h.seen k more (unpass k x (h.front ++ (y ∷ more)) st st1 st2 es1 es2 e1 e2 p).1;
  joined =
      λ k p n.
      let q = unpass k x h.front st st1 st2 es1 es2 e1 e2 p in
      pass_step k x (h.front ++ (y ∷ [])) st st1 st2 es1 es2 e1 e2 q.0 (h.joined k q.1 n);
  told =
      λ more.
      guard_step g x st st1 st2 es1 es2 None e1 e2 e3 (h.front ++ (y ∷ more))
      ∙ ap (λ o. events_before es1 (events_before es2 o)) (h.told more);
})

tells_passed :
    (g : Guard) (x : Terminal) (xs : List Terminal) (st st1 st2 : EventState) (es1 es2 : List TreeEvent) →
    ended_by x st ≡ ending st1 es1 → take_frames st1 x.kind x.at ≡ GoesTo st2 es2 →
    TellsOf g xs st2 (guarded g xs st2) → (f : Option GrammarFault) → g st2 x ≡ f →
    TellsOf g (x ∷ xs) st (events_before es1 (events_before es2 (passed f x (guarded g xs st2))))
tells_passed g x xs st st1 st2 es1 es2 e1 e2 h None e3 = lift g x xs st st1 st2 es1 es2 e1 e2 e3 (guarded g xs st2) h
tells_passed g x xs st st1 st2 es1 es2 e1 e2 h (Some k) e3 = inr (record {
  front = [];
  rest = xs;
  is = refl;
  behind = st2;
  given = es1 ++ es2;
  runs = run_step x st st1 st2 es1 es2 e1 e2;
  comes = runs_on e1 e2 runs_none;
  fault = e3;
  passes = tt;
  seen = λ h more p. (unpass h x more st st1 st2 es1 es2 e1 e2 p).0;
  joined = λ h p n. pass_step h x [] st st1 st2 es1 es2 e1 e2 n tt;
  told = guard_step g x st st1 st2 es1 es2 (Some k) e1 e2 e3;
})

stopped :
    (g : Guard) (x : Terminal) (xs : List Terminal) (st st1 : EventState) (es1 : List TreeEvent) (k : GrammarFault) →
    ended_by x st ≡ ending st1 es1 → take_frames st1 x.kind x.at ≡ StopsWith k →
    Passes g (x ∷ xs) st × (run_events_from (x ∷ xs) st ≡ Faulty k x)
stopped g x xs st st1 es1 k e1 e2 = (
  subst (λ y. PassesClosed g y x (Passes g xs)) (sym e1) (subst (λ s. PassesStep g s x (Passes g xs)) (sym e2) tt),
  ap (λ y. go_closed y x (run_events_from xs)) e1 ∙ ap (λ s. events_before es1 (go_on s x (run_events_from xs))) e2,
)

tells_step :
    (g : Guard) (x : Terminal) (xs : List Terminal) (st st1 : EventState) (es1 : List TreeEvent) →
    ended_by x st ≡ ending st1 es1 → ((st2 : EventState) → TellsOf g xs st2 (guarded g xs st2)) → (s : EventStep) →
    take_frames st1 x.kind x.at ≡ s → TellsOf g (x ∷ xs) st (events_before es1 (goes_by g s x (guarded g xs)))
tells_step g x xs st st1 es1 e1 h (GoesTo st2 es2) e2 =
    tells_passed g x xs st st1 st2 es1 es2 e1 e2 (h st2) (g st2 x) refl
tells_step g x xs st st1 es1 e1 h (StopsWith k) e2 = inl (stopped g x xs st st1 es1 k e1 e2)

tells_closed :
    (g : Guard) (x : Terminal) (xs : List Terminal) (st : EventState) →
    ((st2 : EventState) → TellsOf g xs st2 (guarded g xs st2)) → (y : Ending) → ended_by x st ≡ y →
    TellsOf g (x ∷ xs) st (closed_by g y x (guarded g xs))
tells_closed g x xs st h (ending st1 es1) e1 = tells_step g x xs st st1 es1 e1 h (take_frames st1 x.kind x.at) refl

end_tells : (g : Guard) (st : EventState) → TellsOf g [] st (outcome_at_end st)
end_tells g IsEnded = tt
end_tells g st = tt

pub guarded_tells : (g : Guard) (xs : List Terminal) (st : EventState) → TellsOf g xs st (guarded g xs st)
guarded_tells g [] st = end_tells g st
guarded_tells g (x ∷ xs) st = tells_closed g x xs st (guarded_tells g xs) (ended_by x st) refl

-- ---- two guards

first_none : (a b : Option GrammarFault) → first_fault a b ≡ None → (a ≡ None) × (b ≡ None)
first_none None b e = (refl, e)
first_none (Some k) b e = cc (e)

both_none : (a b : Option GrammarFault) → a ≡ None → b ≡ None → first_fault a b ≡ None
both_none None b e h = h
both_none (Some k) b e h = e

-- what passes one guard passes another
map_step :
    (g h : Guard) (P Q : EventState → Type 0) → ((st : EventState) (x : Terminal) → g st x ≡ None → h st x ≡ None) →
    ((st : EventState) → P st → Q st) → (s : EventStep) (x : Terminal) → PassesStep g s x P → PassesStep h s x Q
map_step g h P Q m n (GoesTo st es) x p = (m st x p.0, n st p.1)
map_step g h P Q m n (StopsWith k) x p = tt

map_closed :
    (g h : Guard) (P Q : EventState → Type 0) → ((st : EventState) (x : Terminal) → g st x ≡ None → h st x ≡ None) →
    ((st : EventState) → P st → Q st) → (y : Ending) (x : Terminal) → PassesClosed g y x P → PassesClosed h y x Q
map_closed g h P Q m n (ending st es) x p = map_step g h P Q m n (take_frames st x.kind x.at) x p

-- what passes passes as far as it goes
pub passes_front : (g : Guard) (xs ys : List Terminal) (st : EventState) → Passes g (xs ++ ys) st → Passes g xs st
passes_front g [] ys st p = tt
passes_front g (x ∷ xs) ys st p =
    map_closed g g (Passes g (xs ++ ys)) (Passes g xs) (λ st x e. e) (passes_front g xs ys) (ended_by x st) x p

pub passes_map :
    (g h : Guard) → ((st : EventState) (x : Terminal) → g st x ≡ None → h st x ≡ None) →
    (xs : List Terminal) (st : EventState) → Passes g xs st → Passes h xs st
passes_map g h m [] st p = tt
passes_map g h m (x ∷ xs) st p = map_closed g h (Passes g xs) (Passes h xs) m (passes_map g h m xs) (ended_by x st) x p

both_step :
    (g h : Guard) (P Q R : EventState → Type 0) → ((st : EventState) → P st → Q st → R st) →
    (s : EventStep) (x : Terminal) → PassesStep g s x P → PassesStep h s x Q → PassesStep (both_guards g h) s x R
both_step g h P Q R n (GoesTo st es) x p q = (both_none (g st x) (h st x) p.0 q.0, n st p.1 q.1)
both_step g h P Q R n (StopsWith k) x p q = tt

both_closed :
    (g h : Guard) (P Q R : EventState → Type 0) → ((st : EventState) → P st → Q st → R st) →
    (y : Ending) (x : Terminal) → PassesClosed g y x P → PassesClosed h y x Q → PassesClosed (both_guards g h) y x R
both_closed g h P Q R n (ending st es) x p q = both_step g h P Q R n (take_frames st x.kind x.at) x p q

pub passes_both :
    (g h : Guard) (xs : List Terminal) (st : EventState) → Passes g xs st → Passes h xs st →
    Passes (both_guards g h) xs st
passes_both g h [] st p q = tt
passes_both g h (x ∷ xs) st p q =
    both_closed g h (Passes g xs) (Passes h xs) (Passes (both_guards g h) xs) (passes_both g h xs) (ended_by x st) x p q

pub passes_first :
    (g h : Guard) (xs : List Terminal) (st : EventState) → Passes (both_guards g h) xs st → Passes g xs st
passes_first g h xs st p = passes_map (both_guards g h) g (λ st x e. (first_none (g st x) (h st x) e).0) xs st p

pub passes_second :
    (g h : Guard) (xs : List Terminal) (st : EventState) → Passes (both_guards g h) xs st → Passes h xs st
passes_second g h xs st p = passes_map (both_guards g h) h (λ st x e. (first_none (g st x) (h st x) e).1) xs st p

-- ---- a guard that looks at the lexeme alone

means_passes_step :
    (o : OptionsData) (P : EventState → Type 0) (x : Terminal) → scope_fault o x.kind x.at.scope ≡ None →
    ((st : EventState) → P st) → (s : EventStep) → PassesStep (scope_guard o) s x P
means_passes_step o P x e h (GoesTo st es) = (e, h st)
means_passes_step o P x e h (StopsWith k) = tt

means_passes_closed :
    (o : OptionsData) (P : EventState → Type 0) (x : Terminal) → scope_fault o x.kind x.at.scope ≡ None →
    ((st : EventState) → P st) → (y : Ending) → PassesClosed (scope_guard o) y x P
means_passes_closed o P x e h (ending st es) = means_passes_step o P x e h (take_frames st x.kind x.at)

pub means_passes : (o : OptionsData) (xs : List Terminal) → Means o xs → (st : EventState)
    → Passes (scope_guard o) xs st
means_passes o [] m st = tt
means_passes o (x ∷ xs) m st =
    means_passes_closed o (Passes (scope_guard o) xs) x m.0 (means_passes o xs m.1) (ended_by x st)

-- an outcome without a fault
abbrev pub NotFaulty : EventAnswer → Type 0
NotFaulty (Faulty k x) = ⊥
NotFaulty o = Unit {0}

pub drop_before : (es : List TreeEvent) (o : EventAnswer) → NotFaulty (events_before es o) → NotFaulty o
drop_before es (Events more) h = h
drop_before es (Faulty k x) h = h
drop_before es Unfinished h = h

passes_means_step :
    (o : OptionsData) (P : EventState → Type 0) (M : Type 0) (on : EventState → EventAnswer) (x : Terminal) →
    ((st : EventState) → NotFaulty (on st) → P st → M) → (s : EventStep) → NotFaulty (go_on s x on) →
    PassesStep (scope_guard o) s x P → (scope_fault o x.kind x.at.scope ≡ None) × M
passes_means_step o P M on x h (GoesTo st es) g p = (p.0, h st (drop_before es (on st) g) p.1)
passes_means_step o P M on x h (StopsWith k) g p = absurd g

passes_means_closed :
    (o : OptionsData) (P : EventState → Type 0) (M : Type 0) (on : EventState → EventAnswer) (x : Terminal) →
    ((st : EventState) → NotFaulty (on st) → P st → M) → (y : Ending) → NotFaulty (go_closed y x on) →
    PassesClosed (scope_guard o) y x P → (scope_fault o x.kind x.at.scope ≡ None) × M
passes_means_closed o P M on x h (ending st es) g p =
    passes_means_step o P M on x h (take_frames st x.kind x.at)
    (drop_before es (go_on (take_frames st x.kind x.at) x on) g) p

pub passes_means :
    (o : OptionsData) (xs : List Terminal) (st : EventState) → NotFaulty (run_events_from xs st) →
    Passes (scope_guard o) xs st → Means o xs
passes_means o [] st g p = tt
passes_means o (x ∷ xs) st g p =
    passes_means_closed o (Passes (scope_guard o) xs) (Means o xs) (run_events_from xs) x (passes_means o xs)
    (ended_by x st) g p
