-- What recovery leaves: a stream goes on, ids aren't given again, and a refusal stays.
use Rattle.std.proofs.Common.{◌≡◌, ℕ, zero, suc, ◌+◌, Bool, true, false, ◌||◌, ◌⊎◌, inl, inr, List, [], ◌∷◌, Option}
use Rattle.std.proofs.Common.{Some, None, is_some, Result, Ok, Err, refl, sym, ap, subst, ◌∙◌}
use Rattle.std.proofs.Math.Bool.{or-true}
use Rattle.std.proofs.lemmas.Bool.{or_parts}
use Rattle.std.specs.Prelude.{if◌then◌else◌}
use Rattle.granit_error.specs.OptionsData.{OptionsData}
use Rattle.granit_lexemes.specs.Here.{mark_of, start_of}
use Rattle.granit_lexemes.specs.Outcome.{Fault}
use Rattle.granit_lexemes.specs.PlainEvent.{PlainEvent, EventKind, event_on, StreamStart, StreamEnd, DocumentStart}
use Rattle.granit_lexemes.specs.PlainEvent.{DocumentEnd}
use Rattle.granit_lexemes.specs.PlainEvent.{Alias, UnresolvedAlias, Anchor, Comment, Scalar, SequenceStart, SequenceEnd}
use Rattle.granit_lexemes.specs.PlainEvent.{MappingStart, MappingEnd}
use Rattle.granit_recovery.proofs.LevelLaws.{Open, in_stream, event_keeps, document_leaves, can_close}
use Rattle.granit_recovery.proofs.RestLaws.{AtRest, count_known, count_rests, done_turn, early_known}
use Rattle.granit_recovery.proofs.RestLaws.{early_rests, none_rests, rest_resumes, rests_along, rests_done}
use Rattle.granit_recovery.proofs.SkipLaws.{comes_fault, comes_none, failed_silent, none_silent}
use Rattle.granit_recovery.proofs.SkipLaws.{Known, known_start, known_along, Resumes, resumes, Good}
use Rattle.granit_recovery.proofs.SkipLaws.{start_known}
use Rattle.granit_recovery.proofs.SkipLaws.{fault_skipped, document_skipped}
use Rattle.granit_recovery.proofs.TurnLaws.{Along, Told, NextAlong, next_along, failing_along}
use Rattle.granit_restart.specs.Calls.{Calls, noted, failing_by, failing_in, failing, GivenByCall, given_by, next_call}
use Rattle.granit_restart.specs.Recovery.{resumed, skipped_by, skipped, starts_by, looked_by, recovery_answer}
use Rattle.granit_restart.specs.Recovery.{recovered, extra_of, recover_with, recover}
use Rattle.granit_restart.proofs.AheadLaws.{waits_next}
use Rattle.granit_restart.specs.Following.{document_follows}
use Rattle.granit_restart.specs.Turned.{with_count}
use Rattle.granit_restart.specs.Skipping.{Stops, with_pending}
use Rattle.granit_recovery.specs.Streams.{GoesOnBalanced, CallsGive, gives_none, gives_next, ReachedByCalls}
use Rattle.granit_recovery.specs.Streams.{reached_start, reached_call, EarlyOf, reached_counting, reached_early}
use Rattle.granit_recovery.specs.Streams.{reached_keeping, reached_recovery}
use Rattle.granit_steps.proofs.StepLaws.{turn_waits_on}
use Rattle.granit_steps.specs.Levels.{Level, InStream, and_then, behind_event, behind_events}
use Rattle.granit_steps.specs.Steps.{StepState, step_size, next_event}

-- ---- one event

abbrev NextKnown : Result (Option PlainEvent × StepState) Fault → Type 0
NextKnown (Ok (Some e, t)) = Known t × (e.kind ≡ DocumentEnd → Along (InStream ∷ []) t)
NextKnown (Ok (None, t)) = Unit {0}
NextKnown (Err f) = Unit {0}

told_known : (ls : List Level) (r : Result (Option PlainEvent × StepState) Fault) → Open ls → NextAlong ls r
    → NextKnown r
told_known ls (Ok (Some e, t)) p n = (
  known_along (event_keeps e.kind ls n.behind p n.first) n.along,
  λ is. subst (λ ks. Along ks t)
      (document_leaves ls n.behind p (ap (λ k. behind_event k ls) (sym is) ∙ n.first)) n.along,
)
told_known ls (Ok (None, t)) p n = tt
told_known ls (Err f) p n = tt

start_next : (o : OptionsData) (s : StepState) (e : PlainEvent) (es : List PlainEvent) → e.kind ≡ StreamStart
    → s.pending ≡ e ∷ es → Along (InStream ∷ []) (with_pending es s) → NextKnown (next_event o s)
start_next o s e es kind waits a =
    subst NextKnown (sym (ap (λ xs. next_event o (with_pending xs s)) waits ∙ waits_next o s e es))
    (known_along in_stream a, λ is. absurd (let f = sym kind ∙ is in cc))

next_known : (o : OptionsData) (s : StepState) → Known s → NextKnown (next_event o s)
next_known o s (known_start e es kind waits a) = start_next o s e es kind waits a
next_known o s (known_along {ls = ls} p a) = told_known ls (next_event o s) p (next_along o ls s a)

pub failing_waits : (o : OptionsData) (n : ℕ) (s : StepState) (e : PlainEvent) (es : List PlainEvent)
    → s.pending ≡ e ∷ es → failing_in o n s ≡ s
failing_waits o zero s e es waits = refl
failing_waits o (suc n) s e es waits = ap (failing_by (failing_in o n) s) (turn_waits_on o s e es waits)

failing_known : (o : OptionsData) (s : StepState) → Known s → Known (failing o s)
failing_known o s (known_start e es kind waits a) =
    subst Known (sym (failing_waits o (suc (step_size s)) s e es waits)) (known_start e es kind waits a)
failing_known o s (known_along {ls = ls} p a) = known_along p (failing_along o ls (suc (step_size s)) s a)

-- ---- a parser between its calls

pub record CallsKnown (c : Calls) : Type 0 where
  pub known : Known c.steps
  pub between : c.fault ≡ None → c.between ≡ true → (c.over ≡ true) ⊎ AtRest c.steps

-- behind an event that is no end, a stream goes on as before it
stays_along : (o : OptionsData) (e : PlainEvent) (s t : StepState) → next_event o s ≡ Ok (Some e, t)
    → ((ks : List Level) → behind_event e.kind (InStream ∷ []) ≡ Some ks → ks ≡ InStream ∷ []) → AtRest s
    → AtRest t
stays_along o e s t is same (rests_done none queue ended) =
    absurd (none_silent o s s (done_turn o s none queue ended) none e t is)
stays_along o e s t is same (rests_along a) =
    let n : Told (InStream ∷ []) e t = subst (NextAlong (InStream ∷ [])) is (next_along o (InStream ∷ []) s a) in
    rests_along (subst (λ ks. Along ks t) (same n.behind n.first) n.along)

-- whether a kind changes what is open in a stream outside of documents
abbrev is_outer : EventKind → Bool
is_outer (DocumentStart explicit version) = true
is_outer StreamEnd = true
is_outer kind = false

outside_stays : (kind : EventKind) (ks : List Level) → is_outer kind ≡ false
    → behind_event kind (InStream ∷ []) ≡ Some ks → ks ≡ InStream ∷ []
outside_stays StreamStart ks n e = absurd (cc)
outside_stays StreamEnd ks n e = absurd (cc)
outside_stays (DocumentStart explicit version) ks n e = absurd (cc)
outside_stays DocumentEnd ks n e = absurd (cc)
outside_stays (Alias n) ks f e = absurd (cc)
outside_stays (UnresolvedAlias name) ks n e = absurd (cc)
outside_stays (Anchor n name) ks f e = cc
outside_stays (Comment text placement) ks n e = cc
outside_stays (Scalar text style anchor tag) ks n e = absurd (cc)
outside_stays (SequenceStart style anchor tag) ks n e = absurd (cc)
outside_stays SequenceEnd ks n e = absurd (cc)
outside_stays (MappingStart style anchor tag) ks n e = absurd (cc)
outside_stays MappingEnd ks n e = absurd (cc)

abbrev Resting : Calls → StepState → Type 0
Resting c t = (c.over ≡ true) ⊎ AtRest t

kept_resting : (o : OptionsData) (e : PlainEvent) (c : Calls) (t : StepState) → next_event o c.steps ≡ Ok (Some e, t)
    → is_outer e.kind ≡ false → Resting c c.steps → Resting c t
kept_resting o e c t is inner (inl over) = inl over
kept_resting o e c t is inner (inr r) =
    inr (stays_along o e c.steps t is (λ ks f. outside_stays e.kind ks inner f) r)

given_between : (o : OptionsData) (kind : EventKind) (e : PlainEvent) (c : Calls) (t : StepState) → e.kind ≡ kind
    → next_event o c.steps ≡ Ok (Some e, t) → (e.kind ≡ DocumentEnd → Along (InStream ∷ []) t)
    → (c.between ≡ true → Resting c c.steps)
    → (noted kind (record c { steps = t })).between ≡ true → Resting (noted kind (record c { steps = t })) t
given_between o (DocumentStart explicit version) e c t k is ended before b = absurd (cc)
given_between o DocumentEnd e c t k is ended before b = inr (rests_along (ended k))
given_between o StreamEnd e c t k is ended before b = inl refl
given_between o kind e c t k is ended before b = kept_resting o e c t is (ap is_outer k) (before b)

pub noted_steps : (kind : EventKind) (c : Calls) → (noted kind c).steps ≡ c.steps
noted_steps (DocumentStart explicit version) c = refl
noted_steps DocumentEnd c = refl
noted_steps StreamEnd c = refl
noted_steps kind c = refl

pub noted_fault : (kind : EventKind) (c : Calls) → (noted kind c).fault ≡ c.fault
noted_fault (DocumentStart explicit version) c = refl
noted_fault DocumentEnd c = refl
noted_fault StreamEnd c = refl
noted_fault kind c = refl

given_known : (o : OptionsData) (c : Calls) (r : Result (Option PlainEvent × StepState) Fault)
    → next_event o c.steps ≡ r → NextKnown r → CallsKnown c → CallsKnown (given_by o c r).1
given_known o c (Ok (Some e, t)) is n k = record {
  known = subst Known (sym (noted_steps e.kind (record c { steps = t }))) n.0;
  between = λ f b. subst (Resting (noted e.kind (record c { steps = t })))
      (sym (noted_steps e.kind (record c { steps = t })))
      (given_between o e.kind e c t refl is n.1 (k.between (sym (noted_fault e.kind (record c { steps = t })) ∙ f)) b);
}
given_known o c (Ok (None, t)) is n k = k
given_known o c (Err f) is n k = record { known = failing_known o c.steps k.known; between = λ g b. absurd (cc) }

call_by : (b : Bool) (o : OptionsData) (c : Calls) → CallsKnown c
    → CallsKnown (if b then (None, c) else given_by o c (next_event o c.steps)).1
call_by true o c k = k
call_by false o c k = given_known o c (next_event o c.steps) refl (next_known o c.steps k.known) k

pub call_known : (o : OptionsData) (c : Calls) → CallsKnown c → CallsKnown (next_call o c).1
unfolding next_call
call_known o c k = call_by ((c.over || is_some c.fault) || is_some c.refusal) o c k

-- ---- recovery

starts_known : (o : OptionsData) (kind : EventKind) (c : Calls) → CallsKnown c → CallsKnown (starts_by kind c)
starts_known o (DocumentStart explicit version) c k = record { known = k.known; between = λ f b. absurd (cc) }
starts_known o kind c k = k

pub looked_known : (o : OptionsData) (c : Calls) (x : GivenByCall × Calls) → CallsKnown c → CallsKnown x.1
    → CallsKnown (looked_by c x)
looked_known o c (Some (Ok e), after) k n = starts_known o e.kind c k
looked_known o c (Some (Err f), after) k n = n
looked_known o c (None, after) k n = k

pub skipped_good : (o : OptionsData) (stops : Stops) (fault : Option Fault) (between : Bool) (c : Calls)
    → c.fault ≡ fault → c.between ≡ between → c.over ≡ false → CallsKnown c
    → Good o (skipped_by o stops fault between c.steps)
skipped_good o stops (Some f) between c fault b over k = fault_skipped o stops f c.steps
skipped_good o stops None false c fault b over k = document_skipped o stops c.steps k.known
skipped_good o stops None true c fault b over k = by (k.between fault b)
  where
    by : Resting c c.steps → Good o c.steps
    by (inl e) = absurd (cc)
    by (inr r) = record { known = k.known; resumed = rest_resumes o c.steps r }

-- behind an answer a stream goes on, or nothing comes
abbrev Outside : OptionsData → Calls → StepState → Type 0
Outside o c t = (c.over ≡ true) ⊎ Resumes o t

-- what an answer leaves
record Answers (o : OptionsData) (x : Result Bool Fault × Calls) : Type 0 where
  calls : CallsKnown x.1
  goes : (follows : Bool) → x.0 ≡ Ok follows → Outside o x.1 x.1.steps

answered_by : (o : OptionsData) (room : ℕ) (s : StepState) (r : Result Bool Fault) → document_follows o room s ≡ r
    → Good o s → Answers o (recovery_answer r (resumed s))
answered_by o room s (Ok true) is g = record {
  calls = record { known = g.known; between = λ f b. absurd (cc) };
  goes = λ follows e. inr g.resumed;
}
answered_by o room s (Ok false) is g = record {
  calls = record { known = g.known; between = λ f b. inr (none_rests o s room g.known g.resumed is) };
  goes = λ follows e. inr g.resumed;
}
answered_by o room s (Err f) is g = record {
  calls = record { known = g.known; between = λ f b. absurd (cc) };
  goes = λ follows e. absurd (cc);
}

recovers_by : (b : Bool) (o : OptionsData) (stops : Stops) (extra : ℕ) (c : Calls) → c.over ≡ b → CallsKnown c
    → Answers o (if b then (Ok false, c) else recovered o extra (skipped o stops c))
recovers_by true o stops extra c over k = record { calls = k; goes = λ follows e. inl over }
recovers_by false o stops extra c over k =
    answered_by o (o.max_buffered_comment_events + extra) (skipped_by o stops c.fault c.between c.steps) _ refl
    (skipped_good o stops c.fault c.between c refl refl over k)

with_answers : (o : OptionsData) (stops : Stops) (looked : Bool) (refusal : Option Fault) (c : Calls)
    → CallsKnown c → Answers o (recover_with o stops looked refusal c)
with_answers o stops looked (Some f) c k = record { calls = k; goes = λ follows e. absurd (cc) }
with_answers o stops true None c k =
    let d = looked_by c (next_call o c) in
    recovers_by d.over o stops (extra_of d (next_call o c).0) d refl
    (looked_known o c (next_call o c) k (call_known o c k))
with_answers o stops false None c k = recovers_by c.over o stops 0 c refl k

recover_answers : (o : OptionsData) (stops : Stops) (looked : Bool) (c : Calls) → CallsKnown c
    → Answers o (recover o stops looked c)
unfolding recover
recover_answers o stops looked c k = with_answers o stops looked c.refusal c k

-- ---- between calls

resting_by : (c : Calls) (s t : StepState) → (AtRest s → AtRest t) → Resting c s → Resting c t
resting_by c s t rests (inl over) = inl over
resting_by c s t rests (inr rest) = inr (rests rest)

early_calls : (o : OptionsData) (c : Calls) (t : StepState) → EarlyOf o c.steps t → CallsKnown c
    → CallsKnown (record c { steps = t })
early_calls o c t early k = record {
  known = early_known o c.steps t early k.known;
  between = λ f b. resting_by c c.steps t (early_rests o c.steps t early) (k.between f b);
}

counting_calls : (count : ℕ) (c : Calls) → CallsKnown c → CallsKnown (record c { steps = with_count count c.steps })
counting_calls count c k = record {
  known = count_known count c.steps k.known;
  between = λ f b. resting_by c c.steps (with_count count c.steps) (count_rests count c.steps) (k.between f b);
}

-- ---- whatever was called

pub reached_known : (o : OptionsData) (c : Calls) → ReachedByCalls o c → CallsKnown c
reached_known o c (reached_start h) = record { known = start_known h; between = λ f b. absurd (cc) }
reached_known o c (reached_call {c = d} r) = call_known o d (reached_known o d r)
reached_known o c (reached_recovery {c = d} stops looked r) =
    (recover_answers o stops looked d (reached_known o d r)).calls
reached_known o c (reached_early {c = d} {t = t} r early) = early_calls o d t early (reached_known o d r)
reached_known o c (reached_counting {c = d} count r) = counting_calls count d (reached_known o d r)
reached_known o c (reached_keeping keep r) = reached_known (record o { keep_tags = keep }) c r

pub record Called (o : OptionsData) (c : Calls) (e : PlainEvent) (after : Calls) : Type 0 where
  pub steps : StepState
  pub event : next_event o c.steps ≡ Ok (Some e, steps)
  pub leaves : after.steps ≡ steps
  pub not_over : c.over ≡ false

pub first_same : {A B : Type 0} → (x y : A × B) → x ≡ y → x.0 ≡ y.0
first_same x y e = ap (λ z. z.0) e

pub second_same : {A B : Type 0} → (x y : A × B) → x ≡ y → x.1 ≡ y.1
second_same x y e = ap (λ z. z.1) e

called_of : (o : OptionsData) (c after : Calls) (e : PlainEvent) (r : Result (Option PlainEvent × StepState) Fault)
    → next_event o c.steps ≡ r → c.over ≡ false → given_by o c r ≡ (Some (Ok e), after) → Called o c e after
called_of o c after e (Ok (Some x, t)) is going g =
    let same : x ≡ e = let f = first_same _ _ g in cc in
    record {
      steps = t;
      event = is ∙ ap (λ y. Ok (Some y, t)) same;
      leaves = ap (λ (d : Calls). d.steps) (sym (second_same _ _ g)) ∙ noted_steps x.kind (record c { steps = t });
      not_over = going;
    }
called_of o c after e (Ok (None, t)) is going g = absurd (let f = first_same _ _ g in cc)
called_of o c after e (Err f) is going g = absurd (let f = first_same _ _ g in cc)

called_by : (b : Bool) (o : OptionsData) (c after : Calls) (e : PlainEvent)
    → ((c.over || is_some c.fault) || is_some c.refusal) ≡ b
    → (if b then (None, c) else given_by o c (next_event o c.steps)) ≡ (Some (Ok e), after) → Called o c e after
called_by true o c after e is g = absurd (let f = first_same _ _ g in cc)
called_by false o c after e is g = called_of o c after e (next_event o c.steps) refl
    ((or_parts c.over _ (or_parts _ _ is).0).0) g

pub called : (o : OptionsData) (c after : Calls) (e : PlainEvent) → next_call o c ≡ (Some (Ok e), after)
    → Called o c e after
unfolding next_call
called o c after e g = called_by ((c.over || is_some c.fault) || is_some c.refusal) o c after e refl g

-- events of a state along a stream may come
record Comes (es : List PlainEvent) (ls : List Level) : Type 0 where
  behind : List Level
  all : behind_events es ls ≡ Some behind

gives_along : (o : OptionsData) (c d : Calls) (es : List PlainEvent) (ls : List Level) → Along ls c.steps
    → CallsGive o c es d → Comes es ls
gives_along o c d es ls a gives_none = record { behind = ls; all = refl }
gives_along o c d es ls a (gives_next {after = after} {e = e} {es = rest} g more) =
    let x = called o c after e g in
    let n : Told ls e x.steps = subst (NextAlong ls) x.event (next_along o ls c.steps a) in
    let r = gives_along o after d rest n.behind (subst (Along n.behind) (sym x.leaves) n.along) more in
    record { behind = r.behind; all = ap (λ y. and_then y (behind_events rest)) n.first ∙ r.all }

ends_at_once : GoesOnBalanced []
ends_at_once = record { more = event_on StreamEnd (mark_of (start_of [])) ∷ []; balanced = refl }

goes_on : (o : OptionsData) (c d : Calls) (es : List PlainEvent) → Outside o c c.steps
    → CallsGive o c es d → GoesOnBalanced es
goes_on o c d es (inr (resumes a)) g =
    let r = gives_along o c d es (InStream ∷ []) a g in
    let x = can_close (mark_of (start_of [])) es (InStream ∷ []) r.behind in_stream r.all in
    record { more = x.more; balanced = x.all }
goes_on o c d es (inr (comes_none none turn)) gives_none = ends_at_once
goes_on o c d es (inr (comes_fault f none turn before)) gives_none = ends_at_once
goes_on o c d es (inr (comes_none {t = t} none turn)) (gives_next {after = after} {e = e} g more) =
    let x = called o c after e g in absurd (none_silent o c.steps t turn none e x.steps x.event)
goes_on o c d es (inr (comes_fault f none turn before)) (gives_next {after = after} {e = e} g more) =
    let x = called o c after e g in absurd (failed_silent o c.steps f turn e x.steps x.event)
goes_on o c d es (inl over) gives_none = ends_at_once
goes_on o c d es (inl over) (gives_next {after = after} {e = e} g more) =
    let x = called o c after e g in absurd (let n = x.not_over in cc)

-- behind an answer of recovery a stream goes on
pub recovered_goes_on : (o : OptionsData) (stops : Stops) (looked follows : Bool) (c d e : Calls)
    (es : List PlainEvent) → ReachedByCalls o c → recover o stops looked c ≡ (Ok follows, d)
    → CallsGive o d es e → GoesOnBalanced es
recovered_goes_on o stops looked follows c d e es r is g =
    let a = recover_answers o stops looked c (reached_known o c r) in
    let x = a.goes follows (first_same _ _ is) in
    goes_on o d e es (subst (λ (z : Calls). Outside o z z.steps) (second_same _ _ is) x) g

-- ---- refusals and ends

refused_with : (o : OptionsData) (stops : Stops) (looked : Bool) (f : Fault) (c : Calls) → c.refusal ≡ Some f
    → recover o stops looked c ≡ (Err f, c)
unfolding recover
refused_with o stops looked f c e = ap (λ r. recover_with o stops looked r c) e

refusal_of : (r : Result Bool Fault) (c d : Calls) (f : Fault) → recovery_answer r c ≡ (Err f, d) → d.refusal ≡ Some f
refusal_of (Ok true) c d f e = absurd (let g = first_same _ _ e in cc)
refusal_of (Ok false) c d f e = absurd (let g = first_same _ _ e in cc)
refusal_of (Err x) c d f e =
    let same : x ≡ f = let g = first_same _ _ e in cc in
    ap (λ (z : Calls). z.refusal) (sym (second_same _ _ e)) ∙ ap (λ y. Some y) same

refusal_if : (b : Bool) (o : OptionsData) (extra : ℕ) (c s d : Calls) (f : Fault)
    → (if b then (Ok false, c) else recovered o extra s) ≡ (Err f, d) → d.refusal ≡ Some f
refusal_if true o extra c s d f e = absurd (let g = first_same _ _ e in cc)
refusal_if false o extra c s d f e = refusal_of _ s d f e

refusal_with : (o : OptionsData) (stops : Stops) (looked : Bool) (refusal : Option Fault) (c d : Calls) (f : Fault)
    → c.refusal ≡ refusal → recover_with o stops looked refusal c ≡ (Err f, d) → d.refusal ≡ Some f
refusal_with o stops looked (Some x) c d f r e =
    let same : x ≡ f = let g = first_same _ _ e in cc in
    ap (λ (z : Calls). z.refusal) (sym (second_same _ _ e)) ∙ r ∙ ap (λ y. Some y) same
refusal_with o stops true None c d f r e = refusal_if (looked_by c (next_call o c)).over o _ _ _ d f e
refusal_with o stops false None c d f r e = refusal_if c.over o 0 c (skipped o stops c) d f e

refusal_left : (o : OptionsData) (stops : Stops) (looked : Bool) (c d : Calls) (f : Fault)
    → recover o stops looked c ≡ (Err f, d) → d.refusal ≡ Some f
unfolding recover
refusal_left o stops looked c d f e = refusal_with o stops looked c.refusal c d f refl e

-- a refusal of recovery is answered again
pub refused_again : (o : OptionsData) (stops later : Stops) (looked peeked : Bool) (c d : Calls) (f : Fault)
    → recover o stops looked c ≡ (Err f, d) → recover o later peeked d ≡ (Err f, d)
refused_again o stops later looked peeked c d f e =
    refused_with o later peeked f d (refusal_left o stops looked c d f e)

-- and no event follows it
pub refused_none : (o : OptionsData) (stops : Stops) (looked : Bool) (c d : Calls) (f : Fault)
    → recover o stops looked c ≡ (Err f, d) → next_call o d ≡ (None, d)
unfolding next_call
refused_none o stops looked c d f e =
    ap (λ b. if b then (None, d) else given_by o d (next_event o d.steps))
    (ap (λ r. (d.over || is_some d.fault) || is_some r) (refusal_left o stops looked c d f e)
    ∙ or-true (d.over || is_some d.fault))
