-- Where a document is dropped no more is left, and less where an event of it came first.
use Rattle.std.proofs.Common.{◌≡◌, ℕ, zero, suc, ◌<◌, ◌≤◌, ◌⊎◌, inl, inr, Bool, true, false, List, [], ◌∷◌, Option}
use Rattle.std.proofs.Common.{Some, None, Result, Ok, Err, refl, sym, ap, subst, ◌∙◌, arith}
use Rattle.std.specs.Prelude.{if◌then◌else◌, ◌&&◌}
use Rattle.granit_alone.specs.Lines.{ComesOnward}
use Rattle.granit_chains.proofs.LeftTurns.{falls, waiting_most}
use Rattle.granit_chains.proofs.Restarts.{TellsNone, RestartsLess, restarts}
use Rattle.granit_chains.proofs.Stuck.{Stuck, stuck}
use Rattle.granit_chains.specs.Chains.{ends_among, ends_of_kind, state_left, left_waiting}
use Rattle.granit_error.specs.OptionsData.{OptionsData}
use Rattle.granit_lexemes.specs.Here.{Here}
use Rattle.granit_lexemes.specs.Outcome.{Fault, ◌>>=◌}
use Rattle.granit_lexemes.specs.Pieces.{pieces, then_more, turns}
use Rattle.granit_lexemes.specs.PlainEvent.{DocumentEnd, EventKind, PlainEvent, StreamEnd}
use Rattle.granit_recovery.proofs.SkipLaws.{event_in}
use Rattle.granit_restart.proofs.LookLaws.{follows_told}
use Rattle.granit_restart.specs.Following.{document_follows}
use Rattle.granit_restart.specs.Header.{is_in_header}
use Rattle.granit_restart.specs.Looking.{told_by, told_event}
use Rattle.granit_restart.specs.Restart.{behind_fault}
use Rattle.granit_restart.specs.Skipping.{Ahead, ahead, ahead_by, AtStreamEnd, BehindDocument, Ended, ends_before}
use Rattle.granit_restart.specs.Skipping.{Failed, NoEnd, restarted, skip_ahead, skip_by_turns, SkipEnd, skip_in}
use Rattle.granit_restart.specs.Skipping.{skipped_document, skipped_fault, skipped_to, skip_turn, Stops, with_pending}
use Rattle.granit_alone.proofs.EndMarks.{led_holds}
use Rattle.granit_alone.proofs.FaultLaws.{SkipLed, skip_led}
use Rattle.granit_alone.specs.Behind.{Led, led_anew}
use Rattle.granit_alone.specs.Behind.{DropFits, EndFits, FaultFits}
use Rattle.granit_steps.proofs.Futures.{turn_keeps, TurnKeeps}
use Rattle.granit_steps.specs.Steps.{first_pending, next_event, step_size, step_turn, StepState, Turn}

-- ---- what waits

abbrev AheadFewer : List PlainEvent → Ahead → Type 0
AheadFewer all NoEnd = Unit {0}
AheadFewer all (BehindDocument es) = left_waiting es < left_waiting all
AheadFewer all (AtStreamEnd es) =
    (left_waiting es ≤ left_waiting all) × ((room : ℕ) → told_by room es ≡ Some (Ok false))

pub rest_waits : (e : PlainEvent) (es : List PlainEvent) → left_waiting es ≤ left_waiting (e ∷ es)
rest_waits e [] = omega arith
rest_waits e (x ∷ es) = omega arith

fewer_on : (e : PlainEvent) (all : List PlainEvent) (a : Ahead) → AheadFewer all a → AheadFewer (e ∷ all) a
fewer_on e all NoEnd p = tt
fewer_on e all (BehindDocument es) p = let m = rest_waits e all in omega (arith, p, m)
fewer_on e all (AtStreamEnd es) p = let q = p.0 in let m = rest_waits e all in (omega (arith, q, m), p.1)

kind_fewer : (kind : EventKind) (e : PlainEvent) (es : List PlainEvent) → e.kind ≡ kind
    → AheadFewer es (ahead es) → AheadFewer (e ∷ es) (ahead_by kind e es (ahead es))
kind_fewer DocumentEnd e es k p =
    let one : ends_of_kind e.kind ≡ 1 = ap ends_of_kind k in let m = waiting_most es in omega (arith, one, m)
kind_fewer StreamEnd e es k p = (
  omega arith,
  λ room. ap (λ (kind : EventKind). told_event room kind e.span.start (λ room. told_by room es)) k,
)
kind_fewer kind e es k p = fewer_on e es (ahead es) p

ahead_fewer : (es : List PlainEvent) → AheadFewer es (ahead es)
ahead_fewer [] = tt
ahead_fewer (e ∷ es) = kind_fewer e.kind e es refl (ahead_fewer es)

-- ---- turns

abbrev given_in : Turn → Option (List PlainEvent)
given_in (Ok x) = x.0
given_in (Err f) = None

not_given : (u v : StepState) (given : List PlainEvent) → ◌≡◌ {A = Turn} (Ok (None, u)) (Ok (Some given, v)) → ⊥
not_given u v given e = let f : None ≡ Some given = ap given_in e in cc

abbrev pub SkipsTo : StepState → SkipEnd → Type 0
SkipsTo s (Ended t) = state_left t ≤ state_left s
SkipsTo s (Failed f t) = (state_left t ≤ state_left s) × Stuck t

skips_behind : (s t : StepState) (e : SkipEnd) → state_left t < state_left s → SkipsTo t e → SkipsTo s e
skips_behind s t (Ended u) less p = omega (arith, less, p)
skips_behind s t (Failed f u) less p = let q = p.0 in (omega (arith, less, q), p.1)

module _ (o : OptionsData) where
  -- ---- turns that give nothing

  abbrev NextBy : StepState → Turn → Result (Option PlainEvent × StepState) Fault
  NextBy s r = (r >>= λ x. then_more (turns (step_turn o) (step_size s)) x.0 x.1)
      >>= λ x. Ok (first_pending x.1.pending x.1)

  next_is : (s : StepState) → next_event o s ≡ NextBy s (step_turn o s)
  unfolding next_event pieces turns
  next_is s = refl

  failed_silent : (s t : StepState) (f : Fault) (e : PlainEvent) → step_turn o s ≡ Err f
      → next_event o s ≡ Ok (Some e, t) → ⊥
  failed_silent s t f e is next = let g = sym (next_is s ∙ ap (NextBy s) is) ∙ next in cc

  pub none_same : (s u : StepState) → Led o s → step_turn o s ≡ Ok (None, u) → u ≡ s
  none_same s u led is =
      let keeps : TurnKeeps o s (Ok (None, u)) =
      subst (TurnKeeps o s) is (turn_keeps o s (led_holds o s led).sound.ready) in
      keeps.0

  first_none : (es : List PlainEvent) (u t : StepState) (e : PlainEvent) → es ≡ []
      → ◌≡◌ {A = Result (Option PlainEvent × StepState) Fault} (Ok (first_pending es u)) (Ok (Some e, t)) → ⊥
  first_none [] u t e none is = let f : None ≡ Some e = ap event_in is in cc
  first_none (d ∷ ds) u t e none is = cc

  none_silent : (s u t : StepState) (e : PlainEvent) → Led o s → s.pending ≡ [] → step_turn o s ≡ Ok (None, u)
      → next_event o s ≡ Ok (Some e, t) → ⊥
  none_silent s u t e led none is next =
      first_none u.pending u t e (ap (λ (v : StepState). v.pending) (none_same s u led is) ∙ none)
      (sym (next_is s ∙ ap (NextBy s) is) ∙ next)

  -- ---- skipping

  fault_skips : (b : Bool) (f : Fault) (s : StepState) → step_turn o (with_pending [] s) ≡ Err f
      → SkipsTo s (if b then Ended (with_pending [] s) else Failed f (with_pending [] s))
  fault_skips true f s e = omega arith
  fault_skips false f s e = (omega arith, stuck o (with_pending [] s) f e)

  turn_skips : (n : ℕ) (s : StepState) (r : Turn) → ((t : StepState) → SkipsTo t (skip_in o n t))
      → step_turn o (with_pending [] s) ≡ r → SkipsTo s (skip_turn (skip_in o n) (with_pending [] s) r)
  turn_skips n s (Ok (Some es, t)) more e =
      let less = falls o (with_pending [] s) t es e in
      skips_behind s t (skip_in o n t) (omega (arith, less)) (more t)
  turn_skips n s (Ok (None, t)) more e = omega arith
  turn_skips n s (Err f) more e = fault_skips (ends_before (with_pending [] s) f) f s e

  ahead_skips : (n : ℕ) (s : StepState) (a : Ahead) → ((t : StepState) → SkipsTo t (skip_in o n t))
      → AheadFewer s.pending a
      → SkipsTo s (skip_ahead (λ t. skip_turn (skip_in o n) t (step_turn o t)) s a)
  ahead_skips n s NoEnd more p = turn_skips n s (step_turn o (with_pending [] s)) more refl
  ahead_skips n s (BehindDocument es) more p = omega (arith, p)
  ahead_skips n s (AtStreamEnd es) more p = let q = p.0 in omega (arith, q)

  skips_in : (n : ℕ) (s : StepState) → SkipsTo s (skip_in o n s)
  skips_in zero s = omega arith
  skips_in (suc n) s = ahead_skips n s (ahead s.pending) (skips_in n) (ahead_fewer s.pending)

  pub skips : (s : StepState) → SkipsTo s (skip_by_turns o s)
  skips s = skips_in (suc (step_size s)) s

  -- ---- where an event comes

  -- an event waits, or comes next
  pub data EventNext (s : StepState) : Type 0 where
    event_waits : 1 ≤ left_waiting s.pending → EventNext s
    event_comes : {t : StepState} {e : PlainEvent} → next_event o s ≡ Ok (Some e, t) → EventNext s

  abbrev SkipsLess : StepState → SkipEnd → Type 0
  SkipsLess s (Ended t) = (state_left t < state_left s) ⊎ TellsNone o t
  SkipsLess s (Failed f t) = (state_left t ≤ state_left s) × Stuck t

  less_behind : (s t : StepState) (e : SkipEnd) → state_left t < state_left s → SkipsTo t e → SkipsLess s e
  less_behind s t (Ended u) less p = inl (omega (arith, less, p))
  less_behind s t (Failed f u) less p = let q = p.0 in (omega (arith, less, q), p.1)

  -- where no turn was made some event waited
  some_waited : (s : StepState) (es : List PlainEvent) (r : Turn) → Led o s → s.pending ≡ es
      → step_turn o (with_pending [] s) ≡ r → ((u : StepState) (given : List PlainEvent) → r ≡ Ok (Some given, u) → ⊥)
      → EventNext s → state_left (with_pending [] s) < state_left s
  some_waited s (d ∷ ds) r led waits is never next =
      let n : left_waiting s.pending ≡ suc (ends_among (d ∷ ds)) = ap left_waiting waits in omega (arith, n)
  some_waited s [] r led waits is never (event_waits some) =
      let n : left_waiting s.pending ≡ 0 = ap left_waiting waits in absurd (omega (arith, n, some))
  some_waited s [] (Ok (Some given, u)) led waits is never (event_comes next) = absurd (never u given refl)
  some_waited s [] (Ok (None, u)) led waits is never (event_comes {t = t} {e = e} next) =
      absurd (none_silent s u t e led waits
      (ap (λ (es : List PlainEvent). step_turn o (with_pending es s)) waits ∙ is) next)
  some_waited s [] (Err f) led waits is never (event_comes {t = t} {e = e} next) =
      absurd (failed_silent s t f e (ap (λ (es : List PlainEvent). step_turn o (with_pending es s)) waits ∙ is) next)

  fault_less_by : (b : Bool) (f : Fault) (s : StepState) → step_turn o (with_pending [] s) ≡ Err f
      → state_left (with_pending [] s) < state_left s
      → SkipsLess s (if b then Ended (with_pending [] s) else Failed f (with_pending [] s))
  fault_less_by true f s e less = inl less
  fault_less_by false f s e less = (omega arith, stuck o (with_pending [] s) f e)

  turn_less : (s : StepState) (n : ℕ) (r : Turn) → Led o s → EventNext s
      → step_turn o (with_pending [] s) ≡ r → SkipsLess s (skip_turn (skip_in o n) (with_pending [] s) r)
  turn_less s n (Ok (Some es, u)) led next is =
      let less = falls o (with_pending [] s) u es is in
      less_behind s u (skip_in o n u) (omega (arith, less)) (skips_in n u)
  turn_less s n (Ok (None, u)) led next is =
      inl (some_waited s s.pending (Ok (None, u)) led refl is (λ v given x. not_given u v given x) next)
  turn_less s n (Err f) led next is =
      fault_less_by (ends_before (with_pending [] s) f) f s is
      (some_waited s s.pending (Err f) led refl is (λ v given x. cc) next)

  ahead_less : (s : StepState) (n : ℕ) (a : Ahead) → Led o s → EventNext s → AheadFewer s.pending a
      → SkipsLess s (skip_ahead (λ t. skip_turn (skip_in o n) t (step_turn o t)) s a)
  ahead_less s n NoEnd led next p = turn_less s n (step_turn o (with_pending [] s)) led next refl
  ahead_less s n (BehindDocument es) led next p = inl (omega (arith, p))
  ahead_less s n (AtStreamEnd es) led next p =
      inr (λ room. follows_told o room (with_pending es s) (Ok false) (p.1 room))

  pub skips_less : (s : StepState) → Led o s → EventNext s → SkipsLess s (skip_by_turns o s)
  skips_less s led next = ahead_less s (step_size s) (ahead s.pending) led next (ahead_fewer s.pending)

  -- ---- behind a fault

  told_over : {A : Type 0} (room : ℕ) (t : StepState) → document_follows o room t ≡ Ok true → TellsNone o t → A
  told_over room t follows over = absurd (let f : Ok true ≡ Ok false = sym follows ∙ over room in cc)

  -- where a document behind directives was dropped
  dropped_less : (s t : StepState) (stop : Here) (e : SkipEnd) (room : ℕ) → state_left t < state_left s
      → SkipsTo t e → SkipLed o e
      → EndFits ComesOnward stop e → document_follows o room (restarted stop e) ≡ Ok true
      → state_left (restarted stop e) < state_left s
  dropped_less s t stop (Ended u) room less p led fits follows = omega (arith, less, p)
  dropped_less s t stop (Failed f u) room less p led fits follows =
      by (behind_fault stop u) (restarts o f stop u led p.1 fits) follows
    where
      by : (x : Bool × StepState) → RestartsLess o u x → document_follows o room x.1 ≡ Ok true
          → state_left x.1 < state_left s
      by x (inl fewer) follows = let q = p.0 in omega (arith, less, q, fewer)
      by x (inr over) follows = told_over room x.1 follows over.1

  header_less : (s : StepState) (stop : Here) (in_header : Bool) (x : Bool × StepState) (room : ℕ) → RestartsLess o s x
      → Led o x.1 → EndFits ComesOnward stop (skip_by_turns o x.1)
      → document_follows o room (if in_header && x.0 then restarted stop (skip_by_turns o x.1) else x.1) ≡ Ok true
      → state_left (if in_header && x.0 then restarted stop (skip_by_turns o x.1) else x.1) < state_left s
  header_less s stop in_header x room (inl less) led fits follows = by (in_header && x.0) follows
    where
      by : (b : Bool) → document_follows o room (if b then restarted stop (skip_by_turns o x.1) else x.1) ≡ Ok true
          → state_left (if b then restarted stop (skip_by_turns o x.1) else x.1) < state_left s
      by true follows =
          dropped_less s x.1 stop (skip_by_turns o x.1) room less (skips x.1) (skip_led o x.1 led) fits follows
      by false follows = less
  header_less s stop false x room (inr over) led fits follows = told_over room x.1 follows over.1
  header_less s stop true (true, t) room (inr over) led fits follows = absurd (let f = over.0 in cc)
  header_less s stop true (false, t) room (inr over) led fits follows = told_over room t follows over.1

  pub fault_less : (stops : Stops) (f : Fault) (s : StepState) (room : ℕ) → Led o s → Stuck s
      → FaultFits ComesOnward o stops s → document_follows o room (skipped_fault o stops f s) ≡ Ok true
      → state_left (skipped_fault o stops f s) < state_left s
  fault_less stops f s room led st fits follows =
      header_less s stops.second (is_in_header o s f) (behind_fault stops.first s) room
      (restarts o f stops.first s led st fits.0) (led_anew stops.first led) fits.1 follows

  -- ---- a document

  to_most : (stops : Stops) (s : StepState) (e : SkipEnd) (room : ℕ) → SkipsTo s e → SkipLed o e
      → DropFits ComesOnward o stops e → document_follows o room (skipped_to o stops e) ≡ Ok true
      → state_left (skipped_to o stops e) ≤ state_left s
  to_most stops s (Ended t) room p led fits follows = p
  to_most stops s (Failed f t) room p led fits follows =
      let less = fault_less stops f t room led p.1 fits follows in let q = p.0 in omega (arith, less, q)

  pub document_most : (stops : Stops) (s : StepState) (room : ℕ) → Led o s
      → DropFits ComesOnward o stops (skip_by_turns o s)
      → document_follows o room (skipped_document o stops s) ≡ Ok true
      → state_left (skipped_document o stops s) ≤ state_left s
  document_most stops s room led fits follows =
      to_most stops s (skip_by_turns o s) room (skips s) (skip_led o s led) fits follows

  to_less : (stops : Stops) (s : StepState) (e : SkipEnd) (room : ℕ) → SkipsLess s e → SkipLed o e
      → DropFits ComesOnward o stops e → document_follows o room (skipped_to o stops e) ≡ Ok true
      → state_left (skipped_to o stops e) < state_left s
  to_less stops s (Ended t) room (inl p) led fits follows = p
  to_less stops s (Ended t) room (inr over) led fits follows = told_over room t follows over
  to_less stops s (Failed f t) room p led fits follows =
      let less = fault_less stops f t room led p.1 fits follows in let q = p.0 in omega (arith, less, q)

  -- of which an event comes
  pub document_less : (stops : Stops) (s : StepState) (room : ℕ) → Led o s → EventNext s
      → DropFits ComesOnward o stops (skip_by_turns o s)
      → document_follows o room (skipped_document o stops s) ≡ Ok true
      → state_left (skipped_document o stops s) < state_left s
  document_less stops s room led next fits follows =
      to_less stops s (skip_by_turns o s) room (skips_less s led next) (skip_led o s led) fits follows
