-- What a call leaves: less behind an event, and no more behind a fault, where a turn fails.
use Rattle.std.proofs.Common.{◌++◌, ◌+◌, ◌≡◌, ℕ, zero, suc, ◌<◌, ◌≤◌, ◌||◌, ◌⊎◌, inl, inr, Bool, true, false, List}
use Rattle.std.proofs.Common.{[], ◌∷◌, Option, Some, None, is_some, Result, Ok, Err, refl, sym, ap, subst, ◌∙◌, arith}
use Rattle.std.specs.Prelude.{if◌then◌else◌}
use Rattle.granit_chains.proofs.FeedEnds.{ends_join as ends_joined}
use Rattle.granit_chains.proofs.LeftTurns.{falls}
use Rattle.granit_chains.proofs.Skips.{none_same, rest_waits}
use Rattle.granit_chains.proofs.Stuck.{Stuck, stuck}
use Rattle.granit_chains.specs.Chains.{ends_among, ends_of_kind, state_left, left_waiting}
use Rattle.granit_error.specs.OptionsData.{OptionsData}
use Rattle.granit_lexemes.specs.Outcome.{Fault, ◌>>=◌}
use Rattle.granit_lexemes.specs.Pieces.{pieces, then_more, turns, with_front}
use Rattle.granit_lexemes.specs.PlainEvent.{DocumentEnd, DocumentStart, EventKind, PlainEvent, StreamEnd}
use Rattle.granit_recovery.specs.Streams.{EarlyOf, not_early, turn_early}
use Rattle.granit_restart.specs.Calls.{Calls, failing, failing_by, failing_in, given_by, GivenByCall, next_call}
use Rattle.granit_restart.specs.Calls.{noted}
use Rattle.granit_restart.specs.Looking.{behind_waiting}
use Rattle.granit_restart.specs.Skipping.{with_pending}
use Rattle.granit_alone.specs.Behind.{Led, led_on}
use Rattle.granit_steps.specs.Steps.{first_pending, next_event, settle, step_size, step_turn, StepState, Turn}

state_in : StepState → Turn → StepState
state_in s (Ok x) = x.1
state_in s (Err f) = s

told_in : Turn → Option (List PlainEvent)
told_in (Ok x) = x.0
told_in (Err f) = None

some_end : (es : List PlainEvent) → ends_among es ≤ left_waiting es
some_end [] = omega arith
some_end (e ∷ es) = omega arith

-- ---- turns up to an event

-- less is left, or no more and some events wait, and this holds
abbrev pub LeavesOn : (before after : StepState) → Type 0 → Type 0
LeavesOn s t Holds =
    (state_left t < state_left s) ⊎ ((state_left t ≤ state_left s) × (1 ≤ left_waiting t.pending) × Holds)

-- turns were made, or none
abbrev Turned : StepState → Result (List PlainEvent × StepState) Fault → Type 0
Turned s (Ok x) = (state_left x.1 < state_left s) ⊎ (x.1 ≡ s)
Turned s (Err f) = Unit {0}

front_turned : (s t : StepState) (es : List PlainEvent) (r : Result (List PlainEvent × StepState) Fault)
    → state_left t < state_left s → Turned t r → Turned s (with_front es r)
front_turned s t es (Ok x) less (inl p) = inl (omega (arith, less, p))
front_turned s t es (Ok x) less (inr p) = inl (subst (λ (u : StepState). state_left u < state_left s) (sym p) less)
front_turned s t es (Err f) less p = tt

module _ (o : OptionsData) where
  then_turned : (n : ℕ) (s : StepState) (r : Turn) → Led o s → step_turn o s ≡ r
      → ((t : StepState) → Led o t → Turned t (turns (step_turn o) n t))
      → Turned s (r >>= λ x. then_more (turns (step_turn o) n) x.0 x.1)
  then_turned n s (Ok (Some es, t)) led e more =
      front_turned s t es (turns (step_turn o) n t) (falls o s t es e) (more t (led_on led e))
  then_turned n s (Ok (None, t)) led e more = inr (none_same o s t led e)
  then_turned n s (Err f) led e more = tt

  turns_turned : (n : ℕ) (s : StepState) → Led o s → Turned s (turns (step_turn o) n s)
  unfolding turns
  turns_turned zero s led = inr refl
  turns_turned (suc n) s led = then_turned n s (step_turn o s) led refl (turns_turned n)

  -- ---- one event

  abbrev NextLess : StepState → Result (Option PlainEvent × StepState) Fault → Type 0
  NextLess s (Ok (Some e, t)) = LeavesOn s t (ends_of_kind e.kind ≡ 0)
  NextLess s (Ok (None, t)) = Unit {0}
  NextLess s (Err f) = Unit {0}

  more_wait : (s u : StepState) (e x : PlainEvent) (xs : List PlainEvent) (n : ℕ) → u.pending ≡ e ∷ x ∷ xs → u ≡ s
      → ends_of_kind e.kind ≡ n → LeavesOn s (with_pending (x ∷ xs) u) (ends_of_kind e.kind ≡ 0)
  more_wait s u e x xs n waits same k =
      let m : left_waiting u.pending ≡ suc (ends_of_kind e.kind + ends_among (x ∷ xs)) = ap left_waiting waits in
      let j : state_left u ≡ state_left s = ap state_left same in by n k m j
    where
      by : (n : ℕ) → ends_of_kind e.kind ≡ n → left_waiting u.pending ≡ suc (ends_of_kind e.kind + ends_among (x ∷ xs))
          → state_left u ≡ state_left s → LeavesOn s (with_pending (x ∷ xs) u) (ends_of_kind e.kind ≡ 0)
      by zero k m j = inr (omega (arith, m, j), omega arith, k)
      by (suc n) k m j = inl (omega (arith, k, m, j))

  first_less : (s u : StepState) (es : List PlainEvent) → u.pending ≡ es → (state_left u < state_left s) ⊎ (u ≡ s)
      → NextLess s (Ok (first_pending es u))
  first_less s u [] waits p = tt
  first_less s u (e ∷ es) waits (inl p) =
      let m : left_waiting u.pending ≡ left_waiting (e ∷ es) = ap left_waiting waits in
      let k = rest_waits e es in inl (omega (arith, p, m, k))
  first_less s u (e ∷ []) waits (inr p) =
      let m : left_waiting u.pending ≡ left_waiting (e ∷ []) = ap left_waiting waits in
      let j : state_left u ≡ state_left s = ap state_left p in inl (omega (arith, m, j))
  first_less s u (e ∷ x ∷ xs) waits (inr p) = more_wait s u e x xs (ends_of_kind e.kind) waits p refl

  settled_less : (s : StepState) (r : Result (List PlainEvent × StepState) Fault) → Turned s r
      → NextLess s (r >>= λ x. Ok (first_pending x.1.pending x.1))
  settled_less s (Ok x) p = first_less s x.1 x.1.pending refl p
  settled_less s (Err f) p = tt

  next_less : (s t : StepState) (e : PlainEvent) → Led o s → next_event o s ≡ Ok (Some e, t)
      → LeavesOn s t (ends_of_kind e.kind ≡ 0)
  unfolding next_event pieces
  next_less s t e led is = subst (NextLess s) is
      (settled_less s (settle o s) (turns_turned (suc (step_size s)) s led))

  -- ---- a fault

  front_err : (es : List PlainEvent) (r : Result (List PlainEvent × StepState) Fault) (f : Fault)
      → with_front es r ≡ Err f → r ≡ Err f
  front_err es (Ok x) f e = absurd (cc)
  front_err es (Err g) f e = e

  abbrev Fails : StepState → StepState → Type 0
  Fails s t = (state_left t ≤ state_left s) × Stuck t

  then_fails : (n : ℕ) (s : StepState) (r : Turn) (f : Fault) → step_turn o s ≡ r
      → ((t : StepState) → turns (step_turn o) n t ≡ Err f → Fails t (failing_in o n t))
      → (r >>= λ x. then_more (turns (step_turn o) n) x.0 x.1) ≡ Err f → Fails s (failing_by (failing_in o n) s r)
  then_fails n s (Ok (Some es, t)) f is more e =
      let x = more t (front_err es (turns (step_turn o) n t) f e) in
      let less = falls o s t es is in
      let most = x.0 in (omega (arith, less, most), x.1)
  then_fails n s (Ok (None, t)) f is more e = absurd (cc)
  then_fails n s (Err g) f is more e = (omega arith, stuck o s g is)

  turns_fail : (n : ℕ) (s : StepState) (f : Fault) → turns (step_turn o) n s ≡ Err f → Fails s (failing_in o n s)
  unfolding turns
  turns_fail zero s f e = absurd (cc)
  turns_fail (suc n) s f e = then_fails n s (step_turn o s) f refl (λ t. turns_fail n t f) e

  settled_err : (r : Result (List PlainEvent × StepState) Fault) (f : Fault)
      → ◌≡◌ {A = Result (Option PlainEvent × StepState) Fault} (r >>= λ x. Ok (first_pending x.1.pending x.1)) (Err f)
      → r ≡ Err f
  settled_err (Ok x) f e = absurd (cc)
  settled_err (Err g) f e = cc

  next_fails : (s : StepState) (f : Fault) → next_event o s ≡ Err f → Fails s (failing o s)
  unfolding next_event pieces
  next_fails s f e = turns_fail (suc (step_size s)) s f (settled_err (settle o s) f e)

  -- ---- turns made early

  waiting_join : (xs ys : List PlainEvent) → left_waiting (xs ++ ys) ≤ left_waiting xs + left_waiting ys
  waiting_join [] ys = omega arith
  waiting_join (x ∷ xs) ys = let m = ends_joined xs ys in let k = some_end ys in omega (arith, m, k)

  turned_early : (s t : StepState) (given : List PlainEvent) (r : Turn) → step_turn o (with_pending [] s) ≡ r
      → behind_waiting s.pending r ≡ Ok (Some given, t) → state_left t < state_left s
  unfolding told_in state_in
  turned_early s t given (Ok (Some es, u)) is e =
      let less = falls o (with_pending [] s) u es is in
      let m = waiting_join s.pending u.pending in
      let same : with_pending (s.pending ++ u.pending) u ≡ t = ap (state_in s) e in
      subst (λ (v : StepState). state_left v < state_left s) same (omega (arith, less, m))
  turned_early s t given (Ok (None, u)) is e =
      absurd (let f : None ≡ Some given = ap told_in e in cc)
  turned_early s t given (Err f) is e = absurd (cc)

  pub early_leaves : (s t : StepState) → EarlyOf o s t → (state_left t < state_left s) ⊎ (t ≡ s)
  early_leaves s t not_early = inr refl
  early_leaves s t (turn_early {t = u} {given = given} p e) =
      by (early_leaves s u p) (turned_early u t given (step_turn o (with_pending [] u)) refl e)
    where
      by : (state_left u < state_left s) ⊎ (u ≡ s) → state_left t < state_left u
          → (state_left t < state_left s) ⊎ (t ≡ s)
      by (inl p) q = inl (omega (arith, p, q))
      by (inr p) q = inl (subst (λ (v : StepState). state_left t < state_left v) p q)

  -- ---- a call

  pub data CallLeaves (c : Calls) : GivenByCall × Calls → Type 0 where
    call_none : CallLeaves c (None, c)
    call_event : (e : PlainEvent) (t : StepState) (after : Calls) → next_event o c.steps ≡ Ok (Some e, t)
        → c.fault ≡ None → after.fault ≡ None
        → LeavesOn c.steps after.steps (c.between ≡ false → after.between ≡ false) → CallLeaves c (Some (Ok e), after)
    call_fault : (f : Fault) (after : Calls) → c.fault ≡ None → after.fault ≡ Some f → Fails c.steps after.steps
        → CallLeaves c (Some (Err f), after)

  noted_steps : (kind : EventKind) (c : Calls) → ((noted kind c).steps ≡ c.steps) × ((noted kind c).fault ≡ c.fault)
  noted_steps (DocumentStart explicit version) c = (refl, refl)
  noted_steps DocumentEnd c = (refl, refl)
  noted_steps StreamEnd c = (refl, refl)
  noted_steps kind c = (refl, refl)

  noted_between : (kind : EventKind) (c : Calls) → ends_of_kind kind ≡ 0 → c.between ≡ false
      → (noted kind c).between ≡ false
  noted_between (DocumentStart explicit version) c k e = refl
  noted_between DocumentEnd c k e = absurd (omega (arith, k))
  noted_between StreamEnd c k e = e
  noted_between kind c k e = e

  leaves_noted : (s t : StepState) (kind : EventKind) (c : Calls) → c.steps ≡ t → LeavesOn s t (ends_of_kind kind ≡ 0)
      → LeavesOn s (noted kind c).steps (c.between ≡ false → (noted kind c).between ≡ false)
  leaves_noted s t kind c is (inl p) =
      inl (subst (λ (u : StepState). state_left u < state_left s) (sym ((noted_steps kind c).0 ∙ is)) p)
  leaves_noted s t kind c is (inr p) =
      let e = sym ((noted_steps kind c).0 ∙ is) in
      inr (
        subst (λ (u : StepState). state_left u ≤ state_left s) e p.0,
        subst (λ (u : StepState). 1 ≤ left_waiting u.pending) e p.1,
        noted_between kind c p.2,
      )

  given_leaves : (c : Calls) (r : Result (Option PlainEvent × StepState) Fault) → Led o c.steps → c.fault ≡ None
      → next_event o c.steps ≡ r → CallLeaves c (given_by o c r)
  given_leaves c (Ok (Some e, t)) led going is =
      let n = noted_steps e.kind (record c { steps = t }) in
      call_event e t (noted e.kind (record c { steps = t })) is going (n.1 ∙ going)
      (leaves_noted c.steps t e.kind (record c { steps = t }) refl (next_less c.steps t e led is))
  given_leaves c (Ok (None, t)) led going is = call_none
  given_leaves c (Err f) led going is =
      call_fault f (record c { steps = failing o c.steps; fault = Some f }) going refl (next_fails c.steps f is)

  none_given : (over refused : Bool) (fault : Option Fault) → ((over || is_some fault) || refused) ≡ false
      → fault ≡ None
  none_given true refused fault e = absurd (cc)
  none_given false refused (Some f) e = absurd (cc)
  none_given false refused None e = refl

  call_by : (b : Bool) (c : Calls) → ((c.over || is_some c.fault) || is_some c.refusal) ≡ b → Led o c.steps
      → CallLeaves c (if b then (None, c) else given_by o c (next_event o c.steps))
  call_by true c e led = call_none
  call_by false c e led =
      given_leaves c (next_event o c.steps) led (none_given c.over (is_some c.refusal) c.fault e) refl

  pub call_leaves : (c : Calls) → Led o c.steps → CallLeaves c (next_call o c)
  unfolding next_call
  call_leaves c led = call_by ((c.over || is_some c.fault) || is_some c.refusal) c refl led
