-- The machine's calls, and what recovery makes of them.
use Rattle.std.proofs.Common.{◌≡◌, ℕ, zero, suc, ◌<◌, Bool, true, false, ◌||◌, is_some, List, [], ◌∷◌, ◌++◌, Option}
use Rattle.std.proofs.Common.{Some, None, Result, Ok, Err, refl, sym, ap, subst, ◌∙◌, arith}
use Rattle.std.specs.Prelude.{if◌then◌else◌}
use Rattle.granit_error.specs.OptionsData.{OptionsData}
use Rattle.granit_lexemes.proofs.PieceLemmas.{pieces_done, pieces_fails}
use Rattle.granit_lexemes.specs.Outcome.{Fault}
use Rattle.granit_lexemes.specs.PlainEvent.{PlainEvent, EventKind, DocumentEnd, StreamEnd}
use Rattle.granit_restart.proofs.AheadLaws.{first_of, one, turn_next, waits_next}
use Rattle.granit_restart.proofs.MarkLaws.{turned_sound}
use Rattle.granit_restart.proofs.TurnwiseLaws as turnwise
use Rattle.granit_restart.specs.Ahead.{AheadOf, not_ahead, turn_made, OnlyNotes, is_note}
use Rattle.granit_restart.specs.Calls.{Calls, given_by, next_call}
use Rattle.granit_restart.specs.Skipping.{Ended, SkipEnd, ahead, ahead_by, skip_by_turns, skip_ahead, skip_in}
use Rattle.granit_restart.specs.Skipping.{skip_turn, with_pending}
use Rattle.granit_restart.specs.Turned.{Turned, turned_on, turned_with}
use Rattle.granit_steps.proofs.Futures.{TurnKeeps, turn_keeps}
use Rattle.granit_steps.proofs.StepLaws.{step_turn-Shortens}
use Rattle.granit_steps.specs.Steps.{StepState, Turn, first_pending, next_event, step_size, step_turn}

-- whether an event ends a document, or the stream
abbrev pub ends : EventKind → Bool
ends DocumentEnd = true
ends StreamEnd = true
ends kind = false

module _ (o : OptionsData) where
  -- ---- one call

  pub call_going : (c : Calls) → c.over ≡ false → c.fault ≡ None → c.refusal ≡ None
      → next_call o c ≡ given_by o c (next_event o c.steps)
  unfolding next_call
  call_going c over fault refusal =
      let closed : ((c.over || is_some c.fault) || is_some c.refusal) ≡ false =
      ap (λ b. (b || is_some c.fault) || is_some c.refusal) over
      ∙ ap (λ (f : Option Fault). is_some f || is_some c.refusal) fault
      ∙ ap (λ (f : Option Fault). is_some f) refusal in
      ap (λ (b : Bool). if b then (None, c) else given_by o c (next_event o c.steps)) closed

  -- ---- an event comes by turns

  abbrev Next : Type 0
  Next = Result (Option PlainEvent × StepState) Fault

  -- turns lead from a state to the event that comes next, and to the state behind it
  pub data Comes (e : PlainEvent) (t : StepState) : StepState → Type 0 where
    waits : {s : StepState} → (es : List PlainEvent) → s ≡ with_pending (e ∷ es) s → t ≡ with_pending es s
        → Comes e t s
    comes_on : {s u : StepState} → (given : List PlainEvent) → s.pending ≡ []
        → step_turn o s ≡ Ok (Some given, u) → Comes e t u → Comes e t s

  abbrev event_in : Next → Option PlainEvent
  event_in (Ok x) = x.0
  event_in (Err f) = None

  abbrev state_in : StepState → Next → StepState
  state_in s (Ok x) = x.1
  state_in s (Err f) = s

  same_some : {A : Type 0} (x y : A) → Some x ≡ Some y → x ≡ y
  same_some x y e = cc

  abbrev AllCome : ℕ → Type 0
  AllCome n = (s t : StepState) (e : PlainEvent) → step_size s < n → Turned o s → next_event o s ≡ Ok (Some e, t)
      → Comes e t s

  turn_comes : (n : ℕ) (s t : StepState) (e : PlainEvent) (r : Turn) → AllCome n → step_size s < suc n → Turned o s
      → s.pending ≡ [] → step_turn o s ≡ r → next_event o s ≡ Ok (Some e, t) → Comes e t s
  unfolding next_event
  turn_comes n s t e (Ok (Some given, u)) more h turned none is next =
      let less = step_turn-Shortens o s u given is in
      comes_on given none is
      (more u t e (omega (arith, less, h)) (turned_on turned is) (sym (turn_next o s u given is) ∙ next))
  turn_comes n s t e (Ok (None, u)) more h turned none is next =
      let keeps : TurnKeeps o s (Ok (None, u)) =
      subst (TurnKeeps o s) is (turn_keeps o s (turned_sound o s turned).ready) in
      let same : u ≡ s = keeps.0 in
      let left : u.pending ≡ [] = ap (λ (v : StepState). v.pending) same ∙ none in
      let g : next_event o s ≡ Ok (first_pending u.pending u) =
      ap (first_of o) (pieces_done step_size (step_turn o) s u is) in
      absurd (let f : None ≡ Some e = ap event_in (sym (g ∙ ap (λ es. Ok (first_pending es u)) left) ∙ next) in cc)
  turn_comes n s t e (Err f) more h turned none is next =
      absurd (let g : None ≡ Some e =
      ap event_in (sym (ap (first_of o) (pieces_fails step_size (step_turn o) s f is)) ∙ next) in cc)

  state_comes : (n : ℕ) (s t : StepState) (e : PlainEvent) (es : List PlainEvent) → AllCome n → step_size s < suc n
      → Turned o s → s.pending ≡ es → next_event o s ≡ Ok (Some e, t) → Comes e t s
  state_comes n s t e [] more h turned waiting next = turn_comes n s t e (step_turn o s) more h turned waiting refl next
  state_comes n s t e (x ∷ es) more h turned waiting next =
      let same : s ≡ with_pending (x ∷ es) s = ap (λ es. with_pending es s) waiting in
      let both = sym (waits_next o s x es) ∙ ap (next_event o) (sym same) ∙ next in
      let event : x ≡ e = same_some x e (ap event_in both) in
      waits es (same ∙ ap (λ x. with_pending (x ∷ es) s) event) (sym (ap (state_in s) both))

  all_come : (n : ℕ) → AllCome n
  all_come zero s t e h turned next = absurd (omega arith)
  all_come (suc n) s t e h turned next = state_comes n s t e s.pending (all_come n) h turned refl next

  pub comes : (s t : StepState) (e : PlainEvent) → Turned o s → next_event o s ≡ Ok (Some e, t) → Comes e t s
  comes s t e turned next = all_come (suc (step_size s)) s t e (omega arith) turned next

  -- ---- skipping over an event

  abbrev then_in : ℕ → StepState → SkipEnd
  then_in n t = skip_turn (skip_in o n) t (step_turn o t)

  waiting_dropped : (s : StepState) (es : List PlainEvent) → ahead s.pending ≡ ahead es
      → skip_by_turns o s ≡ skip_by_turns o (with_pending es s)
  waiting_dropped s es e = ap (skip_ahead (then_in (step_size s)) s) e

  other_ahead : (kind : EventKind) (e : PlainEvent) (es : List PlainEvent) → ends kind ≡ false
      → ahead_by kind e es (ahead es) ≡ ahead es
  other_ahead DocumentEnd e es other = absurd (cc)
  other_ahead StreamEnd e es other = absurd (cc)
  other_ahead kind e es other = refl

  -- where no event waits, a turn is one of skipping too
  skip_turned : (s u : StepState) (given : List PlainEvent) → s.pending ≡ [] → step_turn o s ≡ Ok (Some given, u)
      → skip_by_turns o s ≡ skip_by_turns o u
  skip_turned s u given none is =
      let same : with_pending [] s ≡ s = ap (λ es. with_pending es s) (sym none) in
      turnwise.skip_on o s u given (ap ahead none) (ap (step_turn o) same ∙ is)

  skip_comes : (e : PlainEvent) (t s : StepState) → ends e.kind ≡ false → Comes e t s
      → skip_by_turns o s ≡ skip_by_turns o t
  skip_comes e t s other (waits es is after) =
      waiting_dropped s es (ap (λ (u : StepState). ahead u.pending) is ∙ other_ahead e.kind e es other)
      ∙ ap (skip_by_turns o) (sym after)
  skip_comes e t s other (comes_on {u = u} given none is more) =
      skip_turned s u given none is ∙ skip_comes e t u other more

  -- an event that is no end is dropped first
  pub skip_over : (s t : StepState) (e : PlainEvent) → Turned o s → next_event o s ≡ Ok (Some e, t)
      → ends e.kind ≡ false → skip_by_turns o s ≡ skip_by_turns o t
  skip_over s t e turned next other = skip_comes e t s other (comes s t e turned next)

  end_comes : (e : PlainEvent) (t s : StepState) → e.kind ≡ DocumentEnd → Comes e t s → skip_by_turns o s ≡ Ended t
  end_comes e t s end (waits es is after) =
      turnwise.skip_document o s es (ap (λ (u : StepState). ahead u.pending) is
      ∙ ap (λ kind. ahead_by kind e es (ahead es)) end) ∙ ap Ended (sym after)
  end_comes e t s end (comes_on {u = u} given none is more) =
      skip_turned s u given none is ∙ end_comes e t u end more

  -- the end of a document that comes next is where skipping ends
  pub skip_to_end : (s t : StepState) (e : PlainEvent) → Turned o s → next_event o s ≡ Ok (Some e, t)
      → e.kind ≡ DocumentEnd → skip_by_turns o s ≡ Ended t
  skip_to_end s t e turned next end = end_comes e t s end (comes s t e turned next)

  -- ---- ahead

  pub further : (s t u : StepState) → AheadOf o s t → AheadOf o t u → AheadOf o s u
  further s t u p not_ahead = p
  further s t u p (turn_made {t = v} q notes e) = turn_made (further s t v p q) notes e

  -- a state that is ahead is one that turns lead to
  pub ahead_turned : (s t : StepState) → AheadOf o s t → Turned o s → Turned o t
  ahead_turned s t not_ahead turned = turned
  ahead_turned s t (turn_made {t = u} {given = given} p notes e) turned =
      let x = one o u t given e in
      subst (Turned o) (sym x.is)
      (turned_with (u.pending ++ x.behind.pending)
      (turned_on (turned_with [] (ahead_turned s u p turned)) x.turn))

  -- where the next event is no comment, it comes from ahead too, and leads to the same state
  not_waiting : (s t : StepState) (e : PlainEvent) (es : List PlainEvent) → s.pending ≡ es → OnlyNotes es
      → is_note e.kind ≡ false → next_event o s ≡ Ok (Some e, t) → s.pending ≡ []
  not_waiting s t e [] waiting notes other next = waiting
  not_waiting s t e (x ∷ es) waiting notes other next =
      let same : s ≡ with_pending (x ∷ es) s = ap (λ es. with_pending es s) waiting in
      let both = sym (waits_next o s x es) ∙ ap (next_event o) (sym same) ∙ next in
      let event : x ≡ e = same_some x e (ap event_in both) in
      absurd (let f = sym (ap (λ (y : PlainEvent). is_note y.kind) event ∙ other) ∙ notes.0 in cc)

  pub next_exact : (s t after : StepState) (e : PlainEvent) → AheadOf o s t → is_note e.kind ≡ false
      → next_event o s ≡ Ok (Some e, after) → next_event o t ≡ Ok (Some e, after)
  next_exact s t after e not_ahead other next = next
  next_exact s t after e (turn_made {t = u} {given = given} p notes turn) other next =
      let here = next_exact s u after e p other next in
      let none = not_waiting u after e u.pending refl notes other here in
      let x = one o u t given turn in
      let same : with_pending [] u ≡ u = ap (λ es. with_pending es u) (sym none) in
      let is : t ≡ x.behind =
      x.is ∙ ap (λ (es : List PlainEvent). with_pending (es ++ x.behind.pending) x.behind) none in
      ap (next_event o) is
      ∙ sym (turn_next o u x.behind x.given (ap (step_turn o) (sym same) ∙ x.turn)) ∙ here
