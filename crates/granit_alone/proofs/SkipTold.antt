-- What is dropped turn by turn is what would be given first.
use Rattle.std.proofs.Common.{◌≡◌, ℕ, zero, suc, Bool, true, false, List, [], ◌∷◌, ◌++◌, Option, Some, None, Result, Ok}
use Rattle.std.proofs.Common.{Err, refl, sym, ap, ap₂, subst, ◌∙◌, append_assoc}
use Rattle.std.proofs.lemmas.List.{append-nil}
use Rattle.std.specs.Prelude.{if◌then◌else◌}
use Rattle.granit_alone.specs.Behind.{TellsRest}
use Rattle.granit_error.specs.OptionsData.{OptionsData}
use Rattle.granit_lexemes.specs.Outcome.{Fault}
use Rattle.granit_lexemes.specs.PlainEvent.{DocumentEnd, EventKind, PlainEvent, StreamEnd}
use Rattle.granit_restart.proofs.AheadLaws.{turn_next, waits_next}
use Rattle.granit_restart.specs.Skipping.{Ahead, ahead, ahead_by, AtStreamEnd, BehindDocument, Ended, ends_before}
use Rattle.granit_restart.specs.Skipping.{Failed}
use Rattle.granit_restart.specs.Skipping.{NoEnd, skip_by_turns, skip_ahead, SkipEnd, skip_in, skip_turn, with_pending}
use Rattle.granit_behind.proofs.AloneStates.{gives_from}
use Rattle.granit_steps.specs.Steps.{step_size, step_turn, StepState, Turn}
use Rattle.granit_steps.specs.Told.{gives_end, gives_event, gives_fault, GivesEvents}

-- ---- what stands among events

abbrev AheadAre : List PlainEvent → Ahead → Type 0
AheadAre es NoEnd = Unit {0}
AheadAre es (BehindDocument rest) = (front : List PlainEvent) × (es ≡ front ++ rest)
AheadAre es (AtStreamEnd rest) = (front : List PlainEvent) × (es ≡ front ++ rest)

one_more : (e : PlainEvent) (es : List PlainEvent) (later : Ahead) → AheadAre es later → AheadAre (e ∷ es) later
one_more e es NoEnd are = tt
one_more e es (BehindDocument rest) are = (e ∷ are.0, ap (λ l. e ∷ l) are.1)
one_more e es (AtStreamEnd rest) are = (e ∷ are.0, ap (λ l. e ∷ l) are.1)

kind_are : (kind : EventKind) (e : PlainEvent) (es : List PlainEvent) (later : Ahead) → AheadAre es later
    → AheadAre (e ∷ es) (ahead_by kind e es later)
kind_are DocumentEnd e es later are = (e ∷ [], refl)
kind_are StreamEnd e es later are = ([], refl)
kind_are kind e es later are = one_more e es later are

ahead_are : (es : List PlainEvent) → AheadAre es (ahead es)
ahead_are [] = tt
ahead_are (e ∷ es) = kind_are e.kind e es (ahead es) (ahead_are es)

-- ---- what is dropped

abbrev pub end_of : SkipEnd → StepState
end_of (Ended s) = s
end_of (Failed f s) = s

-- these events are dropped, and the rest of all that is told is told from there on
pub record Dropped (o : OptionsData) (all : List PlainEvent) (f : Option Fault) (s : StepState) : Type 0 where
  pub before : List PlainEvent
  pub rest : TellsRest o all before f s

module _ (o : OptionsData) where
  none_dropped : (s : StepState) (all : List PlainEvent) (f : Option Fault) → GivesEvents o s all f
      → Dropped o all f s
  none_dropped s all f g = record { before = []; rest = record { more = all; are = refl; left = g } }

  -- more are dropped behind some
  then_dropped : (s t : StepState) (before all : List PlainEvent) (f : Option Fault) (r : TellsRest o all before f s)
      → Dropped o r.more f t → Dropped o all f t
  then_dropped s t before all f r d = record {
    before = before ++ d.before;
    rest = record {
      more = d.rest.more;
      are = r.are ∙ ap (λ l. before ++ l) d.rest.are ∙ sym (append_assoc before d.before d.rest.more);
      left = d.rest.left;
    };
  }

  abbrev Next : Type 0
  Next = Result (Option PlainEvent × StepState) Fault

  abbrev event_of : Next → Option PlainEvent
  event_of (Ok x) = x.0
  event_of (Err f) = None

  abbrev state_of : StepState → Next → StepState
  state_of s (Ok x) = x.1
  state_of s (Err f) = s

  -- events that wait are given first
  waits_told : (s : StepState) (front rest all : List PlainEvent) (f : Option Fault)
      → GivesEvents o (with_pending (front ++ rest) s) all f → TellsRest o all front f (with_pending rest s)
  waits_told s [] rest all f g = record { more = all; are = refl; left = g }
  waits_told s (e ∷ front) rest all f (gives_end is) =
      absurd (let x : Some e ≡ None = ap event_of (sym (waits_next o s e (front ++ rest)) ∙ is) in cc)
  waits_told s (e ∷ front) rest all f (gives_fault is) =
      absurd (let x : Some e ≡ None = ap event_of (sym (waits_next o s e (front ++ rest)) ∙ is) in cc)
  waits_told s (e ∷ front) rest all f (gives_event {after = t} {e = x} {es = xs} is more) =
      let same = sym (waits_next o s e (front ++ rest)) ∙ is in
      let some : Some e ≡ Some x = ap event_of same in
      let event : e ≡ x = cc in
      let state : with_pending (front ++ rest) s ≡ t = ap (state_of t) same in
      let p = waits_told s front rest xs f (subst (λ (t : StepState). GivesEvents o t xs f) (sym state) more) in
      record {
        more = p.more;
        are = ap₂ (λ (e : PlainEvent) (es : List PlainEvent). e ∷ es) (sym event) p.are;
        left = p.left;
      }

  pending_told : (s : StepState) (front rest all : List PlainEvent) (f : Option Fault) → s.pending ≡ front ++ rest
      → GivesEvents o s all f → TellsRest o all front f (with_pending rest s)
  pending_told s front rest all f are g =
      waits_told s front rest all f (subst (λ es. GivesEvents o (with_pending es s) all f) are g)

  end_same : (b : Bool) (s : StepState) (f : Fault) → end_of (if b then Ended s else Failed f s) ≡ s
  end_same true s f = refl
  end_same false s f = refl

  turn_told : (n : ℕ) (s : StepState) (all : List PlainEvent) (f : Option Fault) (r : Turn) → step_turn o s ≡ r
      → ((t : StepState) → GivesEvents o t all f → Dropped o all f (end_of (skip_in o n t))) → GivesEvents o s all f
      → Dropped o all f (end_of (skip_turn (skip_in o n) s r))
  turn_told n s all f (Ok (Some es, t)) is more g = more t (gives_from o s t all f (turn_next o s t es is) g)
  turn_told n s all f (Ok (None, t)) is more g = none_dropped s all f g
  turn_told n s all f (Err x) is more g =
      subst (Dropped o all f) (sym (end_same (ends_before s x) s x)) (none_dropped s all f g)

  abbrev then_in : ℕ → StepState → SkipEnd
  then_in n t = skip_turn (skip_in o n) t (step_turn o t)

  ahead_told : (n : ℕ) (s : StepState) (all : List PlainEvent) (f : Option Fault) (a : Ahead) → AheadAre s.pending a
      → ((all : List PlainEvent) (t : StepState) → GivesEvents o t all f → Dropped o all f (end_of (skip_in o n t)))
      → GivesEvents o s all f → Dropped o all f (end_of (skip_ahead (then_in n) s a))
  ahead_told n s all f NoEnd are more g =
      let t = with_pending [] s in
      let r = pending_told s s.pending [] all f (sym (append-nil s.pending)) g in
      then_dropped t (end_of (then_in n t)) s.pending all f r
      (turn_told n t r.more f (step_turn o t) refl (more r.more) r.left)
  ahead_told n s all f (BehindDocument es) are more g =
      record { before = are.0; rest = pending_told s are.0 es all f are.1 g }
  ahead_told n s all f (AtStreamEnd es) are more g =
      record { before = are.0; rest = pending_told s are.0 es all f are.1 g }

  in_told : (n : ℕ) (f : Option Fault) (all : List PlainEvent) (s : StepState) → GivesEvents o s all f
      → Dropped o all f (end_of (skip_in o n s))
  in_told zero f all s g = none_dropped s all f g
  in_told (suc n) f all s g = ahead_told n s all f (ahead s.pending) (ahead_are s.pending) (in_told n f) g

  pub skip_told : (s : StepState) (all : List PlainEvent) (f : Option Fault) → GivesEvents o s all f
      → Dropped o all f (end_of (skip_by_turns o s))
  skip_told s all f g = in_told (suc (step_size s)) f all s g
