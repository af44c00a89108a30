-- Calls and recoveries lead to states to which turns and restarts lead.
use Rattle.std.proofs.Common.{◌≡◌, ℕ, zero, suc, ◌&&◌, ◌||◌, is_some, Bool, true, false, List, [], ◌∷◌, ◌++◌}
use Rattle.std.proofs.Common.{Option, Some}
use Rattle.std.proofs.Common.{None, Result, Ok, Err, refl, sym, subst}
use Rattle.std.specs.Prelude.{if◌then◌else◌}
use Rattle.granit_error.specs.OptionsData.{OptionsData}
use Rattle.granit_lexemes.specs.Here.{Here}
use Rattle.granit_lexemes.specs.Outcome.{Fault, ◌>>=◌}
use Rattle.granit_lexemes.specs.Pieces.{with_front}
use Rattle.granit_lexemes.specs.PlainEvent.{PlainEvent, EventKind, DocumentStart}
use Rattle.granit_recovery.proofs.RecoveryLaws.{noted_steps}
use Rattle.granit_recovery.specs.Streams.{EarlyOf, not_early, ReachedByCalls, reached_call, reached_counting}
use Rattle.granit_recovery.specs.Streams.{reached_early, reached_keeping, reached_recovery, reached_start, turn_early}
use Rattle.granit_restart.proofs.AheadLaws.{one, OneTurn}
use Rattle.granit_restart.specs.Calls.{Calls, failing_by, failing_in, GivenByCall, given_by, next_call}
use Rattle.granit_restart.specs.Header.{is_in_header}
use Rattle.granit_restart.specs.Recovery.{extra_of, looked_by, recover, recover_with, recovered, recovery_answer}
use Rattle.granit_restart.specs.Recovery.{skipped, skipped_by, starts_by}
use Rattle.granit_restart.specs.Restart.{behind_fault, cursor_at}
use Rattle.granit_restart.specs.Skipping.{ahead, Ahead, AtStreamEnd, BehindDocument, Ended, ends_before, Failed}
use Rattle.granit_restart.specs.Skipping.{NoEnd, restarted, skip_by_turns, skip_ahead, skip_in, skip_turn, SkipEnd}
use Rattle.granit_restart.specs.Skipping.{skipped_fault, skipped_to, Stops, with_pending}
use Rattle.granit_restart.specs.Turned.{Turned, turned_anew, turned_counting, turned_keeping, turned_on, turned_start}
use Rattle.granit_restart.specs.Turned.{turned_with}
use Rattle.granit_feeding.proofs.RoomStream.{Carries, pieces_hold}
use Rattle.granit_steps.proofs.StepLaws.{step_turn-Shortens}
use Rattle.granit_steps.specs.Steps.{first_pending, next_event}
use Rattle.granit_steps.specs.Steps.{settle, StepState, step_size, step_turn, Turn}

module _ (o : OptionsData) where
  abbrev Settled : Type 0
  Settled = Result (List PlainEvent × StepState) Fault

  abbrev StaysTurned : StepState → Settled → Type 0
  StaysTurned s (Ok x) = Turned o s → Turned o x.1
  StaysTurned s (Err f) = Unit {0}

  turned_more : (s t : StepState) (y : List PlainEvent) (given : Settled) → step_turn o s ≡ Ok (Some y, t)
      → StaysTurned t given → StaysTurned s (with_front y given)
  turned_more s t y (Ok x) e h = λ turned. h (turned_on turned e)
  turned_more s t y (Err f) e h = tt

  carries_turned : (s : StepState) (r : Turn) → step_turn o s ≡ r → Carries StaysTurned s r
  carries_turned s (Ok (Some y, t)) e = λ given h. turned_more s t y given e h
  carries_turned s (Ok (None, t)) e = λ turned. turned_on turned e
  carries_turned s (Err f) e = tt

  settle_turned : (s : StepState) → StaysTurned s (settle o s)
  settle_turned s =
      pieces_hold StaysTurned step_size (step_turn o) (step_turn-Shortens o)
      (λ t. carries_turned t (step_turn o t) refl) s

  abbrev NextTurned : Result (Option PlainEvent × StepState) Fault → Type 0
  NextTurned (Ok x) = Turned o x.1
  NextTurned (Err f) = Unit {0}

  first_turned : (es : List PlainEvent) (s : StepState) → Turned o s → Turned o (first_pending es s).1
  first_turned [] s turned = turned
  first_turned (e ∷ es) s turned = turned_with es turned

  next_by_turned : (s : StepState) (r : Settled) → StaysTurned s r → Turned o s
      → NextTurned (r >>= λ x. Ok (first_pending x.1.pending x.1))
  next_by_turned s (Ok x) h turned = first_turned x.1.pending x.1 (h turned)
  next_by_turned s (Err f) h turned = tt

  next_turned : (s : StepState) → Turned o s → NextTurned (next_event o s)
  unfolding next_event
  next_turned s turned = next_by_turned s (settle o s) (settle_turned s) turned

  failing_by_turned : (later : StepState → StepState) (s : StepState) (r : Turn)
      → ((t : StepState) → Turned o t → Turned o (later t)) → Turned o s → step_turn o s ≡ r
      → Turned o (failing_by later s r)
  failing_by_turned later s (Ok (Some es, t)) more turned e = more t (turned_on turned e)
  failing_by_turned later s (Ok (None, t)) more turned e = turned
  failing_by_turned later s (Err f) more turned e = turned

  failing_turned : (n : ℕ) (s : StepState) → Turned o s → Turned o (failing_in o n s)
  failing_turned zero s turned = turned
  failing_turned (suc n) s turned =
      failing_by_turned (failing_in o n) s (step_turn o s) (failing_turned n) turned refl

  abbrev EndTurned : SkipEnd → Type 0
  EndTurned (Ended s) = Turned o s
  EndTurned (Failed f s) = Turned o s

  end_if : (b : Bool) (s : StepState) (f : Fault) → Turned o s → EndTurned (if b then Ended s else Failed f s)
  end_if true s f turned = turned
  end_if false s f turned = turned

  skip_turn_turned : (later : StepState → SkipEnd) (s : StepState) (r : Turn)
      → ((t : StepState) → Turned o t → EndTurned (later t)) → Turned o s → step_turn o s ≡ r
      → EndTurned (skip_turn later s r)
  skip_turn_turned later s (Ok (Some es, t)) more turned e = more t (turned_on turned e)
  skip_turn_turned later s (Ok (None, t)) more turned e = turned
  skip_turn_turned later s (Err f) more turned e = end_if (ends_before s f) s f turned

  skip_ahead_turned : (more : StepState → SkipEnd) (s : StepState) (r : Ahead)
      → ((t : StepState) → Turned o t → EndTurned (more t)) → Turned o s → EndTurned (skip_ahead more s r)
  skip_ahead_turned more s NoEnd goes turned = goes (with_pending [] s) (turned_with [] turned)
  skip_ahead_turned more s (BehindDocument es) goes turned = turned_with es turned
  skip_ahead_turned more s (AtStreamEnd es) goes turned = turned_with es turned

  skip_turned : (n : ℕ) (s : StepState) → Turned o s → EndTurned (skip_in o n s)
  skip_turned zero s turned = turned
  skip_turned (suc n) s turned =
      skip_ahead_turned (λ t. skip_turn (skip_in o n) t (step_turn o t)) s (ahead s.pending)
      (λ t x. skip_turn_turned (skip_in o n) t (step_turn o t) (skip_turned n) x refl) turned

  fault_turned : (stop : Here) (s : StepState) → Turned o s → Turned o (behind_fault stop s).1
  fault_turned stop s turned = turned_anew (cursor_at stop s.reading) turned

  restarted_turned : (stop : Here) (x : SkipEnd) → EndTurned x → Turned o (restarted stop x)
  restarted_turned stop (Ended s) turned = turned
  restarted_turned stop (Failed f s) turned = fault_turned stop s turned

  header_turned : (stop : Here) (b : Bool) (x : Bool × StepState) → Turned o x.1
      → Turned o (if b then restarted stop (skip_by_turns o x.1) else x.1)
  header_turned stop true x turned =
      restarted_turned stop (skip_by_turns o x.1) (skip_turned (suc (step_size x.1)) x.1 turned)
  header_turned stop false x turned = turned

  skipped_fault_turned : (stops : Stops) (f : Fault) (s : StepState) → Turned o s
      → Turned o (skipped_fault o stops f s)
  skipped_fault_turned stops f s turned =
      header_turned stops.second (is_in_header o s f && (behind_fault stops.first s).0) (behind_fault stops.first s)
      (fault_turned stops.first s turned)

  skipped_to_turned : (stops : Stops) (x : SkipEnd) → EndTurned x → Turned o (skipped_to o stops x)
  skipped_to_turned stops (Ended s) turned = turned
  skipped_to_turned stops (Failed f s) turned = skipped_fault_turned stops f s turned

  pub skipped_by_turned : (stops : Stops) (fault : Option Fault) (between : Bool) (s : StepState) → Turned o s
      → Turned o (skipped_by o stops fault between s)
  skipped_by_turned stops (Some f) between s turned = skipped_fault_turned stops f s turned
  skipped_by_turned stops None true s turned = turned
  skipped_by_turned stops None false s turned =
      skipped_to_turned stops (skip_by_turns o s) (skip_turned (suc (step_size s)) s turned)

  given_turned : (c : Calls) (r : Result (Option PlainEvent × StepState) Fault) → NextTurned r → Turned o c.steps
      → Turned o (given_by o c r).1.steps
  given_turned c (Ok (Some e, t)) n turned = subst (Turned o) (sym (noted_steps e.kind (record c { steps = t }))) n
  given_turned c (Ok (None, t)) n turned = turned
  given_turned c (Err f) n turned = failing_turned (suc (step_size c.steps)) c.steps turned

  call_if_turned : (b : Bool) (c : Calls) → Turned o c.steps
      → Turned o (if b then (None, c) else given_by o c (next_event o c.steps)).1.steps
  call_if_turned true c turned = turned
  call_if_turned false c turned = given_turned c (next_event o c.steps) (next_turned c.steps turned) turned

  pub call_turned : (c : Calls) → Turned o c.steps → Turned o (next_call o c).1.steps
  unfolding next_call
  call_turned c turned = call_if_turned ((c.over || is_some c.fault) || is_some c.refusal) c turned

  starts_steps : (kind : EventKind) (c : Calls) → (starts_by kind c).steps ≡ c.steps
  starts_steps (DocumentStart explicit version) c = refl
  starts_steps kind c = refl

  pub looked_turned : (c : Calls) (x : GivenByCall × Calls) → Turned o c.steps → Turned o x.1.steps
      → Turned o (looked_by c x).steps
  looked_turned c (Some (Ok e), after) turned behind = subst (Turned o) (sym (starts_steps e.kind c)) turned
  looked_turned c (Some (Err f), after) turned behind = behind
  looked_turned c (None, after) turned behind = turned

  answered_turned : (r : Result Bool Fault) (c : Calls) → Turned o c.steps → Turned o (recovery_answer r c).1.steps
  answered_turned (Ok true) c turned = turned
  answered_turned (Ok false) c turned = turned
  answered_turned (Err f) c turned = turned

  recovers_turned : (b : Bool) (stops : Stops) (extra : ℕ) (c : Calls) → Turned o c.steps
      → Turned o (if b then (Ok false, c) else recovered o extra (skipped o stops c)).1.steps
  recovers_turned true stops extra c turned = turned
  recovers_turned false stops extra c turned =
      answered_turned _ (skipped o stops c) (skipped_by_turned stops c.fault c.between c.steps turned)

  recover_by_turned : (stops : Stops) (looked : Bool) (refusal : Option Fault) (c : Calls) → Turned o c.steps
      → Turned o (recover_with o stops looked refusal c).1.steps
  recover_by_turned stops looked (Some f) c turned = turned
  recover_by_turned stops true None c turned =
      let d = looked_by c (next_call o c) in
      recovers_turned d.over stops (extra_of d (next_call o c).0) d
      (looked_turned c (next_call o c) turned (call_turned c turned))
  recover_by_turned stops false None c turned = recovers_turned c.over stops 0 c turned

  pub recover_turned : (stops : Stops) (looked : Bool) (c : Calls) → Turned o c.steps
      → Turned o (recover o stops looked c).1.steps
  unfolding recover
  recover_turned stops looked c turned = recover_by_turned stops looked c.refusal c turned

  one_turned : (s t : StepState) → OneTurn o s t → Turned o s → Turned o t
  one_turned s t x turned =
      subst (Turned o) (sym x.is)
      (turned_with (s.pending ++ x.behind.pending) (turned_on (turned_with [] turned) x.turn))

  early_turned : (s t : StepState) → EarlyOf o s t → Turned o s → Turned o t
  early_turned s t not_early turned = turned
  early_turned s t (turn_early {t = u} {given = given} p e) turned =
      one_turned u t (one o u t given e) (early_turned s u p turned)

pub reached_turned : (o : OptionsData) (c : Calls) → ReachedByCalls o c → Turned o c.steps
reached_turned o c (reached_start h) = turned_start h
reached_turned o c (reached_call {c = d} r) = call_turned o d (reached_turned o d r)
reached_turned o c (reached_recovery {c = d} stops looked r) =
    recover_turned o stops looked d (reached_turned o d r)
reached_turned o c (reached_early {c = d} {t = t} r early) = early_turned o d.steps t early (reached_turned o d r)
reached_turned o c (reached_counting {c = d} count r) = turned_counting count (reached_turned o d r)
reached_turned o c (reached_keeping keep r) =
    turned_keeping keep (reached_turned (record o { keep_tags = keep }) c r)
