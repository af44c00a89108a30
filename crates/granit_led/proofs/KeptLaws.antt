-- What turns and restarts behind faults keep is kept by each call and each recovery.
use Rattle.std.proofs.Common.{◌≡◌, ℕ, zero, suc, ◌||◌, ◌&&◌, Bool, true, false, List, [], ◌∷◌, Option, Some, None}
use Rattle.std.proofs.Common.{Result, Ok}
use Rattle.std.proofs.Common.{Err, refl}
use Rattle.std.specs.Prelude.{if◌then◌else◌, is_some}
use Rattle.granit_error.specs.OptionsData.{OptionsData}
use Rattle.granit_lexemes.specs.Here.{Here}
use Rattle.granit_lexemes.specs.Outcome.{Fault, ◌>>=◌}
use Rattle.granit_lexemes.specs.Pieces.{with_front, then_more, turns, pieces}
use Rattle.granit_lexemes.specs.PlainEvent.{PlainEvent, EventKind, StreamEnd, DocumentStart, DocumentEnd}
use Rattle.granit_restart.specs.Calls.{Calls, GivenByCall, failing_by, failing_in, given_by, next_call, noted}
use Rattle.granit_restart.specs.Recovery.{extra_of, looked_by, recover, recover_with, recovered, recovery_answer}
use Rattle.granit_restart.specs.Recovery.{skipped, skipped_by, starts_by}
use Rattle.granit_restart.specs.Header.{is_in_header}
use Rattle.granit_restart.specs.Restart.{behind_fault}
use Rattle.granit_restart.specs.Skipping.{Ahead, NoEnd, BehindDocument, AtStreamEnd, SkipEnd, Ended, Failed, Stops}
use Rattle.granit_restart.specs.Skipping.{ahead}
use Rattle.granit_restart.specs.Skipping.{ends_before, restarted, skip_by_turns, skip_ahead, skip_in, skip_turn}
use Rattle.granit_restart.specs.Skipping.{skipped_fault, skipped_to, with_pending}
use Rattle.granit_steps.specs.Steps.{StepState, Turn, first_pending, next_event, settle, step_size, step_turn}
use Rattle.granit_led.specs.Stopping.{DropFits, EndFits, FaultFits, FitBehind, looked_at, StopsFit}

module _ (o : OptionsData) (P : StepState → Type 0) (Fits : Here → StepState → Type 0)
    (turn : (s t : StepState) (given : Option (List PlainEvent)) → step_turn o s ≡ Ok (given, t) → P s → P t)
    (others : (s : StepState) (es : List PlainEvent) → P s → P (with_pending es s))
    (anew : (stop : Here) (s : StepState) → Fits stop s → P s → P (behind_fault stop s).1) where
  abbrev TurnKept : Turn → Type 0
  TurnKept (Ok x) = P x.1
  TurnKept (Err f) = Unit {0}

  turn_by : (s : StepState) (r : Turn) → step_turn o s ≡ r → P s → TurnKept r
  turn_by s (Ok (given, t)) e kept = turn s t given e kept
  turn_by s (Err f) e kept = tt

  turn_kept : (s : StepState) → P s → TurnKept (step_turn o s)
  turn_kept s kept = turn_by s (step_turn o s) refl kept

  -- ---- a call

  abbrev AllKept : Result (List PlainEvent × StepState) Fault → Type 0
  AllKept (Ok x) = P x.1
  AllKept (Err f) = Unit {0}

  front_kept : (es : List PlainEvent) (r : Result (List PlainEvent × StepState) Fault) → AllKept r
      → AllKept (with_front es r)
  front_kept es (Ok x) kept = kept
  front_kept es (Err f) kept = tt

  then_kept : (k : StepState → Result (List PlainEvent × StepState) Fault)
      → ((s : StepState) → P s → AllKept (k s)) → (r : Turn) → TurnKept r
      → AllKept (r >>= λ x. then_more k x.0 x.1)
  then_kept k h (Ok (None, t)) kept = kept
  then_kept k h (Ok (Some es, t)) kept = front_kept es (k t) (h t kept)
  then_kept k h (Err f) kept = tt

  turns_kept : (n : ℕ) (s : StepState) → P s → AllKept (turns (step_turn o) n s)
  unfolding turns
  turns_kept zero s kept = kept
  turns_kept (suc n) s kept = then_kept (turns (step_turn o) n) (turns_kept n) (step_turn o s) (turn_kept s kept)

  abbrev pub CallKept : Result (Option PlainEvent × StepState) Fault → Type 0
  CallKept (Ok x) = P x.1
  CallKept (Err f) = Unit {0}

  first_kept : (es : List PlainEvent) (s : StepState) → P s → P (first_pending es s).1
  first_kept [] s kept = kept
  first_kept (e ∷ es) s kept = others s es kept

  call_by : (r : Result (List PlainEvent × StepState) Fault) → AllKept r
      → CallKept (r >>= λ x. Ok (first_pending x.1.pending x.1))
  call_by (Ok x) kept = first_kept x.1.pending x.1 kept
  call_by (Err f) kept = tt

  event_kept : (s : StepState) → P s → CallKept (next_event o s)
  unfolding next_event pieces
  event_kept s kept = call_by (settle o s) (turns_kept (suc (step_size s)) s kept)

  failing_kept : (n : ℕ) (s : StepState) → P s → P (failing_in o n s)
  failing_kept zero s kept = kept
  failing_kept (suc n) s kept = on (step_turn o s) (turn_kept s kept) (failing_kept n)
    where
      on : (r : Turn) → TurnKept r → ((t : StepState) → P t → P (failing_in o n t))
          → P (failing_by (failing_in o n) s r)
      on (Ok (Some es, t)) is more = more t is
      on (Ok (None, t)) is more = kept
      on (Err f) is more = kept

  abbrev pub Stands : Calls → Type 0
  Stands c = P c.steps

  noted_kept : (kind : EventKind) (c : Calls) → Stands c → Stands (noted kind c)
  noted_kept (DocumentStart explicit version) c kept = kept
  noted_kept DocumentEnd c kept = kept
  noted_kept StreamEnd c kept = kept
  noted_kept kind c kept = kept

  given_kept : (c : Calls) (r : Result (Option PlainEvent × StepState) Fault) → Stands c → CallKept r
      → Stands (given_by o c r).1
  given_kept c (Ok (Some e, after)) kept is = noted_kept e.kind (record c { steps = after }) is
  given_kept c (Ok (None, after)) kept is = kept
  given_kept c (Err f) kept is = failing_kept (suc (step_size c.steps)) c.steps kept

  pub next_kept : (c : Calls) → Stands c → Stands (next_call o c).1
  unfolding next_call
  next_kept c kept = on ((c.over || is_some c.fault) || is_some c.refusal)
    where
      on : (b : Bool) → Stands (if b then (None, c) else given_by o c (next_event o c.steps)).1
      on true = kept
      on false = given_kept c (next_event o c.steps) kept (event_kept c.steps kept)

  -- ---- what is dropped

  abbrev pub SkipKept : SkipEnd → Type 0
  SkipKept (Ended s) = P s
  SkipKept (Failed f s) = P s

  fault_kept : (b : Bool) (f : Fault) (s : StepState) → P s → SkipKept (if b then Ended s else Failed f s)
  fault_kept true f s kept = kept
  fault_kept false f s kept = kept

  skip_turn_kept : (n : ℕ) (s : StepState) (r : Turn) → ((t : StepState) → P t → SkipKept (skip_in o n t))
      → TurnKept r → P s → SkipKept (skip_turn (skip_in o n) s r)
  skip_turn_kept n s (Ok (Some es, t)) more is kept = more t is
  skip_turn_kept n s (Ok (None, t)) more is kept = kept
  skip_turn_kept n s (Err f) more is kept = fault_kept (ends_before s f) f s kept

  skip_in_kept : (n : ℕ) (s : StepState) → P s → SkipKept (skip_in o n s)
  skip_in_kept zero s kept = kept
  skip_in_kept (suc n) s kept = on (ahead s.pending) (skip_in_kept n)
    where
      on : (a : Ahead) → ((t : StepState) → P t → SkipKept (skip_in o n t))
          → SkipKept (skip_ahead (λ t. skip_turn (skip_in o n) t (step_turn o t)) s a)
      on NoEnd more =
          let t = with_pending [] s in
          skip_turn_kept n t (step_turn o t) more (turn_kept t (others s [] kept)) (others s [] kept)
      on (BehindDocument es) more = others s es kept
      on (AtStreamEnd es) more = others s es kept

  pub skip_kept : (s : StepState) → P s → SkipKept (skip_by_turns o s)
  skip_kept s kept = skip_in_kept (suc (step_size s)) s kept

  restarted_kept : (stop : Here) (e : SkipEnd) → EndFits Fits stop e → SkipKept e → P (restarted stop e)
  restarted_kept stop (Ended s) fits kept = kept
  restarted_kept stop (Failed f s) fits kept = anew stop s fits kept

  header_kept : (b : Bool) (stop : Here) (s : StepState) → EndFits Fits stop (skip_by_turns o s) → P s
      → P (if b then restarted stop (skip_by_turns o s) else s)
  header_kept true stop s fits kept = restarted_kept stop (skip_by_turns o s) fits (skip_kept s kept)
  header_kept false stop s fits kept = kept

  fault_skipped : (stops : Stops) (f : Fault) (s : StepState) → FaultFits Fits o stops s → P s
      → P (skipped_fault o stops f s)
  fault_skipped stops f s fits kept =
      header_kept (is_in_header o s f && (behind_fault stops.first s).0) stops.second (behind_fault stops.first s).1
      fits.1 (anew stops.first s fits.0 kept)

  to_kept : (stops : Stops) (e : SkipEnd) → DropFits Fits o stops e → SkipKept e → P (skipped_to o stops e)
  to_kept stops (Ended s) fits kept = kept
  to_kept stops (Failed f s) fits kept = fault_skipped stops f s fits kept

  by_kept : (stops : Stops) (f : Option Fault) (between : Bool) (s : StepState) → StopsFit Fits o stops f s → P s
      → P (skipped_by o stops f between s)
  by_kept stops (Some f) between s fits kept = fault_skipped stops f s fits kept
  by_kept stops None true s fits kept = kept
  by_kept stops None false s fits kept = to_kept stops (skip_by_turns o s) fits (skip_kept s kept)

  -- ---- recovery

  answered_kept : (r : Result Bool Fault) (c : Calls) → Stands c → Stands (recovery_answer r c).1
  answered_kept (Ok true) c kept = kept
  answered_kept (Ok false) c kept = kept
  answered_kept (Err f) c kept = kept

  recovered_kept : (stops : Stops) (extra : ℕ) (c : Calls) → StopsFit Fits o stops c.fault c.steps → Stands c
      → Stands (recovered o extra (skipped o stops c)).1
  recovered_kept stops extra c fits kept =
      answered_kept _ (skipped o stops c) (by_kept stops c.fault c.between c.steps fits kept)

  starts_kept : (kind : EventKind) (c : Calls) → Stands c → Stands (starts_by kind c)
  starts_kept (DocumentStart explicit version) c kept = kept
  starts_kept kind c kept = kept

  looked_kept : (c : Calls) (x : GivenByCall × Calls) → Stands c → Stands x.1 → Stands (looked_by c x)
  looked_kept c (Some (Ok e), after) kept is = starts_kept e.kind c kept
  looked_kept c (Some (Err f), after) kept is = is
  looked_kept c (None, after) kept is = kept

  over_kept : (b : Bool) (stops : Stops) (extra : ℕ) (c : Calls) → (b ≡ false → StopsFit Fits o stops c.fault c.steps)
      → Stands c → Stands (if b then (Ok false, c) else recovered o extra (skipped o stops c)).1
  over_kept true stops extra c fits kept = kept
  over_kept false stops extra c fits kept = recovered_kept stops extra c (fits refl) kept

  with_kept : (stops : Stops) (looked : Bool) (refusal : Option Fault) (c : Calls)
      → FitBehind Fits o stops (looked_at o looked c) → Stands c → Stands (recover_with o stops looked refusal c).1
  with_kept stops looked (Some f) c fits kept = kept
  with_kept stops true None c fits kept =
      let d = looked_by c (next_call o c) in
      over_kept d.over stops (extra_of d (next_call o c).0) d fits
      (looked_kept c (next_call o c) kept (next_kept c kept))
  with_kept stops false None c fits kept = over_kept c.over stops 0 c fits kept

  pub recover_kept : (stops : Stops) (looked : Bool) (c : Calls) → FitBehind Fits o stops (looked_at o looked c)
      → Stands c → Stands (recover o stops looked c).1
  unfolding recover
  recover_kept stops looked c fits kept = with_kept stops looked c.refusal c fits kept
