-- What recovery drops where it told of a document and nothing was given since.
use Rattle.std.proofs.Common.{◌≡◌, Bool, true, false, Option, Some, None, Result, Ok, Err, refl, sym, ap, subst, ◌∙◌}
use Rattle.std.specs.Prelude.{if◌then◌else◌}
use Rattle.granit_error.specs.OptionsData.{OptionsData}
use Rattle.granit_lexemes.specs.Outcome.{Fault}
use Rattle.granit_lexemes.specs.PlainEvent.{DocumentStart, EventKind, PlainEvent}
use Rattle.granit_restart.specs.Calls.{Calls, failing, given_by, GivenByCall, next_call}
use Rattle.granit_restart.specs.Recovery.{extra_of, looked_by, recover, recovered, recovery_answer, recover_with}
use Rattle.granit_restart.specs.Recovery.{resumed, skipped, skipped_by, starts_by}
use Rattle.granit_restart.specs.Skipping.{skipped_document, skipped_fault, Stops}
use Rattle.granit_steps.specs.Steps.{StepState, next_event}

-- ---- where it told of a document

abbrev Told : Result Bool Fault × Calls → Type 0
Told (Ok true, d) = d ≡ resumed d.steps
Told (Ok false, d) = Unit {0}
Told (Err f, d) = Unit {0}

answered_told : (r : Result Bool Fault) (s : StepState) → Told (recovery_answer r (resumed s))
answered_told (Ok true) s = refl
answered_told (Ok false) s = tt
answered_told (Err f) s = tt

told_if : (b : Bool) (o : OptionsData) (stops : Stops) (extra : _) (c : Calls)
    → Told (if b then (Ok false, c) else recovered o extra (skipped o stops c))
told_if true o stops extra c = tt
told_if false o stops extra c = answered_told _ (skipped_by o stops c.fault c.between c.steps)

told_with : (o : OptionsData) (stops : Stops) (looked : Bool) (refusal : Option Fault) (c : Calls)
    → Told (recover_with o stops looked refusal c)
told_with o stops looked (Some f) c = tt
told_with o stops true None c =
    let d = looked_by c (next_call o c) in told_if d.over o stops (extra_of d (next_call o c).0) d
told_with o stops false None c = told_if c.over o stops 0 c

told_by : (o : OptionsData) (stops : Stops) (looked : Bool) (c : Calls) → Told (recover o stops looked c)
unfolding recover
told_by o stops looked c = told_with o stops looked c.refusal c

-- reading goes on there, and nothing was given yet
pub told_resumed : (o : OptionsData) (stops : Stops) (looked : Bool) (c d : Calls)
    → recover o stops looked c ≡ (Ok true, d) → d ≡ resumed d.steps
told_resumed o stops looked c d e = subst Told e (told_by o stops looked c)

-- ---- by what comes next

starts_same : (kind : EventKind) (s : StepState) → starts_by kind (resumed s) ≡ resumed s
starts_same (DocumentStart explicit version) s = refl
starts_same kind s = refl

-- an event: the document goes
pub event_drops : (o : OptionsData) (stops : Stops) (s : StepState) (e : PlainEvent) (after : Calls)
    → next_call o (resumed s) ≡ (Some (Ok e), after)
    → recover o stops true (resumed s) ≡ recovered o 0 (resumed (skipped_document o stops s))
unfolding recover
event_drops o stops s e after call =
    ap (λ (x : GivenByCall × Calls). if (looked_by (resumed s) x).over then (Ok false, looked_by (resumed s) x)
    else recovered o (extra_of (looked_by (resumed s) x) x.0) (skipped o stops (looked_by (resumed s) x))) call
    ∙ ap (λ (d : Calls). if d.over then (Ok false, d) else recovered o (extra_of d (Some (Ok e))) (skipped o stops d))
    (starts_same e.kind s)

-- where a call failed
abbrev failed_at : StepState → Fault → Calls
failed_at s f = record (resumed s) { fault = Some f }

abbrev FailsAs : OptionsData → StepState → Fault → GivenByCall × Calls → Type 0
FailsAs o s f (Some (Err g), after) = g ≡ f → after ≡ failed_at (failing o s) f
FailsAs o s f (Some (Ok e), after) = Unit {0}
FailsAs o s f (None, after) = Unit {0}

given_fails : (o : OptionsData) (s : StepState) (f : Fault) (r : Result (Option PlainEvent × StepState) Fault)
    → FailsAs o s f (given_by o (resumed s) r)
given_fails o s f (Ok (Some e, t)) = tt
given_fails o s f (Ok (None, t)) = tt
given_fails o s f (Err g) = λ same. ap (failed_at (failing o s)) same

call_fails : (o : OptionsData) (s : StepState) (f : Fault) → FailsAs o s f (next_call o (resumed s))
unfolding next_call
call_fails o s f = given_fails o s f (next_event o s)

fault_drops_by : (o : OptionsData) (stops : Stops) (looked : Bool) (s : StepState) (f : Fault)
    → recover o stops looked (failed_at s f) ≡ recovered o 0 (resumed (skipped_fault o stops f s))
unfolding recover next_call
fault_drops_by o stops true s f = refl
fault_drops_by o stops false s f = refl

-- a fault: what it spoils goes
pub refusal_drops : (o : OptionsData) (stops : Stops) (looked : Bool) (s : StepState) (f : Fault) (after : Calls)
    → next_call o (resumed s) ≡ (Some (Err f), after)
    → recover o stops looked after ≡ recovered o 0 (resumed (skipped_fault o stops f after.steps))
refusal_drops o stops looked s f after call =
    let is : after ≡ failed_at (failing o s) f = subst (FailsAs o s f) call (call_fails o s f) refl in
    subst (λ (d : Calls). recover o stops looked d ≡ recovered o 0 (resumed (skipped_fault o stops f d.steps)))
    (sym is) (fault_drops_by o stops looked (failing o s) f)
