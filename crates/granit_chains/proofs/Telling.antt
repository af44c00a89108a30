-- What a recovery leaves that tells of a document.
use Rattle.std.proofs.Common.{◌≤◌, ◌≡◌, ℕ, ◌+◌, ◌<◌, Bool, true, false, Option, Some, None, Result, Ok, Err, refl}
use Rattle.std.proofs.Common.{sym, ap, subst, arith}
use Rattle.std.specs.Prelude.{if◌then◌else◌}
use Rattle.granit_alone.specs.Lines.{ComesOnward}
use Rattle.granit_chains.proofs.Skips.{EventNext, document_less, document_most, fault_less}
use Rattle.granit_chains.proofs.Stuck.{Stuck}
use Rattle.granit_chains.specs.Chains.{state_left}
use Rattle.granit_error.specs.OptionsData.{OptionsData}
use Rattle.granit_lexemes.specs.Outcome.{Fault}
use Rattle.granit_restart.specs.Calls.{Calls, next_call}
use Rattle.granit_restart.specs.Following.{document_follows}
use Rattle.granit_restart.specs.Recovery.{extra_of, looked_by, recover, recovered, recovery_answer, recover_with}
use Rattle.granit_restart.specs.Recovery.{resumed, skipped, skipped_by}
use Rattle.granit_restart.specs.Skipping.{Stops}
use Rattle.granit_alone.specs.Behind.{Led}
use Rattle.granit_alone.specs.Behind.{FitBehind, looked_at, StopsFit}
use Rattle.granit_steps.specs.Steps.{StepState}

-- it goes on from here, and a document follows there
pub record TellsThere (o : OptionsData) (stops : Stops) (b d : Calls) : Type 0 where
  pub over : b.over ≡ false
  pub is : d ≡ resumed (skipped_by o stops b.fault b.between b.steps)
  pub room : ℕ
  pub follows : document_follows o room (skipped_by o stops b.fault b.between b.steps) ≡ Ok true

calls_in : Result Bool Fault × Calls → Calls
calls_in x = x.1

answer_in : Result Bool Fault × Calls → Result Bool Fault
answer_in x = x.0

answered : (r : Result Bool Fault) (c d : Calls) → recovery_answer r c ≡ (Ok true, d) → (r ≡ Ok true) × (d ≡ c)
unfolding calls_in answer_in
answered (Ok true) c d e = (refl, sym (ap calls_in e))
answered (Ok false) c d e = absurd (let f : Ok false ≡ Ok true = ap answer_in e in cc)
answered (Err f) c d e = absurd (let g : Err f ≡ Ok true = ap answer_in e in cc)

told_by : (o : OptionsData) (stops : Stops) (extra : ℕ) (over : Bool) (b d : Calls) → b.over ≡ over
    → (if over then (Ok false, b) else recovered o extra (skipped o stops b)) ≡ (Ok true, d) → TellsThere o stops b d
unfolding answer_in
told_by o stops extra true b d is e = absurd (let f : Ok false ≡ Ok true = ap answer_in e in cc)
told_by o stops extra false b d is e =
    let x = answered (document_follows o (o.max_buffered_comment_events + extra) (skipped o stops b).steps)
    (skipped o stops b) d e in
    record { over = is; is = x.1; room = o.max_buffered_comment_events + extra; follows = x.0 }

told_with : (o : OptionsData) (stops : Stops) (looked : Bool) (refusal : Option Fault) (c d : Calls)
    → recover_with o stops looked refusal c ≡ (Ok true, d) → TellsThere o stops (looked_at o looked c) d
unfolding answer_in
told_with o stops looked (Some f) c d e = absurd (let g : Err f ≡ Ok true = ap answer_in e in cc)
told_with o stops true None c d e =
    let b = looked_by c (next_call o c) in
    told_by o stops (extra_of b (next_call o c).0) b.over b d refl e
told_with o stops false None c d e = told_by o stops 0 c.over c d refl e

pub told : (o : OptionsData) (stops : Stops) (looked : Bool) (c d : Calls) → recover o stops looked c ≡ (Ok true, d)
    → TellsThere o stops (looked_at o looked c) d
unfolding recover
told o stops looked c d e = told_with o stops looked c.refusal c d e

unrefused : (o : OptionsData) (stops : Stops) (looked : Bool) (refusal : Option Fault) (c d : Calls)
    → recover_with o stops looked refusal c ≡ (Ok true, d) → refusal ≡ None
unfolding answer_in
unrefused o stops looked (Some f) c d e = absurd (let g : Err f ≡ Ok true = ap answer_in e in cc)
unrefused o stops looked None c d e = refl

-- nor was recovery ever refused
pub never_refused : (o : OptionsData) (stops : Stops) (looked : Bool) (c d : Calls)
    → recover o stops looked c ≡ (Ok true, d) → c.refusal ≡ None
unfolding recover
never_refused o stops looked c d e = unrefused o stops looked c.refusal c d e

-- ---- what it leaves

fault_by : (o : OptionsData) (stops : Stops) (fault : Option Fault) (between : Bool) (s : StepState) (f : Fault)
    (room : ℕ) → fault ≡ Some f → Led o s → Stuck s → StopsFit ComesOnward o stops fault s
    → document_follows o room (skipped_by o stops fault between s) ≡ Ok true
    → state_left (skipped_by o stops fault between s) < state_left s
fault_by o stops (Some g) between s f room is led st fits follows = fault_less o stops g s room led st fits follows
fault_by o stops None between s f room is led st fits follows = absurd (cc)

-- behind a fault that was given
pub fault_leaves : (o : OptionsData) (stops : Stops) (b d : Calls) (f : Fault) → b.fault ≡ Some f → Led o b.steps
    → Stuck b.steps → FitBehind ComesOnward o stops b → TellsThere o stops b d → state_left d.steps < state_left b.steps
fault_leaves o stops b d f is led st fits t =
    let less = fault_by o stops b.fault b.between b.steps f t.room is led st (fits t.over) t.follows in
    subst (λ (c : Calls). state_left c.steps < state_left b.steps) (sym t.is) less

most_by : (o : OptionsData) (stops : Stops) (fault : Option Fault) (between : Bool) (s : StepState) (room : ℕ)
    → fault ≡ None → Led o s → StopsFit ComesOnward o stops fault s
    → document_follows o room (skipped_by o stops fault between s) ≡ Ok true
    → state_left (skipped_by o stops fault between s) ≤ state_left s
most_by o stops (Some f) between s room is led fits follows = absurd (cc)
most_by o stops None true s room is led fits follows = omega arith
most_by o stops None false s room is led fits follows = document_most o stops s room led fits follows

-- where no fault was given
pub leaves_most : (o : OptionsData) (stops : Stops) (b d : Calls) → b.fault ≡ None → Led o b.steps
    → FitBehind ComesOnward o stops b → TellsThere o stops b d → state_left d.steps ≤ state_left b.steps
leaves_most o stops b d is led fits t =
    let most = most_by o stops b.fault b.between b.steps t.room is led (fits t.over) t.follows in
    subst (λ (c : Calls). state_left c.steps ≤ state_left b.steps) (sym t.is) most

less_by : (o : OptionsData) (stops : Stops) (fault : Option Fault) (between : Bool) (s : StepState) (room : ℕ)
    → fault ≡ None → between ≡ false → Led o s → EventNext o s → StopsFit ComesOnward o stops fault s
    → document_follows o room (skipped_by o stops fault between s) ≡ Ok true
    → state_left (skipped_by o stops fault between s) < state_left s
less_by o stops (Some f) between s room is within led next fits follows = absurd (cc)
less_by o stops None true s room is within led next fits follows = absurd (cc)
less_by o stops None false s room is within led next fits follows = document_less o stops s room led next fits follows

-- nor directly behind a document, and an event comes next
pub leaves_less : (o : OptionsData) (stops : Stops) (b d : Calls) → b.fault ≡ None → b.between ≡ false
    → Led o b.steps → EventNext o b.steps → FitBehind ComesOnward o stops b → TellsThere o stops b d
    → state_left d.steps < state_left b.steps
leaves_less o stops b d is within led next fits t =
    let less = less_by o stops b.fault b.between b.steps t.room is within led next (fits t.over) t.follows in
    subst (λ (c : Calls). state_left c.steps < state_left b.steps) (sym t.is) less
