-- The limit of block collections: what passes is a stream that keeps it.
pub use Rattle.granit_grammar.proofs.Tests.{same_left}
use Rattle.std.proofs.Common.{arith, ◌≡◌, ℕ, suc, Bool, true, false, List, [], ◌∷◌, refl, sym, ap, ◌∙◌, subst, None}
use Rattle.std.specs.Prelude.{nat_le}
use Rattle.granit_event_machine.specs.EventMachine.{EventState, Ending, ending, ended_by, EventStep, take_frames}
use Rattle.granit_event_machine.specs.Guarded.{PassesStep, PassesClosed, Passes, limit_guard, limit_fault, fault_unless}
use Rattle.granit_event_machine.specs.Guarded.{is_loose, state_count}
use Rattle.granit_event_machine.specs.OpenWithin.{open_within, open_blocks}
use Rattle.granit_event_machine.specs.PlaceFrames.{state_at}
use Rattle.granit_grammar.specs.TreeMachine.{NextPlace, Go, NotTaken, take, TreeAnswer, ReadAs, RefusedAt, Short}
use Rattle.granit_grammar.specs.TreeMachine.{at_end, tree_goes, parse}
use Rattle.granit_language.specs.FaultKinds.{fault_kind_at}
use Rattle.granit_language.specs.GrammarFault.{GrammarFault, TooManyBlocks}
use Rattle.granit_language.specs.Node.{Stream}
use Rattle.granit_language.specs.OpenEvents.{open_events}
use Rattle.granit_language.specs.OpenPlace.{OpenPlace, Ended, HasOneName}
use Rattle.granit_language.specs.Settling.{settle_place}
use Rattle.granit_language.specs.Terminal.{Terminal}
use Rattle.granit_language.specs.TreeEvents.{TreeEvent}
use Rattle.granit_language.specs.Within.{stream_within}
use Rattle.std.proofs.lemmas.Bool.Decides.{nat_tests}
use Rattle.granit_event_machine.proofs.AgreeClose.{ending_state, close_agrees}
use Rattle.granit_event_machine.proofs.AgreeStep.{StepsTo, goes_to, stops_at, take_agrees}
use Rattle.granit_event_machine.proofs.Withins.{close_keeps, StepKeeps, begins, stays, NextKeeps, take_keeps}
use Rattle.granit_event_machine.proofs.Withins.{close_most}
use Rattle.granit_event_machine.proofs.Withins.{count_same}

pub from_zero : (n : ℕ) → nat_le 0 n ≡ true
from_zero n = grind (arith, nat_tests)

no_read :
    (p : OpenPlace) (s : Stream) (n : ℕ) (b : Bool) → at_end p ≡ ReadAs s → open_within n p ≡ b → stream_within n s ≡ b
no_read (Ended t) s n b e h = let same : t ≡ s = cc (e) in subst (λ s. stream_within n s ≡ b) same h
no_read p s n b e h = absurd cc

pub passed_fault : (b : Bool) (k : GrammarFault) → fault_unless b k ≡ None → b ≡ true
passed_fault true k e = refl
passed_fault false k e = cc (e)

passed_count : (n : ℕ) (p : OpenPlace) → limit_fault n (state_at p) ≡ None → nat_le (open_blocks p) n ≡ true
passed_count n p e =
    subst (λ d. nat_le d n ≡ true) (count_same p)
    (passed_fault (nat_le (state_count (state_at p)) n) (TooManyBlocks (is_loose (state_at p))) e)

count_passes : (n : ℕ) (p : OpenPlace) → nat_le (open_blocks p) n ≡ true → limit_fault n (state_at p) ≡ None
count_passes n p e =
    ap (λ b. fault_unless b (TooManyBlocks (is_loose (state_at p)))) (ap (λ d. nat_le d n) (count_same p) ∙ e)

kept_within :
    (n d : ℕ) (q : OpenPlace) → StepKeeps n true d q → nat_le (open_blocks q) n ≡ true → open_within n q ≡ true
kept_within n d q (begins e c) h = e ∙ (ap (λ k. nat_le k n) (sym c) ∙ h)
kept_within n d q (stays e c) h = e

kept_next : (n d : ℕ) (b : Bool) (m : NextPlace) → b ≡ true → NextKeeps n b d m → NextKeeps n true d m
kept_next n d b m e h = subst (λ b. NextKeeps n b d m) e h

closed_state :
    (n : ℕ) (y : Ending) (x : Terminal) (st : EventState) (P : EventState → Type 0) → ending_state y ≡ st →
    PassesClosed (limit_guard n) y x P → PassesStep (limit_guard n) (take_frames st x.kind x.at) x P
closed_state n (ending st1 es) x st P e h =
    subst (λ st. PassesStep (limit_guard n) (take_frames st x.kind x.at) x P) e h

state_closed :
    (n : ℕ) (y : Ending) (x : Terminal) (st : EventState) (P : EventState → Type 0) → ending_state y ≡ st →
    PassesStep (limit_guard n) (take_frames st x.kind x.at) x P → PassesClosed (limit_guard n) y x P
state_closed n (ending st1 es) x st P e h =
    subst (λ st. PassesStep (limit_guard n) (take_frames st x.kind x.at) x P) (sym e) h

-- ---- what passes keeps the limit

-- what was read keeps the limit, up to an end
abbrev pub answer_within : ℕ → TreeAnswer → Bool
answer_within n (ReadAs s) = stream_within n s
answer_within n (Short q) = open_within n q
answer_within n (RefusedAt q y) = true

end_within : (n : ℕ) (p : OpenPlace) → answer_within n (at_end p) ≡ open_within n p
end_within n (Ended s) = refl
end_within n p = refl

abbrev Onto : ℕ → TreeAnswer → (EventState → Type 0) → (OpenPlace → TreeAnswer) → Type 0
Onto n a P on =
    (q : OpenPlace) → HasOneName q → open_within n q ≡ true → on q ≡ a → P (state_at q) → answer_within n a ≡ true

-- the two machines step alike, whatever was given before and would be refused
abbrev BothStep : EventStep → NextPlace → Type 0
BothStep t m = (f : List TreeEvent → List TreeEvent) × (k : GrammarFault) × StepsTo f k t m

step_both :
    (x : Terminal) (p : OpenPlace) → HasOneName p →
    BothStep (take_frames (state_at p) x.kind x.at) (take p x.kind x.at)
step_both x p i = (open_events x.at.start p, fault_kind_at p x.kind, take_agrees p x.kind x.at i)

passes_step :
    (n d : ℕ) (s : TreeAnswer) (P : EventState → Type 0) (on : OpenPlace → TreeAnswer) → Onto n s P on →
    (p : OpenPlace) (x : Terminal) (t : EventStep) (m : NextPlace) →
    BothStep t m → NextKeeps n true d m → tree_goes m p x on ≡ s → PassesStep (limit_guard n) t x P →
    answer_within n s ≡ true
passes_step n d s P on h p x t m (f, k, goes_to {st = st} {es = es} {q = q} i e g) keeps r passes =
    h q i (kept_within n d q keeps (passed_count n q (subst (λ st. limit_fault n st ≡ None) e passes.0))) r
    (subst P e passes.1)
passes_step n d s P on h p x t m (f, k, stops_at j) keeps r passes = subst (λ a. answer_within n a ≡ true) r refl

pub passes_within : (n : ℕ) (s : TreeAnswer) (xs : List Terminal) → Onto n s (Passes (limit_guard n) xs) (parse xs)
passes_within n s [] p i w r h = subst (λ a. answer_within n a ≡ true) r (end_within n p ∙ w)
passes_within n s (x ∷ xs) p i w r h =
    let a = close_agrees x p i in
    passes_step n (open_blocks (settle_place x p)) s (Passes (limit_guard n) xs) (parse xs) (passes_within n s xs)
    (settle_place x p) x
    (take_frames (state_at (settle_place x p)) x.kind x.at) (take (settle_place x p) x.kind x.at)
    (step_both x (settle_place x p) a.is_open)
    (kept_next n (open_blocks (settle_place x p)) (open_within n (settle_place x p))
    (take (settle_place x p) x.kind x.at)
    (close_keeps n x p ∙ w) (take_keeps n (settle_place x p) x.kind x.at))
    r (closed_state n (ended_by x (state_at p)) x (state_at (settle_place x p)) (Passes (limit_guard n) xs) a.state_is
    h)

-- ---- what keeps the limit passes

-- a limit that is passed stays so
broken_step :
    (n d : ℕ) (s : Stream) (on : OpenPlace → TreeAnswer) (p : OpenPlace) (x : Terminal) →
    ((q : OpenPlace) → open_within n q ≡ false → on q ≡ ReadAs s → stream_within n s ≡ false) → (m : NextPlace) →
    NextKeeps n false d m → tree_goes m p x on ≡ ReadAs s → stream_within n s ≡ false
broken_step n d s on p x h (Go q) (begins e c) r = h q e r
broken_step n d s on p x h (Go q) (stays e c) r = h q e r
broken_step n d s on p x h NotTaken k r = absurd cc

broken :
    (n : ℕ) (s : Stream) (xs : List Terminal) (p : OpenPlace) → open_within n p ≡ false → parse xs p ≡ ReadAs s →
    stream_within n s ≡ false
broken n s [] p w r = no_read p s n false r w
broken n s (x ∷ xs) p w r =
    broken_step n (open_blocks (settle_place x p)) s (parse xs) (settle_place x p) x (broken n s xs)
    (take (settle_place x p) x.kind x.at)
    (subst (λ b. NextKeeps n b (open_blocks (settle_place x p)) (take (settle_place x p) x.kind x.at))
    (close_keeps n x p ∙ w)
    (take_keeps n (settle_place x p) x.kind x.at))
    r

abbrev Back : ℕ → Stream → (EventState → Type 0) → (OpenPlace → TreeAnswer) → Type 0
Back n s P on =
    (q : OpenPlace) → HasOneName q → open_within n q ≡ true → nat_le (open_blocks q) n ≡ true → on q ≡ ReadAs s →
    P (state_at q)

-- a place behind a step keeps the limit, or the stream doesn't
kept_count :
    (n d : ℕ) (q : OpenPlace) → StepKeeps n true d q → nat_le d n ≡ true → (b : Bool) → nat_le (suc d) n ≡ b →
    (open_within n q ≡ false → ⊥) → nat_le (open_blocks q) n ≡ true
kept_count n d q (begins e c) h true t g = ap (λ k. nat_le k n) c ∙ t
kept_count n d q (begins e c) h false t g = absurd (g (e ∙ t))
kept_count n d q (stays e c) h b t g = ap (λ k. nat_le k n) c ∙ h

within_step :
    (n d : ℕ) (s : Stream) (xs : List Terminal) (P : EventState → Type 0) → stream_within n s ≡ true →
    Back n s P (parse xs) →
    (p : OpenPlace) (x : Terminal) (t : EventStep) (m : NextPlace) →
    nat_le d n ≡ true → BothStep t m → NextKeeps n true d m → tree_goes m p x (parse xs) ≡ ReadAs s →
    PassesStep (limit_guard n) t x P
within_step n d s xs P w h p x t m le (f, k, goes_to {st = st} {es = es} {q = q} i e g) keeps r =
    let c = kept_count n d q keeps le (nat_le (suc d) n) refl (λ o. let b = broken n s xs q o r in cc (b, w)) in (
      subst (λ st. limit_fault n st ≡ None) (sym e) (count_passes n q c),
      subst P (sym e) (h q i (kept_within n d q keeps c) c r),
    )
within_step n d s xs P w h p x t m le (f, k, stops_at j) keeps r = tt

pub within_passes :
    (n : ℕ) (s : Stream) → stream_within n s ≡ true → (xs : List Terminal) →
    Back n s (Passes (limit_guard n) xs) (parse xs)
within_passes n s w [] p i o le r = tt
within_passes n s w (x ∷ xs) p i o le r =
    let a = close_agrees x p i in
    state_closed n (ended_by x (state_at p)) x (state_at (settle_place x p)) (Passes (limit_guard n) xs) a.state_is
    (within_step n (open_blocks (settle_place x p)) s xs (Passes (limit_guard n) xs) w (within_passes n s w xs)
    (settle_place x p) x
    (take_frames (state_at (settle_place x p)) x.kind x.at) (take (settle_place x p) x.kind x.at)
    (close_most n x p le)
    (step_both x (settle_place x p) a.is_open)
    (kept_next n (open_blocks (settle_place x p)) (open_within n (settle_place x p))
    (take (settle_place x p) x.kind x.at)
    (close_keeps n x p ∙ o) (take_keeps n (settle_place x p) x.kind x.at))
    r)
