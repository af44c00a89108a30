-- A chain of recoveries that all tell of a document ends.
pub use Rattle.granit_alone.proofs.EndMarks.{told_alone}
pub use Rattle.granit_alone.proofs.AloneLaws.{answer_reads, any_fault_caused, begins_by, caused_by, reads_by}
pub use Rattle.granit_alone.proofs.FaultLaws.{reached_led, recovery_gives}
pub use Rattle.granit_alone.proofs.CallSteps.{goes_by}
use Rattle.std.proofs.Common.{◌⊎◌, ◌+◌, ◌*◌, ◌≡◌, ℕ, zero, suc, ◌<◌, ◌≤◌, ◌||◌, inl, inr, Bool, true, false, Some}
use Rattle.std.proofs.Common.{None, Result, Ok, Err, refl, sym, ap, subst, ◌∙◌, arith}
use Rattle.granit_alone.specs.Lines.{ComesOnward}
use Rattle.granit_chains.proofs.CallsLeft.{early_leaves, CallLeaves, call_event, call_fault, call_leaves, call_none}
use Rattle.granit_chains.proofs.CallsLeft.{LeavesOn}
use Rattle.granit_chains.proofs.Skips.{EventNext, event_comes, event_waits}
use Rattle.granit_chains.proofs.Stuck.{item_refused, read_refused, Stuck}
use Rattle.granit_chains.proofs.Telling.{fault_leaves, leaves_less, leaves_most, never_refused, TellsThere, told}
use Rattle.granit_chains.specs.Chains.{CallsBetween, event_given, fault_given, keeping_tags, state_left}
use Rattle.granit_chains.specs.Chains.{nothing_given, RecoveryChain, chain_ends, chain_goes, turns_made, left_waiting}
use Rattle.granit_chains.specs.Chains.{number_set, TellsOnce}
use Rattle.granit_error.specs.OptionsData.{OptionsData}
use Rattle.granit_lexemes.specs.Here.{Here, text_len}
use Rattle.granit_lexemes.specs.Outcome.{Fault}
use Rattle.granit_lexemes.specs.PlainEvent.{DocumentStart, EventKind, PlainEvent}
use Rattle.granit_recovery.specs.Streams.{calls_from, reached_start, ReachedByCalls, reached_call, reached_counting}
use Rattle.granit_recovery.specs.Streams.{reached_early, reached_keeping, reached_recovery}
use Rattle.granit_restart.specs.Calls.{Calls, GivenByCall, next_call}
use Rattle.granit_restart.specs.Recovery.{looked_by, resumed, starts_by}
use Rattle.granit_restart.specs.Skipping.{Stops}
use Rattle.granit_restart.specs.Turned.{with_count}
use Rattle.granit_alone.specs.Behind.{Led}
use Rattle.granit_alone.specs.Behind.{FitBehind, looked_at}
use Rattle.granit_steps.specs.Steps.{StepState}

-- ---- between two recoveries

-- less is left than there, or no more, and some events wait within a document
abbrev FewerOn : (c d : Calls) → Type 0
FewerOn c d = LeavesOn c.steps d.steps (d.between ≡ false)

-- what was given since recovery told of a document
data Since (c d : Calls) : Bool → Type 0 where
  none_since : d ≡ resumed d.steps → state_left d.steps ≤ state_left c.steps → Since c d false
  event_since : d.fault ≡ None → FewerOn c d → Since c d true
  fault_since : (f : Fault) → d.fault ≡ Some f → Stuck d.steps → state_left d.steps ≤ state_left c.steps
      → Since c d true

pub with_keep : (keep : Bool) (o : OptionsData) (c : Calls) → ReachedByCalls o c
    → ReachedByCalls (keeping_tags keep o) c
with_keep keep o c r = reached_keeping o.keep_tags r

after_call : (keep : Bool) (o : OptionsData) (d after : Calls) (x : GivenByCall) → ReachedByCalls o d
    → next_call (keeping_tags keep o) d ≡ (x, after) → ReachedByCalls o after
after_call keep o d after x r is =
    reached_keeping keep
    (subst (λ (y : GivenByCall × Calls). ReachedByCalls (keeping_tags keep o) y.1) is
    (reached_call (with_keep keep o d r)))

counted_stuck : (count : ℕ) (s : StepState) → Stuck s → Stuck (with_count count s)
counted_stuck count s (item_refused i is queue opens) = item_refused i is queue opens
counted_stuck count s (read_refused some) = read_refused some

counted_since : (count : ℕ) (c d : Calls) (given : Bool) → Since c d given
    → Since c (record d { steps = with_count count d.steps }) given
counted_since count c d given (none_since same most) =
    none_since (ap (λ (x : Calls). record x { steps = with_count count d.steps }) same) most
counted_since count c d given (event_since going p) = event_since going p
counted_since count c d given (fault_since f is st most) = fault_since f is (counted_stuck count d.steps st) most

fewer_left : (c d : Calls) → FewerOn c d → state_left d.steps ≤ state_left c.steps
fewer_left c d (inl p) = omega (arith, p)
fewer_left c d (inr p) = p.0

early_since : (c d : Calls) (t : StepState) (given : Bool) → d.fault ≡ None
    → (state_left t < state_left d.steps) ⊎ (t ≡ d.steps) → Since c d given → Since c (record d { steps = t }) given
early_since c d t given going p (none_since same most) =
    none_since (ap (λ (x : Calls). record x { steps = t }) same) (by p)
  where
    by : (state_left t < state_left d.steps) ⊎ (t ≡ d.steps) → state_left t ≤ state_left c.steps
    by (inl less) = omega (arith, less, most)
    by (inr is) = subst (λ (u : StepState). state_left u ≤ state_left c.steps) (sym is) most
early_since c d t given going (inl less) (event_since other p) =
    let most = fewer_left c d p in event_since other (inl (omega (arith, less, most)))
early_since c d t given going (inr is) (event_since other p) =
    event_since other
    (subst (λ (u : StepState). LeavesOn c.steps u (d.between ≡ false)) (sym is) p)
early_since c d t given going p (fault_since f is st most) =
    absurd (let g : Some f ≡ None = sym is ∙ going in cc)

most_on : (c d after : Calls) → state_left d.steps ≤ state_left c.steps → d.between ≡ false
    → LeavesOn d.steps after.steps (d.between ≡ false → after.between ≡ false) → FewerOn c after
most_on c d after most within (inl p) = inl (omega (arith, most, p))
most_on c d after most within (inr p) = let q = p.0 in inr (omega (arith, most, q), p.1, p.2 within)

fewer_on : (c d after : Calls) → FewerOn c d
    → LeavesOn d.steps after.steps (d.between ≡ false → after.between ≡ false) → FewerOn c after
fewer_on c d after (inl p) (inl q) = inl (omega (arith, p, q))
fewer_on c d after (inl p) (inr q) = let m = q.0 in inl (omega (arith, p, m))
fewer_on c d after (inr p) q = most_on c d after p.0 p.2 q

given_since : (c d after : Calls) (given : Bool) → Since c d given → d.fault ≡ None
    → LeavesOn d.steps after.steps (d.between ≡ false → after.between ≡ false) → FewerOn c after
given_since c d after given (none_since same most) going q =
    most_on c d after most (ap (λ (y : Calls). y.between) same) q
given_since c d after given (event_since other p) going q = fewer_on c d after p q
given_since c d after given (fault_since f is st most) going q =
    absurd (let g : Some f ≡ None = sym is ∙ going in cc)

left_since : (c d : Calls) (given : Bool) → Since c d given → state_left d.steps ≤ state_left c.steps
left_since c d given (none_since same most) = most
left_since c d given (event_since other p) = fewer_left c d p
left_since c d given (fault_since f is st most) = most

given_in : GivenByCall × Calls → GivenByCall
given_in x = x.0

calls_in : GivenByCall × Calls → Calls
calls_in x = x.1

event_stands : (c d after : Calls) (given : Bool) (e : PlainEvent) (o : OptionsData) (x : GivenByCall × Calls)
    → Since c d given → CallLeaves o d x → x ≡ (Some (Ok e), after) → Since c after true
unfolding given_in calls_in
event_stands c d after given e o x s call_none is = absurd (let f : None ≡ Some (Ok e) = ap given_in is in cc)
event_stands c d after given e o x s (call_event g t behind next going none less) is =
    subst (λ (y : Calls). Since c y true) (ap calls_in is)
    (event_since none (given_since c d behind given s going less))
event_stands c d after given e o x s (call_fault f behind going some fails) is =
    absurd (let g : Some (Err f) ≡ Some (Ok e) = ap given_in is in cc)

fault_stands : (c d after : Calls) (given : Bool) (f : Fault) (o : OptionsData) (x : GivenByCall × Calls)
    → Since c d given → CallLeaves o d x → x ≡ (Some (Err f), after) → Since c after true
unfolding given_in calls_in
fault_stands c d after given f o x s call_none is = absurd (let g : None ≡ Some (Err f) = ap given_in is in cc)
fault_stands c d after given f o x s (call_event e t behind next going none less) is =
    absurd (let g : Some (Ok e) ≡ Some (Err f) = ap given_in is in cc)
fault_stands c d after given f o x s (call_fault g behind going some fails) is =
    let most = left_since c d given s in
    let fewer = fails.0 in
    subst (λ (y : Calls). Since c y true) (ap calls_in is) (fault_since g some fails.1 (omega (arith, most, fewer)))

between_reached : (o : OptionsData) (c d : Calls) (given : Bool) → ReachedByCalls o c → CallsBetween o c given d
    → ReachedByCalls o d
between_reached o c d given r nothing_given = r
between_reached o c d given r (number_set {d = b} count before) =
    reached_counting count (between_reached o c b given r before)
between_reached o c d given r (turns_made {d = b} keep before going early) =
    reached_keeping keep
    (reached_early (with_keep keep o b (between_reached o c b given r before)) early)
between_reached o c d given r (event_given {given = more} {d = b} {e = e} keep before is) =
    after_call keep o b d (Some (Ok e)) (between_reached o c b more r before) is
between_reached o c d given r (fault_given {given = more} {d = b} {f = f} keep before is) =
    after_call keep o b d (Some (Err f)) (between_reached o c b more r before) is

stands : (o : OptionsData) (c d : Calls) (given : Bool) → c ≡ resumed c.steps → ReachedByCalls o c
    → CallsBetween o c given d → Since c d given
stands o c d given same r nothing_given = none_since same (omega arith)
stands o c d given same r (number_set {d = b} count before) =
    counted_since count c b given (stands o c b given same r before)
stands o c d given same r (turns_made {d = b} {t = t} keep before going early) =
    early_since c b t given going (early_leaves (keeping_tags keep o) b.steps t early)
    (stands o c b given same r before)
stands o c d given same r (event_given {given = more} {d = b} {e = e} keep before is) =
    let kept = with_keep keep o b (between_reached o c b more r before) in
    event_stands c b d more e (keeping_tags keep o) (next_call (keeping_tags keep o) b)
    (stands o c b more same r before)
    (call_leaves (keeping_tags keep o) b (reached_led (keeping_tags keep o) b kept)) is
stands o c d given same r (fault_given {given = more} {d = b} {f = f} keep before is) =
    let kept = with_keep keep o b (between_reached o c b more r before) in
    fault_stands c b d more f (keeping_tags keep o) (next_call (keeping_tags keep o) b)
    (stands o c b more same r before)
    (call_leaves (keeping_tags keep o) b (reached_led (keeping_tags keep o) b kept)) is

-- ---- one call

call_most : (o : OptionsData) (c : Calls) (x : GivenByCall × Calls) → CallLeaves o c x
    → state_left x.1.steps ≤ state_left c.steps
call_most o c x call_none = omega arith
call_most o c x (call_event e t after next going none (inl less)) = omega (arith, less)
call_most o c x (call_event e t after next going none (inr p)) = p.0
call_most o c x (call_fault f after going some fails) = fails.0

pub calls_most : (o : OptionsData) (c : Calls) → ReachedByCalls o c
    → state_left (next_call o c).1.steps ≤ state_left c.steps
calls_most o c r = call_most o c (next_call o c) (call_leaves o c (reached_led o c r))

-- ---- one recovery

starts_steps : (kind : EventKind) (c : Calls)
    → ((starts_by kind c).steps ≡ c.steps) × ((starts_by kind c).fault ≡ c.fault)
    × (c.between ≡ false → (starts_by kind c).between ≡ false)
starts_steps (DocumentStart explicit version) c = (refl, refl, λ e. refl)
starts_steps kind c = (refl, refl, λ e. e)

pub once_reached : (o : OptionsData) (c d : Calls) → ReachedByCalls o c → TellsOnce o c d → ReachedByCalls o d
once_reached o c d r t =
    reached_keeping t.keep
    (subst (λ (x : Result Bool Fault × Calls). ReachedByCalls (keeping_tags t.keep o) x.1) t.tells
    (reached_recovery t.stops t.looked
    (with_keep t.keep o t.calls (between_reached o c t.calls t.given r t.between))))

pub once_resumed : (o : OptionsData) (c d : Calls) → TellsOnce o c d → d ≡ resumed d.steps
once_resumed o c d t =
    let x = told (keeping_tags t.keep o) t.stops t.looked t.calls d t.tells in
    x.is ∙ ap resumed (sym (ap (λ (y : Calls). y.steps) x.is))

starts_fit : (o : OptionsData) (stops : Stops) (kind : EventKind) (c : Calls) → FitBehind ComesOnward o stops c
    → FitBehind ComesOnward o stops (starts_by kind c)
starts_fit o stops (DocumentStart explicit version) c fits = fits
starts_fit o stops kind c fits = fits

pub looked_fit : (o : OptionsData) (stops : Stops) (c after : Calls) (e : PlainEvent)
    → next_call o c ≡ (Some (Ok e), after) → FitBehind ComesOnward o stops c
    → FitBehind ComesOnward o stops (looked_at o true c)
looked_fit o stops c after e is fits =
    subst (λ (x : GivenByCall × Calls). FitBehind ComesOnward o stops (looked_by c x)) (sym is)
    (starts_fit o stops e.kind c fits)

module _ (gives : (o : OptionsData) (c : Calls) → ReachedByCalls o c → c.over ≡ false → c.fault ≡ None
    → c.refusal ≡ None → (next_call o c).0 ≡ None → ⊥) where
  module _ (o : OptionsData) (stops : Stops) (c d : Calls) where
    -- behind a fault
    fault_less : (b : Calls) (f : Fault) → b.fault ≡ Some f → Stuck b.steps
        → state_left b.steps ≤ state_left c.steps → Led o b.steps
        → FitBehind ComesOnward o stops b → TellsThere o stops b d → state_left d.steps < state_left c.steps
    fault_less b f is st most led fits t =
        let less = fault_leaves o stops b d f is led st fits t in omega (arith, less, most)

    -- within a document of which an event comes
    within_less : (b : Calls) → b.fault ≡ None → b.between ≡ false → Led o b.steps → EventNext o b.steps
        → state_left b.steps ≤ state_left c.steps → FitBehind ComesOnward o stops b → TellsThere o stops b d
        → state_left d.steps < state_left c.steps
    within_less b going within led next most fits t =
        let less = leaves_less o stops b d going within led next fits t in omega (arith, less, most)

    -- behind events that were given
    fewer_less : (b : Calls) → b.fault ≡ None → FewerOn c b → Led o b.steps → FitBehind ComesOnward o stops b
        → TellsThere o stops b d → state_left d.steps < state_left c.steps
    fewer_less b going (inl p) led fits t =
        let most = leaves_most o stops b d going led fits t in omega (arith, p, most)
    fewer_less b going (inr p) led fits t = within_less b going p.2 led (event_waits p.1) p.0 fits t

    -- what was looked at stays
    starts_fewer : (b : Calls) (kind : EventKind) → FewerOn c b → FewerOn c (starts_by kind b)
    starts_fewer b kind (inl p) =
        inl (subst (λ (s : StepState). state_left s < state_left c.steps) (sym (starts_steps kind b).0) p)
    starts_fewer b kind (inr p) =
        let k = starts_steps kind b in
        inr (
          subst (λ (s : StepState). state_left s ≤ state_left c.steps) (sym k.0) p.0,
          subst (λ (s : StepState). 1 ≤ left_waiting s.pending) (sym k.0) p.1,
          k.2 p.2,
        )

    -- where the next event was looked at, and maybe more were given
    looked_less : (b : Calls) (given : Bool) (x : GivenByCall × Calls) → Since c b given → CallLeaves o b x
        → ReachedByCalls o b → next_call o b ≡ x → Led o x.1.steps → Led o b.steps
        → FitBehind ComesOnward o stops (looked_by b x) → TellsThere o stops (looked_by b x) d
        → state_left d.steps < state_left c.steps
    looked_less b given x (none_since same most) call_none r is led_x led fits t =
        absurd (gives o b r (ap (λ (y : Calls). y.over) same) (ap (λ (y : Calls). y.fault) same)
        (ap (λ (y : Calls). y.refusal) same) (ap (λ (y : GivenByCall × Calls). y.0) is))
    looked_less b given x (event_since going p) call_none r is led_x led fits t = fewer_less b going p led fits t
    looked_less b given x (fault_since f some st most) call_none r is led_x led fits t =
        fault_less b f some st most led fits t
    looked_less b given x (none_since same most) (call_event e u after next going none p) r is led_x led fits t =
        let k = starts_steps e.kind b in
        within_less (starts_by e.kind b) (k.1 ∙ going) (k.2 (ap (λ (y : Calls). y.between) same))
        (subst (Led o) (sym k.0) led) (subst (EventNext o) (sym k.0) (event_comes next))
        (subst (λ (s : StepState). state_left s ≤ state_left c.steps) (sym k.0) most) fits t
    looked_less b given x (event_since other p) (call_event e u after next going none q) r is led_x led fits t =
        let k = starts_steps e.kind b in
        fewer_less (starts_by e.kind b) (k.1 ∙ going) (starts_fewer b e.kind p) (subst (Led o) (sym k.0) led) fits t
    looked_less b given x (fault_since f some st most) (call_event e u after next going none p) r is led_x led fits t =
        absurd (let g : Some f ≡ None = sym some ∙ going in cc)
    looked_less b given x s (call_fault f after going some fails) r is led_x led fits t =
        let most = left_since c b given s in
        let fewer = fails.0 in
        fault_less after f some fails.1 (omega (arith, most, fewer)) led_x fits t

    unlooked_less : (b : Calls) → Since c b true → Led o b.steps → FitBehind ComesOnward o stops b
        → TellsThere o stops b d
        → state_left d.steps < state_left c.steps
    unlooked_less b (event_since going p) led fits t = fewer_less b going p led fits t
    unlooked_less b (fault_since f some st most) led fits t = fault_less b f some st most led fits t

    asked_less : (looked given : Bool) (b : Calls) → (given || looked) ≡ true → Since c b given → ReachedByCalls o b
        → FitBehind ComesOnward o stops (looked_at o looked b) → TellsThere o stops (looked_at o looked b) d
        → state_left d.steps < state_left c.steps
    asked_less true given b asks s r fits t =
        looked_less b given (next_call o b) s (call_leaves o b (reached_led o b r)) r refl
        (reached_led o (next_call o b).1 (reached_call r)) (reached_led o b r) fits t
    asked_less false true b asks s r fits t = unlooked_less b s (reached_led o b r) fits t
    asked_less false false b asks s r fits t = absurd (cc)

  pub once_less : (o : OptionsData) (c d : Calls) → ReachedByCalls o c → c ≡ resumed c.steps → TellsOnce o c d
      → state_left d.steps < state_left c.steps
  once_less o c d r same t =
      asked_less (keeping_tags t.keep o) t.stops c d t.looked t.given t.calls t.asks
      (stands o c t.calls t.given same r t.between)
      (with_keep t.keep o t.calls (between_reached o c t.calls t.given r t.between))
      (t.fits (never_refused (keeping_tags t.keep o) t.stops t.looked t.calls d t.tells))
      (told (keeping_tags t.keep o) t.stops t.looked t.calls d t.tells)

  -- ---- a chain

  pub chain_less : (o : OptionsData) (n : ℕ) (c d : Calls) → ReachedByCalls o c → c ≡ resumed c.steps
      → RecoveryChain o n c d
      → n + state_left d.steps ≤ state_left c.steps
  chain_less o n c d r same chain_ends = omega arith
  chain_less o n c d r same (chain_goes {n = m} {d = b} once more) =
      let less = once_less o c b r same once in
      let rest = chain_less o m b d (once_reached o c b r once) (once_resumed o c b once) more in
      omega (arith, less, rest)

  pub chain_most : (o : OptionsData) (n : ℕ) (h : Here) (d : Calls) → RecoveryChain o n (calls_from h) d
      → n ≤ 9 * text_len h + 11
  chain_most o n h d chain = let p = chain_less o n (calls_from h) d (reached_start h) refl chain in omega (arith, p)

  module _ (o : OptionsData) (f : ℕ → Calls) (start : ReachedByCalls o (f 0))
      (once : (n : ℕ) → TellsOnce o (f n) (f (suc n))) where
    reached_at : (n : ℕ) → ReachedByCalls o (f n)
    reached_at zero = start
    reached_at (suc n) = once_reached o (f n) (f (suc n)) (reached_at n) (once n)

    -- so much is left anywhere
    some_left : (n k : ℕ) → n ≤ state_left (f (suc k)).steps
    some_left zero k = omega arith
    some_left (suc n) k =
        let less = once_less o (f (suc k)) (f (suc (suc k))) (reached_at (suc k))
        (once_resumed o (f k) (f (suc k)) (once k)) (once (suc k)) in
        let rest = some_left n (suc k) in omega (arith, less, rest)

    pub no_chain : ⊥
    no_chain = let p = some_left (suc (state_left (f 1).steps)) 0 in omega (arith, p)
