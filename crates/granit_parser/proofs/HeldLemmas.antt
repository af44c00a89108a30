-- A refusal that waits while the option or the number is set: it is given behind what waits, and counts as given.
use Rattle.std.proofs.Common.{◌≡◌, inl, inr, ℕ, Bool, true, false, ◌||◌, List, [], ◌∷◌, Some, None, Result, Ok, Err}
use Rattle.std.proofs.Common.{refl, sym, ap, subst, ◌∙◌}
use Rattle.granit_base.specs.Place.{Unread}
use Rattle.granit_base.specs.declared.place.Span.{Span}
use Rattle.granit_error.specs.FaultKind.{NoMemory}
use Rattle.granit_error.specs.OptionsData.{OptionsData}
use Rattle.granit_error.specs.Refused.{Refused}
use Rattle.granit_event.specs.Events.{plain_event}
use Rattle.granit_event.specs.declared.event.Event.{Event}
use Rattle.granit_lexemes.specs.Outcome.{Fault}
use Rattle.granit_lexemes.specs.PlainEvent.{PlainEvent, EventKind, DocumentStart, DocumentEnd, StreamEnd}
use Rattle.granit_parser.proofs.ChangeLemmas.{ahead_early, seen_early}
use Rattle.granit_parser.proofs.InLemmas.{failed_at, noted_between, noted_over, noted_refusal, open_seen}
use Rattle.granit_parser.specs.Holding.{FailsThere, HoldsChanged, LeadsToFault, ParserHolds, WaitsBehind, keeping_tags}
use Rattle.granit_parser.specs.Parsing.{Next, Parsing}
use Rattle.granit_parser.specs.Recovering.{CallGivesHeld, IsOpen, LookShowsHeld, ParserIn, SeenBy, SeenNone, failed_in}
use Rattle.granit_parser.specs.Recovering.{notes_between, notes_over, unchanged}
use Rattle.granit_recovery.proofs.RecoveryLaws.{noted_steps, noted_fault}
use Rattle.granit_recovery.specs.Streams.{EarlyOf, ReachedByCalls, reached_call, reached_counting, reached_early}
use Rattle.granit_recovery.specs.Streams.{reached_keeping}
use Rattle.granit_restart.proofs.AheadLaws.{waits_next}
use Rattle.granit_restart.proofs.TurnwiseLaws.{failing_here}
use Rattle.granit_restart.specs.Calls.{Calls, GivenByCall, given_by, next_call, noted}
use Rattle.granit_restart.specs.Skipping.{with_pending}
use Rattle.granit_restart.specs.Turned.{Turned, with_count}
use Rattle.granit_sourced.proofs.CallLemmas.{call_going}
use Rattle.granit_sourced.proofs.GoesLemmas.{turn_fails}
use Rattle.granit_sourced.proofs.HeldLemmas.{held_kept}
use Rattle.granit_sourced.specs.Going.{ReadsHeld}
use Rattle.granit_stepper.specs.Holding.{HoldsFault}
use Rattle.granit_stepper.specs.Numbers.{RefusesNumber}
use Rattle.granit_stepper.specs.Refusals.{FailsIn, StandsAhead, StandsRefused}
use Rattle.granit_stepper.specs.Stepping.{Stepping}
use Rattle.granit_steps.specs.Steps.{StepState, next_event, step_turn}

-- what was looked at waits first
pub seen_waits : {I : Type 0} (unread : I → Unread → Type 0) (r : Result (Event × Span) Refused) (s : Stepping I)
    (m : StepState) (f : Fault) → WaitsBehind unread (Some r) s m f → ReadsHeld unread (Some r) s m f
seen_waits unread (Ok x) s m f waits = waits
seen_waits unread (Err e) s m f waits = absurd waits

-- ---- unless the source failed

module _ {I : Type 0} (unread : I → Unread → Type 0) (mid new : Stepping I) (ahead : new.ahead ≡ mid.ahead)
    (failed : new.failed ≡ (mid.failed || false))
    (refused : (m : StepState) (e : Fault) → StandsRefused unread mid m e → StandsRefused unread new m e) where
  pub behind_kept : (w : Next) (m : StepState) (f : Fault) → WaitsBehind unread w mid m f → WaitsBehind unread w new m f
  behind_kept None m f waits = held_kept unread mid new ahead failed refused m f waits
  behind_kept (Some (Ok x)) m f waits =
      (waits.0, waits.1, held_kept unread mid new ahead failed refused (with_pending waits.0 m) f waits.2)
  behind_kept (Some (Err e)) m f waits = waits

-- ---- why it waits, behind an event that waited

over_before : (kind : EventKind) (c : Calls) → (noted kind c).over ≡ false → c.over ≡ false
over_before (DocumentStart explicit version) c going = going
over_before DocumentEnd c going = going
over_before StreamEnd c going = absurd (cc)
over_before kind c going = going

noted_counts : (kind : EventKind) (count : ℕ) (c : Calls) → noted kind (record c { steps = with_count count c.steps })
    ≡ record (noted kind c) { steps = with_count count (noted kind c).steps }
noted_counts (DocumentStart explicit version) count c = refl
noted_counts DocumentEnd count c = refl
noted_counts StreamEnd count c = refl
noted_counts kind count c = refl

-- the call that gives an event
pub event_called : (o : OptionsData) (c : Calls) → IsOpen c → (e : PlainEvent) (t : StepState)
    → next_event o c.steps ≡ Ok (Some e, t) → next_call o c ≡ (Some (Ok e), noted e.kind (record c { steps = t }))
event_called o c is e t next = call_going o c is.over is.fault is.refusal ∙ ap (given_by o c) next

-- the call that fails
pub fails_reached : (o : OptionsData) (c : Calls) (f : Fault) → IsOpen c → ReachedByCalls o c
    → step_turn o c.steps ≡ Err f → ReachedByCalls o (failed_in c.steps f c)
fails_reached o c f is reached fails =
    let call = call_going o c is.over is.fault is.refusal ∙ ap (given_by o c) (turn_fails o c.steps f fails) in
    subst (ReachedByCalls o)
    (ap (λ (x : GivenByCall × Calls). x.1) call ∙ ap (λ m. failed_in m f c) (failing_here o c.steps f fails))
    (reached_call reached)

module _ (renumbered : Bool) (o : OptionsData) (c : Calls) (f : Fault) (fault : c.fault ≡ None)
    (refusal : c.refusal ≡ None) (there : FailsThere renumbered o c f) where
  abbrev as_kept : OptionsData
  as_kept = keeping_tags there.keep o

  abbrev as_counted : Calls
  as_counted = record c { steps = with_count there.count c.steps }

  pub event_there : (e : PlainEvent) (es : List PlainEvent) → c.steps.pending ≡ e ∷ es
      → FailsThere renumbered o (noted e.kind (record c { steps = with_pending es c.steps })) f
  event_there e es waits =
      let behind : Calls = record c { steps = with_pending es c.steps } in
      let same = ap (λ es. with_pending es as_counted.steps) waits in
      let next = ap (next_event as_kept) same ∙ waits_next as_kept as_counted.steps e es in
      record {
        keep = there.keep;
        count = there.count;
        reached = λ going.
            let over = over_before e.kind behind going in
            let given = event_called as_kept as_counted (record { over = over; fault = fault; refusal = refusal }) e
            (with_pending es as_counted.steps) next in
            subst (ReachedByCalls as_kept)
            (ap (λ (x : GivenByCall × Calls). x.1) given ∙ noted_counts e.kind there.count behind)
            (reached_call (there.reached over));
        fails = subst (λ m. FailsIn renumbered as_kept (with_pending [] (with_count there.count m)) f)
            (sym (noted_steps e.kind behind)) there.fails;
      }

  -- where nothing waits, the call that fails leads to the fault as it is given
  fails_here : c.steps.pending ≡ [] → with_pending [] as_counted.steps ≡ as_counted.steps
  fails_here none = ap (λ es. with_pending es as_counted.steps) (sym none)

  fault_reached : c.over ≡ false → step_turn as_kept as_counted.steps ≡ Err f
      → ReachedByCalls o (failed_in c.steps f c)
  fault_reached over fails =
      let is : IsOpen as_counted = record { over = over; fault = fault; refusal = refusal } in
      reached_keeping there.keep (reached_counting c.steps.parser.count
      (fails_reached as_kept as_counted f is (there.reached over) fails))

  pub leads_there : c.steps.pending ≡ [] → LeadsToFault renumbered o c (failed_in c.steps f c) f
  leads_there none = λ over. elim there.fails [
    | inl fails ↦ inl (fault_reached over (ap (step_turn as_kept) (sym (fails_here none)) ∙ fails))
    | inr left ↦ inr (
      there.keep,
      there.count,
      subst (λ m. RefusesNumber renumbered as_kept m f) (fails_here none) left,
    )
  ]

-- ---- what a call gives

module _ {I : Type 0} (unread : I → Unread → Type 0) (p q : Parsing I) (c : Calls) (f : Fault)
    (holds : ParserHolds unread p c f) (options : q.stepper.scanner.options ≡ p.stepper.scanner.options)
    (renumbered : q.stepper.renumbered ≡ p.stepper.renumbered) where
  there_kept : FailsThere q.stepper.renumbered q.stepper.scanner.options c f
  there_kept = subst (λ b. FailsThere b q.stepper.scanner.options c f) (sym renumbered)
      (subst (λ o. FailsThere p.stepper.renumbered o c f) (sym options) holds.fails)

  refusal_given : (e : Fault) → SeenNone q.peeked → q.over ≡ c.over
      → ReadsHeld unread (Some (Err e)) q.stepper c.steps f
      → (c.steps.pending ≡ []) × (e ≡ f) × ParserIn unread q (failed_in c.steps f c)
      × LeadsToFault q.stepper.renumbered q.stepper.scanner.options c (failed_in c.steps f c) f
  refusal_given e seen over reads = (
    reads.0,
    reads.1,
    failed_at unread q c.steps f c holds.refusal over seen (record {
      stands = reads.3;
      options = keeping_tags there_kept.keep q.stepper.scanner.options;
      count = there_kept.count;
      fails = there_kept.fails;
      failed = reads.2;
    }),
    leads_there q.stepper.renumbered q.stepper.scanner.options c f holds.fault holds.refusal there_kept reads.0,
  )

  pub waiting_gives : (r : Next) → ReadsHeld unread r q.stepper c.steps f → q.peeked ≡ None
      → q.between ≡ notes_between r p.between → q.over ≡ notes_over r p.over → CallGivesHeld unread r q c f
  waiting_gives None reads none between over = reads
  waiting_gives (Some (Ok x)) reads none between over =
      let e = plain_event x in
      let behind : Calls = record c { steps = with_pending reads.0 c.steps } in (
        reads.0,
        reads.1,
        record {
          over = over ∙ noted_over e.kind behind p.over holds.over;
          between = between ∙ noted_between e.kind behind p.between holds.between;
          fault = noted_fault e.kind behind ∙ holds.fault;
          refusal = noted_refusal e.kind behind ∙ holds.refusal;
          waits = subst (λ (w : Next). WaitsBehind unread w q.stepper (noted e.kind behind).steps f) (sym none)
              (subst (λ m. HoldsFault unread q.stepper m f) (sym (noted_steps e.kind behind)) reads.2);
          fails = event_there q.stepper.renumbered q.stepper.scanner.options c f holds.fault holds.refusal there_kept e
              reads.0 reads.1;
        },
      )
  waiting_gives (Some (Err e)) reads none between over =
      refusal_given e (subst (λ (w : Next). SeenNone w) (sym none) tt) (over ∙ holds.over) reads

  pub waiting_shows : (r : Next) → ReadsHeld unread r q.stepper c.steps f → q.peeked ≡ r → q.between ≡ p.between
      → q.over ≡ p.over → LookShowsHeld unread r q c f
  waiting_shows None reads seen between over = reads
  waiting_shows (Some (Ok x)) reads seen between over = record {
    over = over ∙ holds.over;
    between = between ∙ holds.between;
    fault = holds.fault;
    refusal = holds.refusal;
    waits = subst (λ (w : Next). WaitsBehind unread w q.stepper c.steps f) (sym seen) reads;
    fails = there_kept;
  }
  waiting_shows (Some (Err e)) reads seen between over =
      refusal_given e (subst (λ (w : Next). SeenNone w) (sym seen) tt) (over ∙ holds.over) reads

-- ---- a refusal that waits where calls led

module _ {I : Type 0} (unread : I → Unread → Type 0) (p : Parsing I) (c : Calls) (f : Fault) (opened : IsOpen c)
    (ahead : p.stepper.ahead ≡ Some f) (at : ParserIn unread p c) where
  abbrev o : OptionsData
  o = p.stepper.scanner.options

  held_there : (m : StepState) → StandsAhead unread p.stepper m
      → HoldsFault unread p.stepper m f × FailsIn p.stepper.renumbered o (with_pending [] m) f
  held_there m (inl stands) = absurd (let clash = sym stands.none_ahead ∙ ahead in cc)
  held_there m (inr held) =
      let same : held.error ≡ f = let both = sym held.ahead ∙ ahead in cc in (
        record {
          ahead = ahead;
          going = held.going;
          other = subst (λ (e : Fault). e.kind ≡ NoMemory → ⊥) same held.other;
          stands = subst (λ (e : Fault). StandsRefused unread p.stepper m e) same held.refused.stands;
        },
        subst (λ (e : Fault). FailsIn p.stepper.renumbered o (with_pending [] m) e) same held.refused.fails,
      )

  holds_at : ReachedByCalls o c → (m : StepState) → EarlyOf o c.steps m → WaitsBehind unread p.peeked p.stepper m f
      → FailsIn p.stepper.renumbered o (with_pending [] m) f
      → HoldsChanged unread o unchanged p c f
  holds_at reached m early waits fails = record {
    steps = m;
    early = early;
    holds = record {
      over = at.over;
      between = at.between opened;
      fault = opened.fault;
      refusal = opened.refusal;
      waits = waits;
      fails = record {
        keep = o.keep_tags;
        count = m.parser.count;
        reached = λ going. reached_early reached early;
        fails = fails;
      };
    };
  }

  holds_by : (w : Next) → p.peeked ≡ w → ReachedByCalls o c → Turned o c.steps → SeenBy unread w p.stepper c
      → HoldsChanged unread o unchanged p c f
  holds_by None is reached turned g =
      let h = held_there g.steps g.stands in
      holds_at reached g.steps (ahead_early o c.steps g.steps g.ahead)
      (subst (λ (w : Next). WaitsBehind unread w p.stepper g.steps f) (sym is) h.0) h.1
  holds_by (Some (Ok x)) is reached turned n =
      let e = plain_event x in
      let u = n.goes.steps in
      let h = held_there u n.goes.stands in
      let m = with_pending (e ∷ u.pending) u in
      holds_at reached m (seen_early unread p.stepper e c turned n)
      (subst (λ (w : Next). WaitsBehind unread w p.stepper m f) (sym is) (u.pending, refl, h.0)) h.1
  holds_by (Some (Err e)) is reached turned seen = absurd seen

  holds_in : ReachedByCalls o c → Turned o c.steps → HoldsChanged unread o unchanged p c f
  holds_in reached turned = holds_by p.peeked refl reached turned (open_seen unread p c opened at)

-- ---- another option, or another number

module _ {I : Type 0} (unread : I → Unread → Type 0) (change : StepState → StepState) (p q : Parsing I)
    (stands : (m : StepState) (e : Fault) → StandsRefused unread p.stepper m e
    → StandsRefused unread q.stepper (change m) e)
    (counts : (count : ℕ) (m : StepState) → with_count count (change m) ≡ with_count count m)
    (keeps : (es : List PlainEvent) (m : StepState) → change (with_pending es m) ≡ with_pending es (change m))
    (options : (keep : Bool) → keeping_tags keep q.stepper.scanner.options
    ≡ keeping_tags keep p.stepper.scanner.options)
    (peeked : q.peeked ≡ p.peeked) (ahead : q.stepper.ahead ≡ p.stepper.ahead)
    (failed : q.stepper.failed ≡ p.stepper.failed)
    (renumbered : p.stepper.renumbered ≡ true → q.stepper.renumbered ≡ true) (between : q.between ≡ p.between)
    (over : q.over ≡ p.over) where
  held_changed : (m : StepState) (f : Fault) → HoldsFault unread p.stepper m f
      → HoldsFault unread q.stepper (change m) f
  held_changed m f h = record {
    ahead = ahead ∙ h.ahead;
    going = failed ∙ h.going;
    other = h.other;
    stands = stands m f h.stands;
  }

  pending_same : (m : StepState) → (change m).pending ≡ m.pending
  pending_same m = ap (λ (n : StepState). n.pending) (keeps m.pending m)

  waits_changed : (w : Next) (m : StepState) (f : Fault) → WaitsBehind unread w p.stepper m f
      → WaitsBehind unread w q.stepper (change m) f
  waits_changed None m f waits = held_changed m f waits
  waits_changed (Some (Ok x)) m f waits = (
    waits.0,
    pending_same m ∙ waits.1,
    subst (λ n. HoldsFault unread q.stepper n f) (keeps waits.0 m) (held_changed (with_pending waits.0 m) f waits.2),
  )
  waits_changed (Some (Err e)) m f waits = absurd waits

  in_changed : (o : OptionsData) (m : StepState) (f : Fault) → FailsIn p.stepper.renumbered o m f
      → FailsIn q.stepper.renumbered o m f
  in_changed o m f (inl fails) = inl fails
  in_changed o m f (inr left) = inr (renumbered left.0, left.1)

  there_changed : (c : Calls) (f : Fault) → FailsThere p.stepper.renumbered p.stepper.scanner.options c f
      → FailsThere q.stepper.renumbered q.stepper.scanner.options (record c { steps = change c.steps }) f
  there_changed c f there =
      let before = keeping_tags there.keep p.stepper.scanner.options in
      let same = sym (options there.keep) in
      let count = sym (counts there.count c.steps) in
      let there_again = with_count there.count (change c.steps) in
      record {
        keep = there.keep;
        count = there.count;
        reached = λ going. subst (λ o. ReachedByCalls o (record c { steps = there_again })) same
            (subst (λ m. ReachedByCalls before (record c { steps = m })) count (there.reached going));
        fails = subst (λ o. FailsIn q.stepper.renumbered o (with_pending [] there_again) f) same
            (subst (λ m. FailsIn q.stepper.renumbered before (with_pending [] m) f) count
            (in_changed before (with_pending [] (with_count there.count c.steps)) f there.fails));
      }

  pub holds_changed : (c : Calls) (f : Fault) → ParserHolds unread p c f
      → ParserHolds unread q (record c { steps = change c.steps }) f
  holds_changed c f holds = record {
    over = over ∙ holds.over;
    between = between ∙ holds.between;
    fault = holds.fault;
    refusal = holds.refusal;
    waits = subst (λ (w : Next). WaitsBehind unread w q.stepper (change c.steps) f) (sym peeked)
        (waits_changed p.peeked c.steps f holds.waits);
    fails = there_changed c f holds.fails;
  }

  pub held_then : (c : Calls) (f : Fault) → ReachedByCalls p.stepper.scanner.options c
      → Turned p.stepper.scanner.options c.steps → IsOpen c → p.stepper.ahead ≡ Some f → ParserIn unread p c
      → HoldsChanged unread p.stepper.scanner.options change q c f
  held_then c f reached turned opened waits at =
      let h = holds_in unread p c f opened waits at reached turned in record {
        steps = h.steps;
        early = h.early;
        holds = holds_changed (record c { steps = h.steps }) f h.holds;
      }
