-- Recovery where a refusal waits, and the option or the number was set since it was met.
use Rattle.std.proofs.Common.{◌≡◌, ◌⊎◌, inl, inr, ℕ, Bool, true, false, not, ◌&&◌, is_some, List, [], ◌∷◌, Option, Some}
use Rattle.std.proofs.Common.{None, Result, Ok, Err, refl, sym, ap, subst, ◌∙◌}
use Rattle.std.proofs.Math.Bool.{and-false, and-true}
use Rattle.std.specs.Prelude.{OnOk, if◌then◌else◌}
use Rattle.granit_base.specs.Place.{Unread}
use Rattle.granit_cursor.specs.Reading.{Reading}
use Rattle.granit_error.specs.OptionsData.{OptionsData}
use Rattle.granit_event.specs.Events.{plain_event}
use Rattle.granit_lexemes.specs.Outcome.{Fault}
use Rattle.granit_lexemes.specs.PlainEvent.{Comment, DocumentEnd, DocumentStart, EventKind, PlainEvent, StreamEnd}
use Rattle.granit_parser.proofs.DropLemmas.{GoByTurns, TellsHere, TellsLooked, ends_is, ends_not, fault_asks}
use Rattle.granit_parser.proofs.HeldLemmas.{event_called, fails_reached}
use Rattle.granit_parser.proofs.RecoverLemmas.{looked, starts_fault, starts_over, starts_steps, unlooked}
use Rattle.granit_parser.specs.Holding.{FailsThere, FaultLacksNumber, MetFault, WaitsBehind, held_behind, held_room}
use Rattle.granit_parser.specs.Holding.{keeping_tags, looked_comment}
use Rattle.granit_parser.specs.Parsing.{Next, Parsing}
use Rattle.granit_parser.specs.Recovering.{AsksBy, IsOpen, SkipsToAsk, SkipsWaiting, failed_in, seen_in, stays_by}
use Rattle.granit_seen.specs.Seeing.{seen_ends_document, seen_kind, seen_starts_document}
use Rattle.granit_seen.specs.declared.seen.Seen.TheVariants as seens
use Rattle.granit_calls.specs.Asking.{LookTells}
use Rattle.granit_recovery.proofs.RecoveryLaws.{noted_steps}
use Rattle.granit_recovery.specs.Streams.{ReachedByCalls, reached_call, reached_counting, reached_keeping}
use Rattle.granit_recovery.specs.Streams.{reached_recovery}
use Rattle.granit_restart.proofs.AheadLaws.{waits_next}
use Rattle.granit_restart.proofs.LookTurns as look_turns
use Rattle.granit_restart.specs.Calls.{Calls, GivenByCall, next_call, noted}
use Rattle.granit_restart.specs.Following.{document_follows}
use Rattle.granit_restart.specs.Header.{is_directives}
use Rattle.granit_restart.specs.Looking.{Look, behind_waiting, look_ahead, look_behind, told_by}
use Rattle.granit_restart.specs.Recovery.{comment_count, extra_of, looked_by, recover, recovered, recovery_answer}
use Rattle.granit_restart.specs.Recovery.{resumed, skipped, skipped_by, starts_by}
use Rattle.granit_restart.specs.Skipping.{Ahead, AtStreamEnd, BehindDocument, Ended, Failed, NoEnd, SkipEnd, Stops}
use Rattle.granit_restart.specs.Skipping.{ahead, ahead_by, ends_before, skip_ahead, skip_by_turns, skip_fault, skip_in}
use Rattle.granit_restart.specs.Skipping.{skip_turn, skipped_to, with_pending}
use Rattle.granit_restart.specs.Turned.{Turned, turned_counting, turned_keeping, with_count}
use Rattle.granit_sourced.proofs.CallLemmas.{ends}
use Rattle.granit_stepper.specs.Holding.{HoldsFault, SkipsHeld, held_follows, held_skip, told_or_refused}
use Rattle.granit_stepper.specs.Recovering.{SkipsFault}
use Rattle.granit_stepper.specs.Refusals.{FailsIn}
use Rattle.granit_stepper.specs.Stepping.{Stepping}
use Rattle.granit_steps.specs.Steps.{StepState, Turn, next_event, step_size, step_turn}

-- ---- events that wait are given by calls

no_end : (kind : EventKind) (e : PlainEvent) (es : List PlainEvent) (later : Ahead) → ahead_by kind e es later ≡ NoEnd
    → (ends kind ≡ false) × (later ≡ NoEnd)
no_end DocumentEnd e es later is = absurd (cc)
no_end StreamEnd e es later is = absurd (cc)
no_end kind e es later is = (refl, is)

noted_open : (kind : EventKind) (c : Calls) → ends kind ≡ false → IsOpen c → IsOpen (noted kind c)
noted_open (DocumentStart explicit version) c other is =
    record { over = is.over; fault = is.fault; refusal = is.refusal }
noted_open DocumentEnd c other is = absurd (cc)
noted_open StreamEnd c other is = absurd (cc)
noted_open kind c other is = is

module _ (o : OptionsData) where
  record GivenAll (c : Calls) : Type 0 where
    behind : Calls
    opened : IsOpen behind
    steps : behind.steps ≡ with_pending [] c.steps
    reached : ReachedByCalls o behind

  given_all : (es : List PlainEvent) (c : Calls) → IsOpen c → c.steps.pending ≡ es → ahead es ≡ NoEnd
      → ReachedByCalls o c → GivenAll c
  given_all [] c opened is none reached = record {
    behind = c;
    opened = opened;
    steps = ap (λ es. with_pending es c.steps) is;
    reached = reached;
  }
  given_all (e ∷ es) c opened is none reached =
      let x = no_end e.kind e es (ahead es) none in
      let next = ap (λ es. next_event o (with_pending es c.steps)) is ∙ waits_next o c.steps e es in
      let before : Calls = record c { steps = with_pending es c.steps } in
      let there = subst (ReachedByCalls o)
      (ap (λ (x : GivenByCall × Calls). x.1) (event_called o c opened e (with_pending es c.steps) next))
      (reached_call reached) in
      let opened_there : IsOpen before =
      record { over = opened.over; fault = opened.fault; refusal = opened.refusal } in
      let more = given_all es (noted e.kind before) (noted_open e.kind before x.0 opened_there)
      (ap (λ (m : StepState). m.pending) (noted_steps e.kind before)) x.1 there in
      record {
        behind = more.behind;
        opened = more.opened;
        steps = more.steps ∙ ap (with_pending []) (noted_steps e.kind before);
        reached = more.reached;
      }

-- ---- where what is dropped ends

-- whatever number stands
abbrev at_count : ℕ → SkipEnd → SkipEnd
at_count count (Ended n) = Ended (with_count count n)
at_count count (Failed e n) = Failed e (with_count count n)

if_counted : (count : ℕ) (f : Fault) (b : Bool) (n : StepState) → at_count count (if b then Ended n else Failed f n)
    ≡ (if b then Ended (with_count count n) else Failed f (with_count count n))
if_counted count f true n = refl
if_counted count f false n = refl

skip_counted : (count : ℕ) (f : Fault) (m : StepState) (a : Ahead)
    → at_count count (skip_ahead (λ n. skip_fault n f) m a)
    ≡ skip_ahead (λ n. skip_fault n f) (with_count count m) a
skip_counted count f m NoEnd = if_counted count f (ends_before (with_pending [] m) f) (with_pending [] m)
skip_counted count f m (BehindDocument es) = refl
skip_counted count f m (AtStreamEnd es) = refl

behind_counted : (count : ℕ) (b : Bool) (f : Fault) (m : StepState)
    → at_count count (held_behind b f m) ≡ held_behind b f (with_count count m)
behind_counted count true f m = refl
behind_counted count false f m = skip_counted count f m (ahead m.pending)

-- it is the same state but for what waits
abbrev bare : SkipEnd → StepState
bare (Ended n) = with_pending [] n
bare (Failed e n) = with_pending [] n

if_bare : (f : Fault) (b : Bool) (n : StepState) → bare (if b then Ended n else Failed f n) ≡ with_pending [] n
if_bare f true n = refl
if_bare f false n = refl

skip_bare : (f : Fault) (m : StepState) (a : Ahead) → bare (skip_ahead (λ n. skip_fault n f) m a) ≡ with_pending [] m
skip_bare f m NoEnd = if_bare f (ends_before (with_pending [] m) f) (with_pending [] m)
skip_bare f m (BehindDocument es) = refl
skip_bare f m (AtStreamEnd es) = refl

behind_bare : (b : Bool) (f : Fault) (m : StepState) → bare (held_behind b f m) ≡ with_pending [] m
behind_bare true f m = refl
behind_bare false f m = skip_bare f m (ahead m.pending)

skip_same : (f : Fault) (es : List PlainEvent) (m : StepState) (a : Ahead)
    → skip_ahead (λ n. skip_fault n f) (with_pending es m) a ≡ skip_ahead (λ n. skip_fault n f) m a
skip_same f es m NoEnd = refl
skip_same f es m (BehindDocument left) = refl
skip_same f es m (AtStreamEnd left) = refl

ended_same : (m n : StepState) → Ended m ≡ Ended n → m ≡ n
ended_same m n is = cc

-- where it fails no end waits, and it fails with the refusal that waits
abbrev WhereFailed : Fault → StepState → Ahead → SkipEnd → Type 0
WhereFailed f m a (Ended n) = Unit {0}
WhereFailed f m a (Failed e n) = (a ≡ NoEnd) × (e ≡ f) × (n ≡ with_pending [] m)

if_failed : (f : Fault) (m : StepState) (b : Bool)
    → WhereFailed f m NoEnd (if b then Ended (with_pending [] m) else Failed f (with_pending [] m))
if_failed f m true = tt
if_failed f m false = (refl, refl, refl)

where_failed : (f : Fault) (m : StepState) (a : Ahead) → WhereFailed f m a (skip_ahead (λ n. skip_fault n f) m a)
where_failed f m NoEnd = if_failed f m (ends_before (with_pending [] m) f)
where_failed f m (BehindDocument es) = tt
where_failed f m (AtStreamEnd es) = tt

pub held_failed : (f e : Fault) (m n : StepState) → held_skip f m ≡ Failed e n
    → (ahead m.pending ≡ NoEnd) × (e ≡ f) × (n ≡ with_pending [] m)
held_failed f e m n is = subst (WhereFailed f m (ahead m.pending)) is (where_failed f m (ahead m.pending))

-- ---- recovery, where the turn fails

starts_stays : (kind : EventKind) (c : Calls)
    → (starts_by kind c).between ≡ (c.between && not (seen_starts_document (seen_kind kind)))
starts_stays (DocumentStart explicit version) c = sym (and-false c.between)
starts_stays DocumentEnd c = sym (and-true c.between)
starts_stays StreamEnd c = sym (and-true c.between)
starts_stays (Comment text placement) c = sym (and-true c.between)
starts_stays kind c = sym (and-true c.between)

if_none : (b : Bool) → ◌≡◌ {A = ℕ} (if b then 0 else 0) 0
if_none true = refl
if_none false = refl

-- what was looked at is the first of what waits
abbrev pub LookedFirst : Next → List PlainEvent → Type 0
LookedFirst None waiting = Unit {0}
LookedFirst (Some (Ok x)) waiting = (es : List PlainEvent) × (waiting ≡ plain_event x ∷ es)
LookedFirst (Some (Err e)) waiting = ⊥

pub looked_first : {I : Type 0} (unread : I → Unread → Type 0) (w : Next) (s : Stepping I) (m : StepState) (f : Fault)
    → WaitsBehind unread w s m f → LookedFirst w m.pending
looked_first unread None s m f waits = tt
looked_first unread (Some (Ok x)) s m f waits = (waits.0, waits.1)
looked_first unread (Some (Err e)) s m f waits = waits

module _ (o : OptionsData) (c : Calls) (f : Fault) (is : IsOpen c)
    (fails : step_turn o (with_pending [] c.steps) ≡ Err f) where
  abbrev then_in : ℕ → StepState → SkipEnd
  then_in n t = skip_turn (skip_in o n) t (step_turn o t)

  skip_fails : (a : Ahead) → skip_ahead (then_in (step_size c.steps)) c.steps a
      ≡ skip_ahead (λ n. skip_fault n f) c.steps a
  skip_fails NoEnd = ap (skip_turn (skip_in o (step_size c.steps)) (with_pending [] c.steps)) fails
  skip_fails (BehindDocument es) = refl
  skip_fails (AtStreamEnd es) = refl

  turns_skip : skip_by_turns o c.steps ≡ held_skip f c.steps
  turns_skip = skip_fails (ahead c.steps.pending)

  skipped_held : (stops : Stops) (b : Bool) (n : StepState) → held_behind b f c.steps ≡ Ended n
      → skipped_by o stops None b c.steps ≡ n
  skipped_held stops true n at = ended_same c.steps n at
  skipped_held stops false n at = ap (skipped_to o stops) (turns_skip ∙ at)

  skipped_calls : (stops : Stops) (d : Calls) (b : Bool) (n : StepState) → d.steps ≡ c.steps → d.fault ≡ None
      → d.between ≡ b → held_behind b f c.steps ≡ Ended n → skipped o stops d ≡ resumed n
  skipped_calls stops d b n steps fault between at =
      ap (λ m. resumed (skipped_by o stops d.fault d.between m)) steps
      ∙ ap (λ (g : Option Fault). resumed (skipped_by o stops g d.between c.steps)) fault
      ∙ ap (λ b. resumed (skipped_by o stops None b c.steps)) between
      ∙ ap resumed (skipped_held stops b n at)

  -- where recovery asks then, with as many comments more
  record AsksHeld (stops : Stops) (w : Next) (n : StepState) : Type 0 where
    recovers : recover o stops (is_some w) c
        ≡ recovered o (if stays_by c.between w then looked_comment w else 0) (resumed n)
    tells : LookTells o n

  asks_held : (stops : Stops) (w : Next) (n : StepState) → LookedFirst w c.steps.pending
      → held_behind (stays_by c.between w) f c.steps ≡ Ended n → ReachedByCalls o c → TellsHere o → TellsLooked o
      → AsksHeld stops w n
  asks_held stops None n first at reached tells looks =
      let stays : c.between ≡ stays_by c.between None = sym (and-true c.between) in
      let same = skipped_calls stops c (stays_by c.between None) n refl is.fault stays at in record {
        recovers = unlooked o stops c is.refusal is.over ∙ ap (recovered o 0) same
            ∙ ap (λ extra. recovered o extra (resumed n)) (sym (if_none (stays_by c.between None)));
        tells = subst (LookTells o) (ap (λ (d : Calls). d.steps) same) (tells stops c reached is.over);
      }
  asks_held stops (Some (Ok x)) n first at reached tells looks =
      let e = plain_event x in
      let behind = with_pending first.0 c.steps in
      let next = ap (λ es. next_event o (with_pending es c.steps)) first.1 ∙ waits_next o c.steps e first.0 in
      let call = event_called o c is e behind next in
      let d = starts_by e.kind c in
      let over = starts_over e.kind c ∙ is.over in
      let stays = starts_stays e.kind c in
      let same = skipped_calls stops d (stays_by c.between (Some (Ok x))) n (starts_steps e.kind c)
      (starts_fault e.kind c ∙ is.fault) stays at in record {
        recovers = looked o stops c (Some (Ok e), noted e.kind (record c { steps = behind })) is.refusal call over
            ∙ ap (recovered o (extra_of d (Some (Ok e)))) same
            ∙ ap (λ b. recovered o (if b then comment_count e.kind else 0) (resumed n)) stays;
        tells =
            let looked_at : looked_by c (next_call o c) ≡ d = ap (looked_by c) call in
            subst (LookTells o) (ap (λ (d : Calls). (skipped o stops d).steps) looked_at
            ∙ ap (λ (d : Calls). d.steps) same)
            (looks stops c reached (ap (λ (d : Calls). d.over) looked_at ∙ over));
      }
  asks_held stops (Some (Err e)) n first at reached tells looks = absurd first

-- a look where the turn fails tells what waits tells
module _ (o : OptionsData) (room : ℕ) (n : StepState) (f : Fault)
    (fails : step_turn o (with_pending [] n) ≡ Err f) where
  either : (b : Bool) (x : Look) → (if b then x else x) ≡ x
  either true x = refl
  either false x = refl

  look_told : (told : Option (Result Bool Fault)) → told_by room n.pending ≡ told
      → (look_ahead o room n).0 ≡ told_or_refused told
  look_told (Some told) is = ap (λ (x : Look). x.0) (look_turns.look_told o room n told is)
  look_told None is = ap (λ (x : Look). x.0) (look_turns.look_ends o room n (Ok true, n) is
      (λ later. ap (λ (r : Turn). if is_directives n.parser.stage then (Ok true, n)
      else look_behind later n (behind_waiting n.pending r)) fails
      ∙ either (is_directives n.parser.stage) (Ok true, n)))

  follows_held : LookTells o n → document_follows o room n ≡ held_follows room n
  follows_held tells = sym (tells.tells room) ∙ look_told (told_by room n.pending) refl

-- ---- the refusal waits on

module _ (renumbered : Bool) (o : OptionsData) (c : Calls) (f : Fault) (is : IsOpen c)
    (there : FailsThere renumbered o c f) where
  abbrev as_kept : OptionsData
  as_kept = keeping_tags there.keep o

  abbrev as_counted : Calls
  as_counted = record c { steps = with_count there.count c.steps }

  opened : IsOpen as_counted
  opened = record { over = is.over; fault = is.fault; refusal = is.refusal }

  -- ---- it counts as given, behind what waits

  module _ (fails : step_turn as_kept (with_pending [] as_counted.steps) ≡ Err f) where
    met_here : ahead c.steps.pending ≡ NoEnd → MetFault o (with_pending [] c.steps) f
    met_here none =
        let all = given_all as_kept c.steps.pending as_counted opened refl none (there.reached is.over) in
        let fault = fails_reached as_kept all.behind f all.opened all.reached
        (ap (step_turn as_kept) all.steps ∙ fails) in record {
          calls = failed_in (with_count c.steps.parser.count all.behind.steps) f all.behind;
          reached = reached_keeping there.keep (reached_counting c.steps.parser.count fault);
          steps = ap (with_count c.steps.parser.count) all.steps;
          fault = refl;
          over = all.opened.over;
          refusal = all.opened.refusal;
        }

    -- ---- it waits on

    module _ (stops : Stops) (w : Next) (n : StepState) (first : LookedFirst w c.steps.pending)
        (at : held_behind (stays_by c.between w) f c.steps ≡ Ended n) (tells : TellsHere as_kept)
        (looks : TellsLooked as_kept) where
      abbrev counted : StepState
      counted = with_count there.count n

      at_counted : held_behind (stays_by c.between w) f as_counted.steps ≡ Ended counted
      at_counted = sym (behind_counted there.count (stays_by c.between w) f c.steps) ∙ ap (at_count there.count) at

      fails_still : step_turn as_kept (with_pending [] counted) ≡ Err f
      fails_still =
          ap (step_turn as_kept) (ap bare (sym at_counted) ∙ behind_bare (stays_by c.between w) f as_counted.steps)
          ∙ fails

      abbrev room : ℕ
      room = held_room o (stays_by c.between w) w

      recovers_there : (recover as_kept stops (is_some w) as_counted).1
          ≡ (recovery_answer (held_follows room n) (resumed counted)).1
      recovers_there =
          let asks = asks_held as_kept as_counted f opened fails stops w counted first at_counted
          (there.reached is.over) tells looks in
          ap (λ (x : Result Bool Fault × Calls). x.1) asks.recovers
          ∙ ap (λ (r : Result Bool Fault). (recovery_answer r (resumed counted)).1)
          (follows_held as_kept room counted f fails_still asks.tells)

      answer_counted : (follows : Bool) → (recovery_answer (Ok follows) (resumed counted)).1
          ≡ record ((recovery_answer (Ok follows) (resumed n)).1) {
            steps = with_count there.count (recovery_answer (Ok follows) (resumed n)).1.steps;
          }
      answer_counted true = refl
      answer_counted false = refl

      answer_steps : (follows : Bool) → (recovery_answer (Ok follows) (resumed n)).1.steps ≡ n
      answer_steps true = refl
      answer_steps false = refl

      abbrev StillFails : StepState → Type 0
      StillFails m = FailsIn renumbered as_kept (with_pending [] (with_count there.count m)) f

      pub waits_on : (follows : Bool) → Ok follows ≡ held_follows room n
          → FailsThere renumbered o (recovery_answer (Ok follows) (resumed n)).1 f
      waits_on follows told = record {
        keep = there.keep;
        count = there.count;
        reached = λ going. subst (ReachedByCalls as_kept)
            (recovers_there
            ∙ ap (λ (r : Result Bool Fault). (recovery_answer r (resumed counted)).1) (sym told)
            ∙ answer_counted follows)
            (reached_recovery stops (is_some w) (there.reached is.over));
        fails = subst StillFails (sym (answer_steps follows)) (inl fails_still);
      }

  -- turns lead there
  pub held_turned : ((o : OptionsData) → GoByTurns o) → Turned o c.steps
  held_turned by_turns =
      turned_keeping there.keep (turned_counting c.steps.parser.count
      (by_turns as_kept as_counted (there.reached is.over)))

  -- ---- what a parser drops

  module _ {I : Type 0} (unread : I → Unread → Type 0) (cursor : Reading I) (was : Bool) (q : Parsing I)
      (same : q.stepper.scanner.options ≡ o) (none : q.peeked ≡ None) (tells : TellsHere o) (by_turns : GoByTurns o)
    where
      asks_there : (n : StepState) (e : Fault) → (m : MetFault q.stepper.scanner.options n e)
          → SkipsFault unread o cursor e q.stepper n → q.stepper.first ≡ None
          → SkipsToAsk unread cursor was q m.calls
      asks_there n e m goes first =
          elim (fault_asks unread m.calls m.over m.refusal o was (subst (λ o. ReachedByCalls o m.calls) same m.reached)
          tells by_turns q.stepper same cursor e m.fault
          (subst (λ t. SkipsFault unread o cursor e q.stepper t) (sym m.steps) goes) first) [
            | inl a ↦ inl (a.0, a.1, subst (λ (w : Next). AsksBy unread a.0 was w q.stepper m.calls) (sym none) a.2)
            | inr left ↦ inr left
          ]

      dropped_by : (x : SkipEnd) → held_skip f c.steps ≡ x
          → step_turn as_kept (with_pending [] as_counted.steps) ≡ Err f
          → SkipsHeld unread o cursor f x q.stepper → q.stepper.first ≡ None → SkipsWaiting unread cursor was f x q
      dropped_by (Ended n) at fails goes first =
          subst (λ (w : Next). WaitsBehind unread w q.stepper n f) (sym none) goes
      dropped_by (Failed e n) at fails goes first =
          let failed = held_failed f e c.steps n at in
          let met = met_here fails failed.0 in
          let given : MetFault q.stepper.scanner.options n e = subst (λ o. MetFault o n e) (sym same)
          (subst (λ t. MetFault o t e) (sym failed.2)
          (subst (λ g. MetFault o (with_pending [] c.steps) g) (sym failed.1) met)) in
          (given, asks_there n e given goes first)

      pub document_dropped : SkipsHeld unread o cursor f (held_skip f c.steps) q.stepper → q.stepper.first ≡ None
          → SkipsWaiting unread cursor was f (held_skip f c.steps) q ⊎ FaultLacksNumber renumbered o c f
      document_dropped goes first = elim there.fails [
        | inl fails ↦ inl (dropped_by (held_skip f c.steps) refl fails goes first)
        | inr left ↦ inr (there.keep, there.count, left)
      ]

-- ---- what was looked at

pub looked_ok : {A E X : Type 0} (r : Result X E) → A → OnOk r A
looked_ok (Ok x) a = a
looked_ok (Err e) a = tt

pub waits_going : {I : Type 0} (unread : I → Unread → Type 0) (w : Next) (s : Stepping I) (m : StepState) (f : Fault)
    → WaitsBehind unread w s m f → s.failed ≡ false
waits_going unread None s m f waits = waits.going
waits_going unread (Some (Ok x)) s m f waits = waits.2.going
waits_going unread (Some (Err e)) s m f waits = absurd waits

-- the end of the open document, which goes
pub end_dropped : {I : Type 0} (unread : I → Unread → Type 0) (cursor : Reading I) (was : Bool) (w : Next)
    (s : Stepping I) (q : Parsing I) (m : StepState) (f : Fault) → q.stepper ≡ s → q.peeked ≡ None
    → seen_ends_document (seen_in w) ≡ true → WaitsBehind unread w s m f
    → SkipsWaiting unread cursor was f (held_skip f m) q
end_dropped unread cursor was None s q m f same none end waits = absurd (cc)
end_dropped unread cursor was (Some (Err e)) s q m f same none end waits = absurd waits
end_dropped unread cursor was (Some (Ok x)) s q m f same none end waits =
    let e = plain_event x in
    let there : ahead m.pending ≡ BehindDocument waits.0 =
    ap ahead waits.1 ∙ ap (λ kind. ahead_by kind e waits.0 (ahead waits.0)) (ends_is e.kind end) in
    subst (λ (a : Ahead). SkipsWaiting unread cursor was f (skip_ahead (λ n. skip_fault n f) m a) q) (sym there)
    (subst (λ (w : Next). WaitsBehind unread w q.stepper (with_pending waits.0 m) f) (sym none)
    (subst (λ (s : Stepping _). HoldsFault unread s (with_pending waits.0 m) f) (sym same) waits.2))

-- what waits behind it in the stepper ends where all ends
pub record WaitsThere {I : Type 0} (unread : I → Unread → Type 0) (s : Stepping I) (m : StepState) (f : Fault)
    : Type 0 where
  pub waiting : List PlainEvent
  pub holds : HoldsFault unread s (with_pending waiting m) f
  pub alike : held_skip f (with_pending waiting m) ≡ held_skip f m

pub waits_there : {I : Type 0} (unread : I → Unread → Type 0) (w : Next) (s : Stepping I) (m : StepState) (f : Fault)
    → seen_ends_document (seen_in w) ≡ false → (seen_in w ≡ seens.StreamEnd → ⊥) → WaitsBehind unread w s m f
    → WaitsThere unread s m f
waits_there unread None s m f end other waits = record { waiting = m.pending; holds = waits; alike = refl }
waits_there unread (Some (Err e)) s m f end other waits = absurd waits
waits_there unread (Some (Ok x)) s m f end other waits =
    let e = plain_event x in record {
      waiting = waits.0;
      holds = waits.2;
      alike = skip_same f waits.0 m (ahead waits.0)
          ∙ ap (skip_ahead (λ n. skip_fault n f) m)
          (sym (ap ahead waits.1 ∙ any_ahead e.kind e waits.0 (ends_not e.kind end other)));
    }
  where
    any_ahead : (kind : EventKind) (e : PlainEvent) (es : List PlainEvent) → ends kind ≡ false
        → ahead_by kind e es (ahead es) ≡ ahead es
    any_ahead DocumentEnd e es other = absurd (cc)
    any_ahead StreamEnd e es other = absurd (cc)
    any_ahead kind e es other = refl
