-- A stepper goes where the machine's calls lead.
use Rattle.std.proofs.Common.{◌≡◌, ◌⊎◌, inl, inr, Bool, true, false, List, [], ◌∷◌, Option, Some, None, Result, Ok, Err}
use Rattle.std.proofs.Common.{refl, sym, ap, subst, ◌∙◌}
use Rattle.std.specs.Option.{option_map}
use Rattle.std.specs.Prelude.{IfErr}
use Rattle.granit_base.specs.Place.{Unread}
use Rattle.granit_base.specs.declared.place.Span.{Span}
use Rattle.granit_error.specs.FaultKind.{NoMemory}
use Rattle.granit_error.specs.OptionsData.{OptionsData}
use Rattle.granit_error.specs.Refused.{Refused}
use Rattle.granit_event.specs.declared.event.Event.{Event}
use Rattle.granit_event.specs.Events.{plain_event}
use Rattle.granit_lexemes.specs.Outcome.{Fails, Fault}
use Rattle.granit_lexemes.specs.PlainEvent.{PlainEvent, EventKind, Comment}
use Rattle.granit_sourced.proofs.CallLemmas.{ahead_turned, next_exact}
use Rattle.granit_sourced.specs.Giving.{EndsWith, GivesNext, next_view}
use Rattle.granit_sourced.specs.Going.{Failed, FailsAt, GoesWithCalls, ReadsNext, SeenNext}
use Rattle.granit_sourced.specs.Sources.{NeverRevives}
use Rattle.granit_lexemes.proofs.PieceLemmas.{pieces_fails}
use Rattle.granit_recovery.proofs.RecoveryLaws.{noted_steps}
use Rattle.granit_recovery.proofs.SkipLaws.{NextAnswer, event_in, state_or}
use Rattle.granit_restart.proofs.AheadLaws.{failing_alike, first_of, next_alike, turn_next, waits_next}
use Rattle.granit_calls.proofs.AskLaws.{next_none}
use Rattle.granit_restart.proofs.TurnwiseLaws.{failing_here, failing_on}
use Rattle.granit_restart.specs.Ahead.{AheadOf, AlikeNext, ComesLast, NoneComes, is_note}
use Rattle.granit_restart.specs.Calls.{Calls, failing, noted}
use Rattle.granit_restart.specs.Skipping.{with_pending}
use Rattle.granit_restart.specs.Turned.{Turned}
use Rattle.granit_stepper.specs.Numbers.{GivesOr, RefusesNumber, TurnsTo, no_turn, one_turn}
use Rattle.granit_stepper.specs.Refusals.{FailsIn, GivesAhead, HoldsRefusal, RefusedIn, RefusesLater, StandsAhead}
use Rattle.granit_stepper.specs.Stepping.{StandsIn, Stepping, answer_in}
use Rattle.granit_steps.specs.Steps.{StepState, next_event, step_size, step_turn}

-- ---- what stands in a place for the next event

pub viewed : {X : Type 0} (r : Option (Result X Refused)) → r ≡ next_view (answer_in r)
viewed None = refl
viewed (Some (Ok x)) = refl
viewed (Some (Err e)) = refl

-- ---- what calls note

-- a comment leaves what was noted
pub note_keeps : (kind : EventKind) (c : Calls) → is_note kind ≡ true → noted kind c ≡ c
note_keeps (Comment text placement) c note = refl
note_keeps kind c note = absurd (cc)

same_behind : {s u : StepState} {a b : Option PlainEvent} → ◌≡◌ {A = NextAnswer} (Ok (a, s)) (Ok (b, u)) → s ≡ u
same_behind {s = s} x = ap (state_or s) x

same_event : {x y : PlainEvent} {s u : StepState} → ◌≡◌ {A = NextAnswer} (Ok (Some x, s)) (Ok (Some y, u)) → x ≡ y
same_event {x = x} {y = y} e = let f : Some x ≡ Some y = ap event_in e in cc

some_none : {x : PlainEvent} {s u : StepState} → ◌≡◌ {A = NextAnswer} (Ok (Some x, s)) (Ok (None, u)) → ⊥
some_none {x = x} e = let f : Some x ≡ None = ap event_in e in cc

module _ (o : OptionsData) where
  -- behind the next event a state that was ahead is so only where no document comes
  note_between : (kind : EventKind) (c : Calls) (t next behind : StepState) (e : PlainEvent) → e.kind ≡ kind
      → AheadOf o c.steps t → next_event o c.steps ≡ Ok (Some e, next) → next_event o t ≡ Ok (Some e, behind)
      → (c.between ≡ true → (t ≡ c.steps) ⊎ NoneComes o c.steps)
      → is_note kind ≡ true → c.between ≡ true → (behind ≡ next) ⊎ NoneComes o next
  note_between kind c t next behind e is p here there old note between =
      elim (old between) [
        | inl same ↦ inl (same_behind (sym there ∙ ap (next_event o) same ∙ here))
        | inr none ↦ inr (last (next_none o c.steps next e none here))
      ]
    where
      last : ComesLast o c.steps e next → NoneComes o next
      last (inl end) = absurd (let f = sym (ap is_note (sym is ∙ end)) ∙ note in cc)
      last (inr x) = x.1

  -- the same whatever the event
  any_between : (b : Bool) (c : Calls) (t next behind : StepState) (e : PlainEvent) → is_note e.kind ≡ b
      → AheadOf o c.steps t → next_event o c.steps ≡ Ok (Some e, next) → next_event o t ≡ Ok (Some e, behind)
      → (c.between ≡ true → (t ≡ c.steps) ⊎ NoneComes o c.steps)
      → (b ≡ true → c.between ≡ true) → (behind ≡ next) ⊎ NoneComes o next
  any_between true c t next behind e note p here there old between =
      note_between e.kind c t next behind e refl p here there old note (between refl)
  any_between false c t next behind e other p here there old between =
      inl (same_behind (sym there ∙ next_exact o c.steps t next e p other here))

  -- the states behind the next event, from where calls led and from ahead
  pub record Behind (c : Calls) (e : PlainEvent) (behind : StepState) : Type 0 where
    pub next : StepState
    pub here : next_event o c.steps ≡ Ok (Some e, next)
    pub ahead : AheadOf o next behind

  behind_by : (c : Calls) (t behind : StepState) (e : PlainEvent) (r : NextAnswer) → next_event o c.steps ≡ r
      → AlikeNext o r (next_event o t) → next_event o t ≡ Ok (Some e, behind) → Behind c e behind
  behind_by c t behind e (Ok (Some x, s)) is alike there =
      let both = sym alike.2 ∙ there in
      let event : x ≡ e = same_event both in
      record {
        next = s;
        here = is ∙ ap (λ y. Ok (Some y, s)) event;
        ahead = subst (AheadOf o s) (same_behind both) alike.1;
      }
  behind_by c t behind e (Ok (None, s)) is alike there = absurd (some_none (sym there ∙ alike))
  behind_by c t behind e (Err f) is alike there =
      absurd (let g : ◌≡◌ {A = NextAnswer} _ _ = sym alike ∙ there in cc)

  pub behind_of : (c : Calls) (t behind : StepState) (e : PlainEvent) → AheadOf o c.steps t
      → next_event o t ≡ Ok (Some e, behind) → Behind c e behind
  behind_of c t behind e p there =
      behind_by c t behind e (next_event o c.steps) refl (next_alike o c.steps t p) there

  fault_by : (s t : StepState) (f : Fault) (r : NextAnswer) → next_event o s ≡ r → AlikeNext o r (next_event o t)
      → next_event o t ≡ Err f → next_event o s ≡ Err f
  fault_by s t f (Ok (Some x, u)) is alike there = absurd (let g : ◌≡◌ {A = NextAnswer} _ _ = sym alike.2 ∙ there in cc)
  fault_by s t f (Ok (None, u)) is alike there = absurd (let g : ◌≡◌ {A = NextAnswer} _ _ = sym alike ∙ there in cc)
  fault_by s t f (Err g) is alike there = is ∙ sym alike ∙ there

  pub fault_alike : (s t : StepState) (f : Fault) → AheadOf o s t → next_event o t ≡ Err f → next_event o s ≡ Err f
  fault_alike s t f p there = fault_by s t f (next_event o s) refl (next_alike o s t p) there

  none_back : (s t u : StepState) (r : NextAnswer) → next_event o s ≡ r → AlikeNext o r (next_event o t)
      → next_event o t ≡ Ok (None, u) → (v : StepState) × (next_event o s ≡ Ok (None, v))
  none_back s t u (Ok (Some x, v)) is alike there = absurd (some_none (sym alike.2 ∙ there))
  none_back s t u (Ok (None, v)) is alike there = (v, is)
  none_back s t u (Err g) is alike there = absurd (let f : ◌≡◌ {A = NextAnswer} _ _ = sym alike ∙ there in cc)

  pub none_alike : (s t u : StepState) → AheadOf o s t → next_event o t ≡ Ok (None, u)
      → (v : StepState) × (next_event o s ≡ Ok (None, v))
  none_alike s t u p there = none_back s t u (next_event o s) refl (next_alike o s t p) there

  -- ---- the turn that fails

  pub turns_next : (s t : StepState) → TurnsTo o s t → next_event o s ≡ next_event o t
  turns_next s t no_turn = refl
  turns_next s t (one_turn {next = u} is more) = turn_next o s u [] is ∙ turns_next u t more

  pub turns_failing : (s t : StepState) → TurnsTo o s t → failing o s ≡ failing o t
  turns_failing s t no_turn = refl
  turns_failing s t (one_turn {next = u} is more) = failing_on o s u [] is ∙ turns_failing u t more

  none_waits : (m : StepState) (e : Fault) (es : List PlainEvent) → m.pending ≡ es → next_event o m ≡ Err e
      → m.pending ≡ []
  none_waits m e [] is fails = is
  none_waits m e (x ∷ es) is fails =
      let same : m ≡ with_pending (x ∷ es) m = ap (λ es. with_pending es m) is in
      absurd (let f : ◌≡◌ {A = NextAnswer} _ _ = sym (waits_next o m x es) ∙ ap (next_event o) (sym same) ∙ fails in cc)

  -- where a call fails and its turn is known, that is the machine's
  pub fails_there : (c : Calls) (t m : StepState) (e : Fault) → AheadOf o c.steps t → TurnsTo o t m
      → next_event o t ≡ Err e → step_turn o (with_pending [] m) ≡ Err e
      → (next_event o c.steps ≡ Err e) × (m ≡ failing o c.steps)
  fails_there c t m e p turns next fails =
      let here = fault_alike c.steps t e p next in
      let none = none_waits m e m.pending refl (sym (turns_next t m turns) ∙ next) in
      let same : with_pending [] m ≡ m = ap (λ es. with_pending es m) (sym none) in (
        here,
        sym (failing_alike o c.steps t e p here ∙ turns_failing t m turns
            ∙ failing_here o m e (ap (step_turn o) (sym same) ∙ fails)),
      )

  pub turn_fails : (m : StepState) (e : Fault) → step_turn o m ≡ Err e → next_event o m ≡ Err e
  unfolding next_event
  turn_fails m e is = ap (first_of o) (pieces_fails step_size (step_turn o) m e is)

  turns_then : (s t u : StepState) → TurnsTo o s t → TurnsTo o t u → TurnsTo o s u
  turns_then s t u no_turn more = more
  turns_then s t u (one_turn {next = v} is turns) more = one_turn is (turns_then v t u turns more)

  -- an anchor that gets the greatest number behind turns
  number_before : (renumbered : Bool) (s t : StepState) (e : Refused) → TurnsTo o s t → RefusesNumber renumbered o t e
      → RefusesNumber renumbered o s e
  number_before renumbered s t e turns left =
      let l = left.1 in (
        left.0,
        record {
          before = l.before;
          turns = turns_then s t l.before turns l.turns;
          anchor = l.anchor;
          name = l.name;
          named = l.named;
          begins_key = l.begins_key;
          behind = l.behind;
          front = l.front;
          after = l.after;
          taken = l.taken;
          gone = l.gone;
          last = l.last;
          refusal = l.refusal;
        },
      )

module _ {I : Type 0} (unread : I → Unread → Type 0) where
  pub stands_going : (s : Stepping I) (m : StepState) → StandsAhead unread s m → s.failed ≡ false
  stands_going s m (inl at) = at.going
  stands_going s m (inr held) = held.going

  module _ (old new : Stepping I) (o : OptionsData) (before : old.scanner.options ≡ o) (after : new.scanner.options ≡ o)
      (c : Calls) (g : GoesWithCalls unread old c) where
    going_ahead : AheadOf o c.steps g.steps
    going_ahead = subst (λ o. AheadOf o c.steps g.steps) before g.ahead

    going_between : c.between ≡ true → (g.steps ≡ c.steps) ⊎ NoneComes o c.steps
    going_between b = subst (λ o. (g.steps ≡ c.steps) ⊎ NoneComes o c.steps) before (g.between b)

    -- ---- an event

    record Went (e : PlainEvent) : Type 0 where
      behind : StepState
      stands : StandsAhead unread new behind
      there : next_event o g.steps ≡ Ok (Some e, behind)

    went_stands : (e : PlainEvent) → Went e → (old.failed ≡ false → new.first ≡ None) → SeenNext unread new e c
    went_stands e w first =
        let y = behind_of o c g.steps w.behind e going_ahead w.there in
        let d : Calls = noted e.kind (record c { steps = y.next }) in
        let is : d.steps ≡ y.next = noted_steps e.kind (record c { steps = y.next }) in
        let between : d.between ≡ true → (w.behind ≡ y.next) ⊎ NoneComes o y.next =
        λ b. any_between o (is_note e.kind) c g.steps y.next w.behind e refl going_ahead y.here w.there going_between
        (λ note. ap (λ (d : Calls). d.between) (sym (note_keeps e.kind (record c { steps = y.next }) note)) ∙ b) in
        record {
          steps = y.next;
          next = subst (λ o. next_event o c.steps ≡ Ok (Some e, y.next)) (sym after) y.here;
          goes = record {
            steps = w.behind;
            ahead = subst (λ o. AheadOf o d.steps w.behind) (sym after) (subst (λ u. AheadOf o u w.behind) (sym is)
                y.ahead);
            stands = w.stands;
            between = λ b. subst (λ o. (w.behind ≡ d.steps) ⊎ NoneComes o d.steps) (sym after)
                (subst (λ u. (w.behind ≡ u) ⊎ NoneComes o u) (sym is) (between b));
            told = λ b. first (stands_going old g.steps g.stands);
          };
        }

    waits_first : (e : PlainEvent) (es : List PlainEvent) (m : StepState) → m.pending ≡ e ∷ es
        → next_event o m ≡ Ok (Some e, with_pending es m)
    waits_first e es m is =
        ap (next_event o) (ap (λ es. with_pending es m) is) ∙ waits_next o m e es

    went_by : (x : Event × Span) (m : StepState) → StandsAhead unread old m
        → ((m : StepState) → StandsIn unread old m → GivesOr (option_map plain_event) (Ok (Some x))
        (StandsIn unread new) (next_event o m) (RefusesNumber old.renumbered o m))
        → ((m : StepState) → HoldsRefusal unread old m
        → GivesAhead unread (option_map plain_event) (Ok (Some x)) new m)
        → (behind : StepState) × StandsAhead unread new behind
        × (next_event o m ≡ Ok (Some (plain_event x), behind))
    went_by x m (inl at) known ahead = let k = known m at in (k.0, inl k.1, k.2)
    went_by x m (inr held) known ahead =
        let a = ahead m held in
        let event : a.0 ≡ plain_event x = let is = a.2 in cc in (
          with_pending a.1 m,
          inr a.4,
          waits_first a.0 a.1 m a.3 ∙ ap (λ (e : PlainEvent). Ok (Some e, with_pending a.1 m)) event,
        )

    pub goes_event : (x : Event × Span)
        → ((m : StepState) → StandsIn unread old m → GivesOr (option_map plain_event) (Ok (Some x))
        (StandsIn unread new) (next_event o m) (RefusesNumber old.renumbered o m))
        → ((m : StepState) → HoldsRefusal unread old m
        → GivesAhead unread (option_map plain_event) (Ok (Some x)) new m)
        → (old.failed ≡ false → new.first ≡ None) → SeenNext unread new (plain_event x) c
    goes_event x known ahead first =
        let w = went_by x g.steps g.stands known ahead in
        went_stands (plain_event x) (record { behind = w.0; stands = w.1; there = w.2 }) first

    -- ---- nothing

    pub goes_none : ((m : StepState) → StandsIn unread old m → GivesOr (option_map plain_event) (Ok None)
        (StandsIn unread new) (next_event o m) (RefusesNumber old.renumbered o m))
        → ((m : StepState) → HoldsRefusal unread old m → GivesAhead unread (option_map plain_event) (Ok None) new m)
        → (t : StepState) × (next_event new.scanner.options c.steps ≡ Ok (None, t))
    goes_none known ahead =
        let r = by g.stands in
        (r.0, subst (λ o. next_event o c.steps ≡ Ok (None, r.0)) (sym after) r.1)
      where
        by : StandsAhead unread old g.steps → (t : StepState) × (next_event o c.steps ≡ Ok (None, t))
        by (inl at) = let k = known g.steps at in none_alike o c.steps g.steps k.0 going_ahead k.2
        by (inr held) = absurd (let is = (ahead g.steps held).2 in cc)

    -- ---- a refusal

    fails_where : (e : Refused) (m : StepState) → FailsAt new.renumbered o m c e
        → FailsAt new.renumbered new.scanner.options m c e
    fails_where e m at = subst (λ o. FailsAt new.renumbered o m c e) (sym after) at

    -- under the options that stand
    fails_under : (e : Refused) (m : StepState) → RefusedIn unread new m e
        → FailsIn new.renumbered o (with_pending [] m) e
    fails_under e m refused = subst (λ o. FailsIn new.renumbered o (with_pending [] m) e) after refused.fails

    fails_by : (e : Refused) (m : StepState) → TurnsTo o g.steps m → next_event o g.steps ≡ Err e
        → RefusedIn unread new m e → FailsAt new.renumbered o m c e
    fails_by e m turns next refused =
        let under = fails_under e m refused in (
          under,
          elim under [
            | inl fails ↦ inl (fails_there o c g.steps m e going_ahead turns next fails)
            | inr left ↦ inr (g.steps, going_ahead, number left)
          ],
        )
      where
        number : RefusesNumber new.renumbered o (with_pending [] m) e → RefusesNumber new.renumbered o g.steps e
        number left =
            let none = none_waits o m e m.pending refl (sym (turns_next o g.steps m turns) ∙ next) in
            let same : with_pending [] m ≡ m = ap (λ es. with_pending es m) (sym none) in
            number_before o new.renumbered g.steps m e turns
            (subst (λ n. RefusesNumber new.renumbered o n e) same left)

    held_fails : (e : Refused) → g.steps.pending ≡ [] → RefusedIn unread new g.steps e
        → FailsAt new.renumbered o g.steps c e
    held_fails e none refused =
        let same : with_pending [] g.steps ≡ g.steps = ap (λ es. with_pending es g.steps) (sym none) in
        let under = fails_under e g.steps refused in (
          under,
          elim under [
            | inl fails ↦ inl (fails_there o c g.steps g.steps e going_ahead no_turn
                (turn_fails o g.steps e (ap (step_turn o) (sym same) ∙ fails)) fails)
            | inr left ↦ inr (g.steps, going_ahead, subst (λ n. RefusesNumber new.renumbered o n e) same left)
          ],
        )

    failed_there : (e : Refused) (m : StepState) → RefusedIn unread new m e → new.failed ≡ true
        → Failed unread new m e
    failed_there e m refused failed = record {
      stands = refused.stands;
      options = new.scanner.options;
      count = m.parser.count;
      fails = refused.fails;
      failed = failed;
    }

    pub goes_fault : (e : Refused) → new.failed ≡ true → new.renumbered ≡ old.renumbered
        → ((m : StepState) → StandsIn unread old m
        → GivesOr {X = Option (Event × Span)} (option_map plain_event) (Err e)
        (StandsIn unread new) (next_event o m) (RefusesNumber old.renumbered o m))
        → ((m : StepState) → StandsIn unread old m
        → Turned o m → RefusesLater {X = Option (Event × Span)} unread o (Err e) new m)
        → ((m : StepState) → HoldsRefusal unread old m
        → GivesAhead {X = Option (Event × Span)} unread (option_map plain_event) (Err e) new m)
        → Turned o g.steps → (e.kind ≡ NoMemory → ⊥) → (m : StepState) × Failed unread new m e
        × FailsAt new.renumbered new.scanner.options m c e
    goes_fault e failed renumbered known refused ahead turned other = by g.stands
      where
        later : RefusesLater {X = Option (Event × Span)} unread o (Err e) new g.steps
            → Fails e (next_event o g.steps) ⊎ RefusesNumber old.renumbered o g.steps e
            → (m : StepState) × Failed unread new m e × FailsAt new.renumbered new.scanner.options m c e
        later l (inl fails) =
            let x = l other in (
              x.0,
              failed_there e x.0 x.2 failed,
              fails_where e x.0 (fails_by e x.0 x.1 (fails other) x.2),
            )
        later l (inr left) =
            let x = l other in (
              x.0,
              failed_there e x.0 x.2 failed,
              fails_where e x.0 (
                fails_under e x.0 x.2,
                inr (
                  g.steps,
                  going_ahead,
                  subst (λ b. RefusesNumber b o g.steps e) (sym renumbered) left,
                ),
              ),
            )

        by : StandsAhead unread old g.steps
            → (m : StepState) × Failed unread new m e × FailsAt new.renumbered new.scanner.options m c e
        by (inl at) = later (refused g.steps at turned) (known g.steps at)
        by (inr held) =
            let a = ahead g.steps held in (
              g.steps,
              failed_there e g.steps a.1 failed,
              fails_where e g.steps (held_fails e a.0 a.1),
            )

    -- ---- whatever the stepper gives

    pub goes_reads : (r : Result (Option (Event × Span)) Refused) → IfErr r (λ e. new.failed ≡ true)
        → new.renumbered ≡ old.renumbered
        → ((m : StepState) → StandsIn unread old m → GivesOr (option_map plain_event) r (StandsIn unread new)
        (next_event o m) (RefusesNumber old.renumbered o m))
        → ((m : StepState) → StandsIn unread old m → Turned o m → RefusesLater unread o r new m)
        → ((m : StepState) → HoldsRefusal unread old m → GivesAhead unread (option_map plain_event) r new m)
        → (old.failed ≡ false → new.first ≡ None) → Turned o c.steps → ReadsNext unread (next_view r) new c
    goes_reads (Ok None) failed renumbered known refused ahead first turned = goes_none known ahead
    goes_reads (Ok (Some x)) failed renumbered known refused ahead first turned = goes_event x known ahead first
    goes_reads (Err e) failed renumbered known refused ahead first turned =
        goes_fault e failed renumbered known refused ahead (ahead_turned o c.steps g.steps going_ahead turned)

-- what the stepper gives, in a state of the machine
pub gives_view : (r : Result (Option (Event × Span)) Refused) (Lands : StepState → Type 0) (renumbered : Bool)
    (o : OptionsData) (m : StepState)
    → GivesOr (option_map plain_event) r Lands (next_event o m) (RefusesNumber renumbered o m)
    → GivesNext (next_view r) Lands renumbered o m
gives_view (Ok None) Lands renumbered o m g = g
gives_view (Ok (Some x)) Lands renumbered o m g = g
gives_view (Err e) Lands renumbered o m g = g

pub lost_view : {I : Type 0} (r : Result (Option (Event × Span)) Refused) (s : Stepping I)
    → IfErr r (λ e. e.kind ≡ NoMemory → s.refusal ≡ None) → NeverRevives (next_view r) s
lost_view (Ok None) s lost = tt
lost_view (Ok (Some x)) s lost = tt
lost_view (Err e) s lost = lost

pub ends_view : {I : Type 0} (r : Result (Option (Event × Span)) Refused) (s : Stepping I)
    → IfErr r (λ e. s.failed ≡ true) → EndsWith (next_view r) s
ends_view (Ok None) s e = tt
ends_view (Ok (Some x)) s e = tt
ends_view (Err e) s failed = failed
