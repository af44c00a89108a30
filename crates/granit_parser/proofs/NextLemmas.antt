-- Recovery where it told of a document and nothing was given since: the next event is looked at first.
use Rattle.std.proofs.Common.{◌≡◌, ◌⊎◌, inl, inr, Bool, true, false, is_some, Option, Some, None, Result, Ok, Err, refl}
use Rattle.std.proofs.Common.{sym, ap, subst, ◌∙◌, not}
use Rattle.std.specs.Prelude.{IfOk}
use Rattle.granit_base.specs.Place.{Unread}
use Rattle.granit_base.specs.declared.place.Span.{Span}
use Rattle.granit_cursor.specs.Reading.{GoesOnward}
use Rattle.granit_error.specs.FaultKind.{NoMemory}
use Rattle.granit_error.specs.OptionsData.{OptionsData}
use Rattle.granit_error.specs.Refused.{Refused, UnlessMemory}
use Rattle.granit_event.specs.declared.event.Event.{Event}
use Rattle.granit_input.specs.Origin.{Origin}
use Rattle.granit_parser.proofs.DropLemmas.{seen_going}
use Rattle.granit_parser.proofs.InLemmas.{call_shows, open_seen, OpenGives, never_none}
use Rattle.granit_parser.specs.Parsing.{EndsBehind, Next, Parsing}
use Rattle.granit_parser.specs.Recovering.{comes_ahead, comes_here, failed_in, GivesSeen, IsNoted, IsOpen, MeetsNumber}
use Rattle.granit_parser.specs.Recovering.{ParserIn, Proceeds, ProceedsNext, ProceedsShown, SeenBy, ShowsFirst}
use Rattle.granit_parser.specs.Recovering.{StarvedLook}
use Rattle.granit_recovery.specs.Streams.{ReachedByCalls, reached_call}
use Rattle.granit_restart.specs.Ahead.{AheadOf}
use Rattle.granit_restart.specs.Calls.{Calls, failing, given_by}
use Rattle.granit_sourced.proofs.CallLemmas.{call_going}
use Rattle.granit_sourced.specs.Giving.{EndsWith}
use Rattle.granit_sourced.specs.Going.{FailsAt, GoesWithCalls, ReadsNext}
use Rattle.granit_sourced.specs.Sources.{NeverRevives, TellsSource}
use Rattle.granit_stepper.specs.Numbers.{RefusesNumber}
use Rattle.granit_stepper.specs.Stepping.{Stepping}
use Rattle.granit_steps.specs.Steps.{StepState, next_event}

-- behind a refusal that was given nothing is looked at
pub given_none : {I : Type 0} (r : Next) (given : Option Refused) (s : Stepping I) → EndsBehind r given s
    → s.failed ≡ false → given ≡ None
given_none r None s ends going = refl
given_none r (Some e) s ends going = absurd (let no : true ≡ false = sym ends.over.1 ∙ going in cc)

-- an answer is noted
pub noted_by : {I : Type 0} (q : Parsing I) (follows : Bool) (r : Result Bool Refused)
    → IfOk r (λ x. (x ≡ follows) × (q.between ≡ not follows)) → IfOk r (λ x. q.answered ≡ follows)
    → IfOk r (λ x. IsNoted x q)
noted_by q follows (Err e) is noted = tt
noted_by q follows (Ok true) is noted = noted ∙ sym is.0
noted_by q follows (Ok false) is noted = inl (noted ∙ sym is.0)

module _ {I : Type 0} (unread : I → Unread → Type 0) where
  -- ---- the look

  -- a refusal behind which recovery goes on isn't for want of memory, and any other is
  shown_refusal : (e : Refused) (q : Parsing I) (c : Calls) (refusal : Option _) → q.stepper.refusal ≡ refusal
      → IsOpen c → ReadsNext unread (Some (Err e)) q.stepper c → q.stepper.failed ≡ true
      → (e.kind ≡ NoMemory → q.stepper.refusal ≡ None) → q.given ≡ None
      → ((e.kind ≡ NoMemory → ⊥) → (m : _) × FailsAt q.stepper.renumbered q.stepper.scanner.options m c e
      × ParserIn unread q (failed_in m e c))
      → ShowsFirst unread (Some (Err e)) q c
  shown_refusal e q c None is opened reads failed lost given shown = inl (record {
    starved = λ other. let x = reads other in
        let f : true ≡ false = ap is_some (sym x.1.stands.is_kept ∙ is) in cc;
    failed = failed;
    refusal = is;
    given = given;
  })
  shown_refusal e q c (Some r) is opened reads failed lost given shown =
      inr (shown (λ memory. let f : true ≡ false = ap is_some (sym is ∙ lost memory) in cc))

  shown_by : (r : Next) (q : Parsing I) (c : Calls) → IsOpen c → ReadsNext unread r q.stepper c → q.peeked ≡ r
      → q.between ≡ c.between → q.over ≡ c.over → OpenGives q.stepper.scanner.options
      → ReachedByCalls q.stepper.scanner.options c → EndsWith r q.stepper → NeverRevives r q.stepper → q.given ≡ None
      → ShowsFirst unread r q c
  shown_by None q c opened reads seen between over gives reached ends lost given =
      call_shows unread None q c opened reads seen between over
      (never_none q.stepper.scanner.options q.stepper.scanner.options c refl gives reached opened)
  shown_by (Some (Ok x)) q c opened reads seen between over gives reached ends lost given = (
    call_shows unread (Some (Ok x)) q c opened reads seen between over
        (never_none q.stepper.scanner.options q.stepper.scanner.options c refl gives reached opened),
    (reads.steps, reads.next),
  )
  shown_by (Some (Err e)) q c opened reads seen between over gives reached ends lost given =
      shown_refusal e q c q.stepper.refusal refl opened reads ends lost given
      (call_shows unread (Some (Err e)) q c opened reads seen between over
      (never_none q.stepper.scanner.options q.stepper.scanner.options c refl gives reached opened))

  -- nothing was looked at before
  module _ (p t : Parsing I) (r : Next) (none : p.peeked ≡ None) (given : t.given ≡ p.given)
      (between : t.between ≡ p.between) (over : t.over ≡ p.over)
      (same : t.stepper.scanner.options ≡ p.stepper.scanner.options) where
    pub shows_first : EndsBehind p.peeked p.given p.stepper
        → ((c : Calls) → ReachedByCalls p.stepper.scanner.options c → GoesWithCalls unread p.stepper c
        → ReadsNext unread r t.stepper c)
        → EndsWith r t.stepper → NeverRevives r t.stepper → OpenGives p.stepper.scanner.options → (c : Calls)
        → ReachedByCalls p.stepper.scanner.options c → ParserIn unread p c → IsOpen c
        → ShowsFirst unread r (record t { peeked = r }) c
    shows_first behind reads ends lost gives c reached at opened =
        let seen = open_seen unread p c opened at in
        let going = seen_going unread p.peeked p.stepper c seen in
        shown_by r (record t { peeked = r }) c opened
        (reads c reached (subst (λ (w : Next). SeenBy unread w p.stepper c) none seen)) refl
        (between ∙ at.between opened) (over ∙ at.over) (subst OpenGives (sym same) gives)
        (subst (λ o. ReachedByCalls o c) (sym same) reached) ends lost
        (given ∙ given_none p.peeked p.given p.stepper behind going)

    -- behind a refusal nothing changes
    pub look_stays : t ≡ p → r ≡ None → record t { peeked = r } ≡ p
    look_stays is nothing =
        ap (λ (q : Parsing I). record q { peeked = r }) is
        ∙ ap (λ (w : Next). record p { peeked = w }) (nothing ∙ sym none)

  shown_before : (x : Result (Event × Span) Refused) (p : Parsing I) (c : Calls) → ParserIn unread p c
      → SeenBy unread (Some x) p.stepper c → ShowsFirst unread (Some x) p c
  shown_before (Ok x) p c at seen = (at, (seen.steps, seen.next))
  shown_before (Err e) p c at seen = absurd seen

  -- where something was looked at before
  pub shows_before : (p : Parsing I) (c : Calls) → ParserIn unread p c → IsOpen c → is_some p.peeked ≡ true
      → ShowsFirst unread p.peeked p c
  shows_before p c at opened seen = by p.peeked refl seen
    where
      by : (w : Next) → p.peeked ≡ w → is_some w ≡ true → ShowsFirst unread w p c
      by None is some = absurd (cc)
      by (Some x) is some =
          shown_before x p c at (subst (λ (w : Next). SeenBy unread w p.stepper c) is (open_seen unread p c opened at))

  -- ---- what comes behind it

  -- a fault that was looked at is that of the machine's next call
  failed_reached : (o : OptionsData) (m : StepState) (e : Refused) (c : Calls) → IsOpen c → ReachedByCalls o c
      → next_event o c.steps ≡ Err e → m ≡ failing o c.steps → ReachedByCalls o (failed_in m e c)
  failed_reached o m e c opened reached next is =
      let call = call_going o c opened.over opened.fault opened.refusal ∙ ap (given_by o c) next in
      subst (λ m. ReachedByCalls o (failed_in m e c)) (sym is)
      (subst (ReachedByCalls o) (ap (λ x. x.1) call) (reached_call reached))

  -- where nothing was looked at first
  pub from_same : (origin : I → Origin) (old p new : Parsing I) (r : Result Bool Refused) → p ≡ old
      → ((c : Calls) → ReachedByCalls p.stepper.scanner.options c → ParserIn unread p c
      → UnlessMemory r (Proceeds unread r p new c ⊎ TellsSource origin (Some r) new.stepper.scanner.cursor))
      → (c : Calls) → ReachedByCalls old.stepper.scanner.options c → ParserIn unread old c
      → UnlessMemory r (Proceeds unread r old new c ⊎ TellsSource origin (Some r) new.stepper.scanner.cursor)
  from_same origin old p new r same goes = subst (λ (p : Parsing I). (c : Calls)
      → ReachedByCalls p.stepper.scanner.options c → ParserIn unread p c
      → UnlessMemory r (Proceeds unread r p new c ⊎ TellsSource origin (Some r) new.stepper.scanner.cursor)) same goes

  module _ (origin : I → Origin) (old p new : Parsing I) (r : Result Bool Refused)
      (onward : GoesOnward unread old.stepper.scanner.cursor p.stepper.scanner.cursor)
      (same : p.stepper.scanner.options ≡ old.stepper.scanner.options)
      (number : p.stepper.renumbered ≡ old.stepper.renumbered)
      (options : new.stepper.scanner.options ≡ p.stepper.scanner.options)
      (renumbered : new.stepper.renumbered ≡ p.stepper.renumbered) where
    abbrev GoesOr : Type 0 → Type 0
    GoesOr Goes = UnlessMemory r (Goes ⊎ TellsSource origin (Some r) new.stepper.scanner.cursor)

    on_by : {A B : Type 0} (r : Result Bool Refused) → (A → B) → UnlessMemory r A → UnlessMemory r B
    on_by (Ok b) on goes = on goes
    on_by (Err e) on goes = λ other. on (goes other)

    then : {A B : Type 0} → (A → B) → GoesOr A → GoesOr B
    then {A = A} {B = B} on goes = on_by r step goes
      where
        step : A ⊎ TellsSource origin (Some r) new.stepper.scanner.cursor
            → B ⊎ TellsSource origin (Some r) new.stepper.scanner.cursor
        step (inl a) = inl (on a)
        step (inr told) = inr told

    always : {B : Type 0} (r : Result Bool Refused) → B → UnlessMemory r B
    always (Ok b) x = x
    always (Err e) x = λ other. x

    starved : (B : Type 0) (r : Result Bool Refused) (e : Refused) → StarvedLook p e → r ≡ Err e → UnlessMemory r B
    starved B (Ok b) e look same = absurd (cc)
    starved B (Err f) e look same =
        let is : f ≡ e = cc in
        λ other. absurd (look.starved (λ memory. other (ap (λ (x : Refused). x.kind) is ∙ memory)))

    meets : (c : Calls) (t : StepState) (e : Refused) → AheadOf p.stepper.scanner.options c.steps t
        → RefusesNumber p.stepper.renumbered p.stepper.scanner.options t e
        → MeetsNumber new.stepper.renumbered new.stepper.scanner.options c.steps
    meets c t e ahead refuses =
        subst (λ o. MeetsNumber new.stepper.renumbered o c.steps) (sym options)
        (subst (λ b. MeetsNumber b p.stepper.scanner.options c.steps) (sym renumbered)
        (t, e, comes_ahead comes_here ahead, refuses))

    abbrev Goes : Type 0
    Goes = (c : Calls) → ReachedByCalls p.stepper.scanner.options c → ParserIn unread p c
        → GoesOr (Proceeds unread r p new c)

    fault_by : (e : Refused) (c : Calls) (m : StepState) → p.peeked ≡ Some (Err e) → Goes
        → ReachedByCalls p.stepper.scanner.options c → IsOpen c
        → FailsAt p.stepper.renumbered p.stepper.scanner.options m c e → ParserIn unread p (failed_in m e c)
        → GoesOr (ProceedsNext unread r old new c)
    fault_by e c m is goes reached opened (fails, inl (next, at)) stands =
        let d = failed_in m e c in
        then (λ g. inl (
          p,
          onward,
          same,
          number,
          subst (λ (w : Next). ProceedsShown unread w r p new c) (sym is) (m, (fails, inl (next, at)), g),
        ))
        (goes d (failed_reached p.stepper.scanner.options m e c opened reached next at) stands)
    fault_by e c m is goes reached opened (fails, inr (t, ahead, refuses)) stands =
        always r (inl (inr (meets c t e ahead refuses)))

    by_shown : (w : Next) → p.peeked ≡ w → Goes
        → (p.stepper.failed ≡ true → p.stepper.refusal ≡ None → p.given ≡ None → GivesSeen w r) → (c : Calls)
        → ReachedByCalls p.stepper.scanner.options c → IsOpen c → ShowsFirst unread w p c
        → GoesOr (ProceedsNext unread r old new c)
    by_shown None is goes seen c reached opened shows = absurd shows
    by_shown (Some (Ok x)) is goes seen c reached opened shows =
        then (λ g. inl (
          p,
          onward,
          same,
          number,
          subst (λ (w : Next). ProceedsShown unread w r p new c) (sym is) (shows.1, g),
        ))
        (goes c reached shows.0)
    by_shown (Some (Err e)) is goes seen c reached opened (inl look) =
        starved _ r e look (seen look.failed look.refusal look.given)
    by_shown (Some (Err e)) is goes seen c reached opened (inr shows) =
        fault_by e c shows.0 is goes reached opened shows.1 shows.2

    pub proceeds_next : Goes
        → (p.stepper.failed ≡ true → p.stepper.refusal ≡ None → p.given ≡ None → GivesSeen p.peeked r) → (c : Calls)
        → ReachedByCalls p.stepper.scanner.options c → IsOpen c → ShowsFirst unread p.peeked p c
        → GoesOr (ProceedsNext unread r old new c)
    proceeds_next goes seen c reached opened shows = by_shown p.peeked refl goes seen c reached opened shows
