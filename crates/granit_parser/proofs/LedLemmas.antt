-- Calls of the machine whose events are sent one behind the other.
use Rattle.std.proofs.Common.{◌≡◌, ◌⊎◌, inl, inr, Bool, true, false, true≢false, List, [], ◌∷◌, ◌++◌, Option, Some}
use Rattle.std.proofs.Common.{None, Result, Ok, Err, refl, sym, ap, subst, ◌∙◌}
use Rattle.std.specs.Result.{IsErrAnd}
use Rattle.granit_base.specs.Place.{Unread}
use Rattle.granit_base.specs.declared.place.Span.{Span}
use Rattle.granit_error.specs.FaultKind.{NoMemory}
use Rattle.granit_error.specs.OptionsData.{OptionsData}
use Rattle.granit_error.specs.Refused.{Refused}
use Rattle.granit_event.specs.declared.event.Event.{Event}
use Rattle.granit_event.specs.Events.{plain_event, plain_events}
use Rattle.granit_input.specs.Origin.{Origin}
use Rattle.granit_lexemes.specs.Outcome.{Fault}
use Rattle.granit_lexemes.specs.PlainEvent.{EventKind, DocumentEnd, DocumentStart, PlainEvent, StreamEnd}
use Rattle.granit_parser.proofs.DropLemmas.{seen_going}
use Rattle.granit_parser.proofs.FirstLemmas.{is_scan, scan_or}
use Rattle.granit_parser.proofs.InLemmas.{noted_refusal, open_seen}
use Rattle.granit_parser.proofs.SendLemmas.{both}
use Rattle.granit_parser.specs.Parsing.{IsOver, Next, Parsing}
use Rattle.granit_parser.specs.Receiving.{CallsFailed, CallsLeave, CallsLed, EndsSending, FirstCall, NoneLast, scanned}
use Rattle.granit_parser.specs.Recovering.{GivesCall, IsOpen, ParserIn}
use Rattle.granit_receivers.proofs.TakingLemmas.{took_more, took_none}
use Rattle.granit_receivers.specs.Sending.{is_last}
use Rattle.granit_receivers.specs.Taking.{Told, Took}
use Rattle.granit_receivers.specs.declared.error.TryLoadError.{TryLoadError}
use Rattle.granit_receivers.specs.declared.error.TryLoadError.TheVariants.{Scan, Receiver}
use Rattle.granit_recovery.proofs.RecoveryLaws.{noted_fault}
use Rattle.granit_recovery.specs.Streams.{CallsGive, ReachedByCalls, gives_next, gives_none, reached_call}
use Rattle.granit_restart.specs.Calls.{Calls, GivenByCall, given_by, next_call, noted}
use Rattle.granit_sourced.proofs.CallLemmas.{call_going}
use Rattle.granit_sourced.specs.Going.{FailsAt}
use Rattle.granit_sourced.specs.Sources.{TellsSource}
use Rattle.granit_steps.specs.Steps.{StepState, next_event}

-- ---- in the machine

-- one more is given
pub gives_on : {o : OptionsData} {c d after : Calls} {e : PlainEvent} {es : List PlainEvent} → CallsGive o c es d
    → next_call o d ≡ (Some (Ok e), after) → CallsGive o c (es ++ (e ∷ [])) after
gives_on gives_none call = gives_next call gives_none
gives_on (gives_next first rest) call = gives_next first (gives_on rest call)

not_over : (multi : Bool) (kind : EventKind) (c : Calls) → is_last multi kind ≡ false → (noted kind c).over ≡ c.over
not_over multi StreamEnd c e = absurd (cc)
not_over multi (DocumentStart explicit version) c e = refl
not_over multi DocumentEnd c e = refl
not_over multi kind c e = refl

same_event : (x y : PlainEvent) → ◌≡◌ {A = GivenByCall} (Some (Ok x)) (Some (Ok y)) → x ≡ y
same_event x y e = cc

-- one more isn't the last that is sent
none_more : (multi : Bool) (es : List PlainEvent) (e : PlainEvent) → NoneLast multi es → is_last multi e.kind ≡ false
    → NoneLast multi (es ++ (e ∷ []))
none_more multi [] e before more = (more, tt)
none_more multi (f ∷ es) e before more = (before.0, none_more multi es e before.1 more)

-- what is asked of the last event that was sent, where not all was
pub unasked : {A : Type 0} → false ≡ true → A
unasked e = absurd (true≢false (sym e))

-- behind an event that isn't the last that is sent, calls go on
module _ (o : OptionsData) (multi : Bool) (c d : Calls) (e : PlainEvent) (is : IsOpen c)
    (more : is_last multi e.kind ≡ false) where
  open_by : (r : Result (Option PlainEvent × StepState) Fault) → given_by o c r ≡ (Some (Ok e), d) → IsOpen d
  open_by (Ok (Some f, t)) same =
      let this : f ≡ e = same_event f e (ap (λ (x : GivenByCall × Calls). x.0) same) in
      let goes = sym (ap (λ (x : PlainEvent). is_last multi x.kind) (sym this)) ∙ more in
      let behind : Calls = record c { steps = t } in
      subst IsOpen (ap (λ (x : GivenByCall × Calls). x.1) same) (record {
        over = not_over multi f.kind behind goes ∙ is.over;
        fault = noted_fault f.kind behind ∙ is.fault;
        refusal = noted_refusal f.kind behind ∙ is.refusal;
      })
  open_by (Ok (None, t)) same = absurd (let f = ap (λ (x : GivenByCall × Calls). x.0) same in cc)
  open_by (Err f) same = absurd (let g = ap (λ (x : GivenByCall × Calls). x.0) same in cc)

  pub open_behind : next_call o c ≡ (Some (Ok e), d) → IsOpen d
  open_behind call =
      open_by (next_event o c.steps) (sym (call_going o c is.over is.fault is.refusal) ∙ call)

-- ---- in the code

-- what a call gives: what the machine's call gives, or the error of the source
abbrev pub CalledOr : {I : Type 0} → (I → Unread → Type 0) → (I → Origin) → (now : Parsing I) → Next
    → (after : Parsing I) → Type 0
CalledOr unread origin now r after =
    (c : Calls) → ReachedByCalls now.stepper.scanner.options c → IsOpen c → ParserIn unread now c
    → GivesCall unread r after c ⊎ TellsSource origin r after.stepper.scanner.cursor

-- so far calls gave what was sent, and the parser is where they led
pub record LedFirst {I : Type 0} (unread : I → Unread → Type 0) (o : OptionsData) (multi : Bool) (c : Calls)
    (now : Parsing I) (old new : Told) : Type 0 where
  pub sent : List (Event × Span)
  pub took : Took old new sent
  pub before : NoneLast multi (plain_events sent)
  pub calls : Calls
  pub gives : CallsGive o c (plain_events sent) calls
  pub reached : ReachedByCalls o calls
  pub opened : IsOpen calls
  pub stands : ParserIn unread now calls

pub led_nowhere : {I : Type 0} (unread : I → Unread → Type 0) (o : OptionsData) (multi : Bool) (c : Calls)
    (p : Parsing I) (t : Told) → ReachedByCalls o c → IsOpen c → ParserIn unread p c → LedFirst unread o multi c p t t
led_nowhere unread o multi c p t reached is at = record {
  sent = [];
  took = took_none t;
  before = tt;
  calls = c;
  gives = gives_none;
  reached = reached;
  opened = is;
  stands = at;
}

module _ {I : Type 0} (unread : I → Unread → Type 0) (origin : I → Origin) (o : OptionsData) (c : Calls)
    (now after : Parsing I) (multi : Bool) (old mid new : Told) (same : now.stepper.scanner.options ≡ o)
    (kept : after.stepper.scanner.options ≡ o) (s : LedFirst unread o multi c now old mid) where
  gave : (r : Next) → CalledOr unread origin now r after
      → GivesCall unread r after s.calls ⊎ TellsSource origin r after.stepper.scanner.cursor
  gave r called = called s.calls (subst (λ q. ReachedByCalls q s.calls) (sym same) s.reached) s.opened s.stands

  record GaveEvent (x : Event × Span) : Type 0 where
    calls : Calls
    call : next_call o s.calls ≡ (Some (Ok (plain_event x)), calls)
    stands : ParserIn unread after calls

  gave_event : (x : Event × Span) → CalledOr unread origin now (Some (Ok x)) after → GaveEvent x
  gave_event x called = by (gave (Some (Ok x)) called)
    where
      by : GivesCall unread (Some (Ok x)) after s.calls
          ⊎ TellsSource {X = Event × Span} origin (Some (Ok x)) after.stepper.scanner.cursor → GaveEvent x
      by (inl g) = record {
        calls = g.0;
        call = subst (λ q. next_call q s.calls ≡ (Some (Ok (plain_event x)), g.0)) kept g.1;
        stands = g.2;
      }
      by (inr none) = absurd none

  gives_all : (x : Event × Span) (g : GaveEvent x) → CallsGive o c (plain_events (s.sent ++ (x ∷ []))) g.calls
  gives_all x g = subst (λ es. CallsGive o c es g.calls) (sym (both s.sent (x ∷ []))) (gives_on s.gives g.call)

  -- one more is sent
  pub led_event : (x : Event × Span) → CalledOr unread origin now (Some (Ok x)) after
      → is_last multi (plain_event x).kind ≡ false → Took mid new (x ∷ []) → LedFirst unread o multi c after old new
  led_event x called more takes =
      let g = gave_event x called in
      record {
        sent = s.sent ++ (x ∷ []);
        took = took_more old mid new s.sent (x ∷ []) s.took takes;
        before = subst (NoneLast multi) (sym (both s.sent (x ∷ [])))
            (none_more multi (plain_events s.sent) (plain_event x) s.before more);
        calls = g.calls;
        gives = gives_all x g;
        reached = subst (λ (y : GivenByCall × Calls). ReachedByCalls o y.1) g.call (reached_call s.reached);
        opened = open_behind o multi s.calls g.calls (plain_event x) s.opened more g.call;
        stands = g.stands;
      }

  ends_sending : (all : Bool) (x : Event × Span) → (all ≡ true → is_last multi (plain_event x).kind ≡ true)
      → EndsSending multi all (plain_events (s.sent ++ (x ∷ [])))
  ends_sending all x last = record {
    front = plain_events s.sent;
    event = plain_event x;
    is = both s.sent (x ∷ []);
    before = s.before;
    last = last;
  }

  -- the last one is, or one that the receiver refuses
  pub led_last : (x : Event × Span) → CalledOr unread origin now (Some (Ok x)) after → Took mid new (x ∷ [])
      → (all : Bool) → (all ≡ true → is_last multi (plain_event x).kind ≡ true)
      → CallsLed unread o multi all (Took old new) after c
  led_last x called takes all last =
      let g = gave_event x called in (
        s.sent ++ (x ∷ []),
        took_more old mid new s.sent (x ∷ []) s.took takes,
        ends_sending all x last,
        (g.calls, gives_all x g, g.stands),
      )

  -- none is left
  pub led_none : (all : Bool) → CalledOr unread origin now None after
      → CallsLed unread o multi all (Took old mid) after c
  led_none all called = absurd (elim (gave None called) [ inl none ↦ none | inr source ↦ source ])

  -- a refusal follows
  pub led_fault : (e : Refused) → CalledOr unread origin now (Some (Err e)) after
      → CallsFailed unread origin o multi (Took old mid) after c e
  led_fault e called = by (gave (Some (Err e)) called)
    where
      by : GivesCall unread (Some (Err e)) after s.calls
          ⊎ TellsSource {X = Event × Span} origin (Some (Err e)) after.stepper.scanner.cursor
          → CallsFailed unread origin o multi (Took old mid) after c e
      by (inl g) = inl (λ other.
          let x = g other in (
            s.sent,
            s.took,
            s.before,
            (
              s.calls,
              s.gives,
              (x.0, subst (λ q. FailsAt after.stepper.renumbered q x.0 s.calls e) kept x.1, x.2),
            ),
          ))
      by (inr source) = inr source

-- memory runs out
pub led_no_more : {I : Type 0} (unread : I → Unread → Type 0) (origin : I → Origin) (o : OptionsData) (multi : Bool)
    (Takes : List (Event × Span) → Type 0) (p : Parsing I) (c : Calls) (e : Refused) → e.kind ≡ NoMemory
    → CallsFailed unread origin o multi Takes p c e
led_no_more unread origin o multi Takes p c e is = inl (λ other. absurd (other is))

-- ---- the first event

-- a parser that is over is where no open calls led
pub over_closed : {I : Type 0} (unread : I → Unread → Type 0) (p : Parsing I) (c : Calls) → IsOver p → IsOpen c
    → ParserIn unread p c → ⊥
over_closed unread p c over is at =
    true≢false (sym over.failed ∙ seen_going unread p.peeked p.stepper c (open_seen unread p c is at))

module _ {I : Type 0} (unread : I → Unread → Type 0) (origin : I → Origin) (now p : Parsing I) (c : Calls)
    (reached : ReachedByCalls now.stepper.scanner.options c) (is : IsOpen c) (at : ParserIn unread now c) where
  -- it is the next call's
  pub first_given : (r : Result (Event × Span) Refused) → CalledOr unread origin now (Some r) p
      → FirstCall unread origin r p c
  first_given (Ok x) called = elim (called c reached is at) [ inl g ↦ g | inr source ↦ absurd source ]
  first_given (Err e) called = called c reached is at

  -- there is one
  pub first_again : (r : Result (Event × Span) Refused) → CalledOr unread origin now None p
      → FirstCall unread origin r p c
  first_again r called = absurd (elim (called c reached is at) [ inl none ↦ none | inr source ↦ source ])

module _ {I : Type 0} (unread : I → Unread → Type 0) (origin : I → Origin) (o : OptionsData) (c : Calls)
    (p : Parsing I) (kept : p.stepper.scanner.options ≡ o) where
  -- it is all that is sent
  pub first_led : (multi all : Bool) (old new : Told) (x : Event × Span)
      → (all ≡ true → is_last multi (plain_event x).kind ≡ true) → FirstCall unread origin (Ok x) p c
      → Took old new (x ∷ []) → CallsLed unread o multi all (Took old new) p c
  first_led multi all old new x last g takes =
      let call = subst (λ q. next_call q c ≡ (Some (Ok (plain_event x)), g.0)) kept g.1 in
      let ends : EndsSending multi all (plain_event x ∷ []) =
      record { front = []; event = plain_event x; is = refl; before = tt; last = last } in
      (x ∷ [], takes, ends, (g.0, gives_next call gives_none, g.2))

  -- a refusal comes first
  module _ (multi : Bool) (told : Told) (e : Refused) (first : FirstCall unread origin (Err e) p c) where
    none_led : (f : Refused) → f ≡ e → CallsFailed unread origin o multi (Took told told) p c f
    none_led f is =
        subst (λ (g : Refused). CallsFailed unread origin o multi (Took told told) p c g) (sym is) (by first)
      where
        by : FirstCall unread origin (Err e) p c → CallsFailed unread origin o multi (Took told told) p c e
        by (inl g) = inl (λ other.
            let x = g other in (
              [],
              took_none told,
              tt,
              (c, gives_none, (x.0, subst (λ q. FailsAt p.stepper.renumbered q x.0 c e) kept x.1, x.2)),
            ))
        by (inr source) = inr source

    pub load_failed : {X : Type 0} (r : Result X Refused) → IsErrAnd r (λ f. f ≡ e)
        → CallsLeave unread origin o multi (Took told told) (Some r) p c
    load_failed (Ok x) so = absurd so
    load_failed (Err f) so = none_led f so

    pub try_failed : {X E : Type 0} (r : Result X (TryLoadError E)) → IsErrAnd r (λ f. f ≡ Scan e)
        → CallsLeave unread origin o multi (Took told told) (scanned r) p c
    try_failed (Ok x) so = absurd so
    try_failed (Err (Scan f)) so = none_led f (ap (scan_or e) so)
    try_failed (Err (Receiver f)) so = absurd (true≢false (sym (ap is_scan so)))

  -- others come behind it
  module _ (multi : Bool) (old mid new : Told) (x : Event × Span) (more : is_last multi (plain_event x).kind ≡ false)
      (takes : Took old mid (x ∷ [])) (q : Parsing I) {X : Type 0} (r : Option (Result X Refused)) where
    ends_behind : (all : Bool) (xs : List (Event × Span)) → EndsSending multi all (plain_events xs)
        → EndsSending multi all (plain_events (x ∷ xs))
    ends_behind all xs e = record {
      front = plain_event x ∷ e.front;
      event = e.event;
      is = ap (λ ys. plain_event x ∷ ys) e.is;
      before = (more, e.before);
      last = e.last;
    }

    led_behind : (all : Bool) (d : Calls) → next_call o c ≡ (Some (Ok (plain_event x)), d)
        → CallsLed unread o multi all (Took mid new) q d → CallsLed unread o multi all (Took old new) q c
    led_behind all d call l = (
      x ∷ l.0,
      took_more old mid new (x ∷ []) l.0 takes l.1,
      ends_behind all l.0 l.2,
      (l.3.0, gives_next call l.3.1, l.3.2),
    )

    behind : (d : Calls) → next_call o c ≡ (Some (Ok (plain_event x)), d) → (r : Option (Result X Refused))
        → CallsLeave unread origin o multi (Took mid new) r q d → CallsLeave unread origin o multi (Took old new) r q c
    behind d call None led = led_behind false d call led
    behind d call (Some (Ok y)) led = led_behind true d call led
    behind d call (Some (Err e)) (inl l) = inl (λ other.
        let y = l other in (
          x ∷ y.0,
          took_more old mid new (x ∷ []) y.0 takes y.1,
          (more, y.2),
          (y.3.0, gives_next call y.3.1, y.3.2),
        ))
    behind d call (Some (Err e)) (inr source) = inr source

    pub leaves_behind : FirstCall unread origin (Ok x) p c → ReachedByCalls o c → IsOpen c
        → ((d : Calls) → ReachedByCalls p.stepper.scanner.options d → IsOpen d → ParserIn unread p d
        → CallsLeave unread origin p.stepper.scanner.options multi (Took mid new) r q d)
        → CallsLeave unread origin o multi (Took old new) r q c
    leaves_behind g reached is rest =
        let call = subst (λ q. next_call q c ≡ (Some (Ok (plain_event x)), g.0)) kept g.1 in
        let there = subst (λ (y : GivenByCall × Calls). ReachedByCalls o y.1) call (reached_call reached) in
        let left = rest g.0 (subst (λ q. ReachedByCalls q g.0) (sym kept) there)
        (open_behind o multi c g.0 (plain_event x) is more call) g.2 in
        behind g.0 call r (subst (λ w. CallsLeave unread origin w multi (Took mid new) r q g.0) kept left)
