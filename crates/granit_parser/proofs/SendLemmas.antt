-- Events that are sent one behind the other.
use Rattle.std.proofs.Common.{◌≡◌, Bool, true, false, List, [], ◌∷◌, ◌++◌, Some, None, Ok, Err, sym, ◌⊎◌, inl, subst}
use Rattle.std.proofs.lemmas.List.{append-nil, map-append}
use Rattle.granit_base.specs.Place.{Unread, Mark}
use Rattle.granit_base.specs.declared.place.Span.{Span}
use Rattle.granit_error.specs.FaultKind.{NoMemory}
use Rattle.granit_error.specs.OptionsData.{OptionsData}
use Rattle.granit_error.specs.Refused.{Refused}
use Rattle.granit_event.specs.declared.event.Event.{Event}
use Rattle.granit_event.specs.Events.{plain_event, plain_events}
use Rattle.granit_input.specs.Origin.{Origin}
use Rattle.granit_lexemes.specs.PlainEvent.{PlainEvent}
use Rattle.granit_parser.proofs.SourceLemmas.{never_told}
use Rattle.granit_parser.specs.Parsing.{Next, Parsing, StandsAt}
use Rattle.granit_parser.specs.Receiving.{SendsOn, none_sent, sent_on, Sends, none_left, sends_last, sends_on}
use Rattle.granit_parser.specs.Receiving.{SendsUpTo, up_to_this, StandsBehindSent, RefusesBehind, RefusalIn}
use Rattle.granit_receivers.specs.Sending.{is_last}
use Rattle.granit_receivers.proofs.TakingLemmas.{took_none, took_more}
use Rattle.granit_receivers.specs.Taking.{Told, Took}
use Rattle.granit_sourced.specs.Giving.{GivesNext}
use Rattle.granit_sourced.specs.Sources.{TellsSource}
use Rattle.granit_steps.specs.Steps.{StepState, next_event}

-- ---- in the machine

-- one more is sent
pub goes_further : {o : OptionsData} {multi : Bool} {m n after : StepState} {e : PlainEvent} {es : List PlainEvent}
    → SendsOn o multi m es n → next_event o n ≡ Ok (Some e, after) → is_last multi e.kind ≡ false
    → SendsOn o multi m (es ++ (e ∷ [])) after
goes_further none_sent is more = sent_on is more none_sent
goes_further (sent_on first not_last rest) is more = sent_on first not_last (goes_further rest is more)

pub sends_behind : {o : OptionsData} {multi : Bool} {m n after : StepState} {es fs : List PlainEvent}
    → SendsOn o multi m es n → Sends o multi n fs after → Sends o multi m (es ++ fs) after
sends_behind none_sent sends = sends
sends_behind (sent_on first not_last rest) sends = sends_on first not_last (sends_behind rest sends)

-- ---- in the code

-- what a call gives: what the machine's step gives, or the error of the source
abbrev pub TookOr : {I : Type 0} → (I → Unread → Type 0) → (I → Origin) → (now : Parsing I) → Next → (after : Parsing I)
    → Type 0
TookOr unread origin now r after =
    (m : StepState) → StandsAt unread now m
    → GivesNext r (StandsAt unread after) after.stepper.renumbered now.stepper.scanner.options m
    ⊎ TellsSource origin r after.stepper.scanner.cursor

abbrev pub both : (xs ys : List (Event × Span)) → plain_events (xs ++ ys) ≡ plain_events xs ++ plain_events ys
both xs ys = map-append plain_event xs ys

-- so far these events were sent, and the parser stands behind them
pub record SentFirst {I : Type 0} (unread : I → Unread → Type 0) (initial now : Parsing I) (multi : Bool)
    (old new : Told) : Type 0 where
  pub sent : List (Event × Span)
  pub took : Took old new sent
  pub stands : (m : StepState) → StandsAt unread initial m
      → (n : StepState) × StandsAt unread now n
      × SendsOn initial.stepper.scanner.options multi m (plain_events sent) n

pub sent_none : {I : Type 0} (unread : I → Unread → Type 0) (p : Parsing I) (multi : Bool) (t : Told)
    → SentFirst unread p p multi t t
sent_none unread p multi t = record { sent = []; took = took_none t; stands = λ m at. (m, at, none_sent) }

module _ {I : Type 0} (unread : I → Unread → Type 0) (origin : I → Origin) (initial now after : Parsing I)
    (multi : Bool) (old mid new : Told)
    (same : now.stepper.scanner.options ≡ initial.stepper.scanner.options)
    (s : SentFirst unread initial now multi old mid) where
  -- the next event of the machine, in the first state's options
  next_is : (e : Event × Span) → TookOr unread origin now (Some (Ok e)) after → (m : StepState)
      → (at : StandsAt unread initial m)
      → (next : StepState) × StandsAt unread after next
      × (next_event initial.stepper.scanner.options (s.stands m at).0 ≡ Ok (Some (plain_event e), next))
  next_is e took m at =
      let n = s.stands m at in
      let t = never_told (took n.0 n.1) in (
        t.0,
        t.1,
        subst (λ (o : OptionsData). next_event o n.0 ≡ Ok (Some (plain_event e), t.0)) same t.2,
      )

  -- one more is sent
  pub sent_event : (e : Event × Span) → TookOr unread origin now (Some (Ok e)) after
      → is_last multi (plain_event e).kind ≡ false → Took mid new (e ∷ [])
      → SentFirst unread initial after multi old new
  sent_event e took more takes = record {
    sent = s.sent ++ (e ∷ []);
    took = took_more old mid new s.sent (e ∷ []) s.took takes;
    stands = λ m at.
        let n = s.stands m at in
        let t = next_is e took m at in (
          t.0,
          t.1,
          subst (λ es. SendsOn initial.stepper.scanner.options multi m es t.0) (sym (both s.sent (e ∷ [])))
              (goes_further n.2 t.2 more),
        );
  }

  -- the last one is
  pub sent_last : (e : Event × Span) → TookOr unread origin now (Some (Ok e)) after
      → is_last multi (plain_event e).kind ≡ true → Took mid new (e ∷ []) → (m : StepState)
      → StandsAt unread initial m
      → StandsBehindSent unread (Took old new) after (Sends initial.stepper.scanner.options multi m)
  sent_last e took last takes m at =
      let n = s.stands m at in
      let t = next_is e took m at in (
        s.sent ++ (e ∷ []),
        took_more old mid new s.sent (e ∷ []) s.took takes,
        (
          t.0,
          t.1,
          subst (λ es. Sends initial.stepper.scanner.options multi m es t.0) (sym (both s.sent (e ∷ [])))
              (sends_behind n.2 (sends_last t.2 last)),
        ),
      )

  -- one is that the receiver refuses
  pub sent_refused : (IsPlace : Mark → Type 0) (e : Event × Span) → TookOr unread origin now (Some (Ok e)) after
      → Took mid new (e ∷ []) → (m : StepState) → StandsAt unread initial m
      → StandsBehindSent unread (Took old new) after (SendsUpTo initial.stepper.scanner.options multi IsPlace m)
  sent_refused IsPlace e took takes m at =
      let n = s.stands m at in
      let t = next_is e took m at in (
        s.sent ++ (e ∷ []),
        took_more old mid new s.sent (e ∷ []) s.took takes,
        (
          t.0,
          t.1,
          subst (λ es. SendsUpTo initial.stepper.scanner.options multi IsPlace m es t.0) (sym (both s.sent (e ∷ [])))
              (up_to_this n.2 t.2),
        ),
      )

  -- none is left
  pub sent_all : TookOr unread origin now None after → (m : StepState) → StandsAt unread initial m
      → StandsBehindSent unread (Took old mid) after (Sends initial.stepper.scanner.options multi m)
  sent_all took m at =
      let n = s.stands m at in
      let t = never_told (took n.0 n.1) in (
        s.sent,
        s.took,
        (
          t.0,
          t.1,
          subst (λ es. Sends initial.stepper.scanner.options multi m es t.0) (append-nil (plain_events s.sent))
              (sends_behind n.2 (none_left (subst (λ (o : OptionsData). next_event o n.0 ≡ Ok (None, t.0)) same t.2))),
        ),
      )

  -- a refusal follows
  pub sent_fault : (e : Refused) → TookOr unread origin now (Some (Err e)) after → (m : StepState)
      → StandsAt unread initial m
      → RefusesBehind origin initial.stepper.scanner.options multi m (Took old mid) after e
  sent_fault e took m at =
      let n = s.stands m at in
      let refuses = subst (λ (o : OptionsData). RefusalIn origin o n.0 after e) same (took n.0 n.1) in
      (s.sent, s.took, (n.0, n.2, refuses))

  -- memory runs out
  pub sent_no_more : (e : Refused) → e.kind ≡ NoMemory → (m : StepState) → StandsAt unread initial m
      → RefusesBehind origin initial.stepper.scanner.options multi m (Took old mid) after e
  sent_no_more e is m at =
      let n = s.stands m at in
      (s.sent, s.took, (n.0, n.2, inl (inl (λ other. absurd (other is)))))
