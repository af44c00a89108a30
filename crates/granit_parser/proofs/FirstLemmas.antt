-- What is sent first, and what behind it.
use Rattle.std.proofs.Common.{◌≡◌, ◌⊎◌, inl, inr, Bool, true, false, true≢false, List, [], ◌∷◌, Some, None}
use Rattle.std.proofs.Common.{Result, Ok, Err, sym, ap, subst, ◌∙◌}
use Rattle.std.specs.Result.{IsErrAnd}
use Rattle.granit_base.specs.Place.{Mark, Unread}
use Rattle.granit_base.specs.declared.place.Span.{Span}
use Rattle.granit_error.specs.OptionsData.{OptionsData}
use Rattle.granit_error.specs.Refused.{Refused}
use Rattle.granit_event.specs.declared.event.Event.{Event}
use Rattle.granit_event.specs.Events.{plain_event, plain_events}
use Rattle.granit_input.specs.Origin.{Origin}
use Rattle.granit_lexemes.specs.PlainEvent.{PlainEvent, StreamEnd, event_on}
use Rattle.granit_parser.specs.Parsing.{IsOver, Next, Parsing, StandsAt, StandsBefore}
use Rattle.granit_parser.specs.Receiving.{none_sent, sent_on, sends_last, sends_on, SendsSome, end_again}
use Rattle.granit_parser.specs.Receiving.{sends_some, SendsUpTo, up_to_end_again, up_to_this, IsPlaceOf}
use Rattle.granit_receivers.specs.Sending.{is_last}
use Rattle.granit_parser.specs.Receiving.{Loads, LoadsRest, RefusalIn, RefusesBehind, Tries, TriesRest}
use Rattle.granit_receivers.proofs.TakingLemmas.{took_more, took_none}
use Rattle.granit_receivers.specs.Taking.{Told, Took}
use Rattle.granit_receivers.specs.declared.error.TryLoadError.{TryLoadError}
use Rattle.granit_receivers.specs.declared.error.TryLoadError.TheVariants.{Scan, Receiver}
use Rattle.granit_stepper.specs.Stepping.{StandsIn}
use Rattle.granit_steps.specs.Steps.{StepState, next_event}

-- a parser that is over stands in no state
pub over_nowhere : {I : Type 0} (unread : I → Unread → Type 0) (p : Parsing I) (m : StepState) → IsOver p
    → StandsAt unread p m → ⊥
over_nowhere unread p m over at =
    let s : StandsIn unread p.stepper m = subst (λ (r : Next). StandsBefore unread r p.stepper m) over.none at in
    true≢false (sym over.failed ∙ s.going)

abbrev pub scan_or : {E : Type 0} → Refused → TryLoadError E → Refused
scan_or e (Scan f) = f
scan_or e (Receiver f) = e

abbrev pub is_scan : {E : Type 0} → TryLoadError E → Bool
is_scan (Scan f) = true
is_scan (Receiver f) = false

-- what is sent first: the next event, or the end of the stream once more
abbrev pub IsFirst : OptionsData → (Mark → Type 0) → StepState → PlainEvent → StepState → Type 0
IsFirst o IsPlace m e next =
    (next_event o m ≡ Ok (Some e, next))
    ⊎ ((next_event o m ≡ Ok (None, next)) × ((mark : Mark) × IsPlace mark × (e ≡ event_on StreamEnd mark)))

-- behind what is not the last, the machine goes on
pub goes_behind : (o : OptionsData) (multi : Bool) (IsPlace : Mark → Type 0) (m next : StepState) (e : PlainEvent)
    → is_last multi e.kind ≡ false → IsFirst o IsPlace m e next → next_event o m ≡ Ok (Some e, next)
goes_behind o multi IsPlace m next e more (inl is) = is
goes_behind o multi IsPlace m next e more (inr end) =
    absurd (true≢false (sym (ap (λ (x : PlainEvent). is_last multi x.kind) end.1.2) ∙ more))

module _ (o : OptionsData) (multi : Bool) (IsPlace : Mark → Type 0) (m next : StepState) (x : Event × Span) where
  -- the first one is the last one too
  pub first_is_last : is_last multi (plain_event x).kind ≡ true → IsFirst o IsPlace m (plain_event x) next
      → SendsSome o multi IsPlace m (plain_events (x ∷ [])) next
  first_is_last last (inl is) = sends_some is (sends_last is last)
  first_is_last last (inr end) =
      subst (λ (e : PlainEvent). SendsSome o multi IsPlace m (e ∷ []) next) (sym end.1.2) (end_again end.0 end.1.1)

  -- the receiver refuses the first one
  pub first_is_refused : IsFirst o IsPlace m (plain_event x) next
      → SendsUpTo o multi IsPlace m (plain_events (x ∷ [])) next
  first_is_refused (inl is) = up_to_this none_sent is
  first_is_refused (inr end) =
      subst (λ (e : PlainEvent). SendsUpTo o multi IsPlace m (e ∷ []) next) (sym end.1.2)
      (up_to_end_again end.0 end.1.1)

  -- the first one is sent, and then others
  pub up_to_behind : {es : List PlainEvent} {after : StepState} → is_last multi (plain_event x).kind ≡ false
      → next_event o m ≡ Ok (Some (plain_event x), next) → SendsUpTo o multi (λ mark. ⊥) next es after
      → SendsUpTo o multi IsPlace m (plain_event x ∷ es) after
  up_to_behind more is (up_to_end_again end place) = absurd place
  up_to_behind more is (up_to_this goes last) = up_to_this (sent_on is more goes) last

module _ {I : Type 0} (unread : I → Unread → Type 0) (origin : I → Origin) (o : OptionsData) (multi : Bool)
    (m next : StepState)
    (x : Event × Span) (old mid new : Told) (p : Parsing I) (more : is_last multi (plain_event x).kind ≡ false)
    (is : next_event o m ≡ Ok (Some (plain_event x), next)) (takes : Took old mid (x ∷ [])) where
  pub loads_behind : {X : Type 0} (r : Result X Refused) → LoadsRest unread origin o multi next (Took mid new) p r
      → Loads unread origin o multi m (Took old new) p r
  loads_behind (Ok y) rest = (
    x ∷ rest.0,
    took_more old mid new (x ∷ []) rest.0 takes rest.1,
    (rest.2.0, rest.2.1, sends_some is (sends_on is more rest.2.2)),
  )
  loads_behind (Err e) rest = (
    x ∷ rest.0,
    took_more old mid new (x ∷ []) rest.0 takes rest.1,
    (rest.2.0, sent_on is more rest.2.1, rest.2.2),
  )

  pub tries_behind : {X E : Type 0} (r : Result X (TryLoadError E))
      → TriesRest unread origin o multi next (Took mid new) p r → Tries unread origin o multi m (Took old new) p r
  tries_behind (Ok y) rest = (
    x ∷ rest.0,
    took_more old mid new (x ∷ []) rest.0 takes rest.1,
    (rest.2.0, rest.2.1, sends_some is (sends_on is more rest.2.2)),
  )
  tries_behind (Err (Scan e)) rest = (
    x ∷ rest.0,
    took_more old mid new (x ∷ []) rest.0 takes rest.1,
    (rest.2.0, sent_on is more rest.2.1, rest.2.2),
  )
  tries_behind (Err (Receiver e)) rest = (
    x ∷ rest.0,
    took_more old mid new (x ∷ []) rest.0 takes rest.1,
    (
      rest.2.0,
      rest.2.1,
      up_to_behind o multi (IsPlaceOf unread p.stepper.scanner.cursor) m next x more is rest.2.2,
    ),
  )

-- a refusal comes first
module _ {I : Type 0} (unread : I → Unread → Type 0) (origin : I → Origin) (o : OptionsData) (multi : Bool)
    (m : StepState) (told : Told) (p : Parsing I) (e : Refused) (fails : RefusalIn origin o m p e) where
  nothing_sent : (f : Refused) → f ≡ e → RefusesBehind origin o multi m (Took told told) p f
  nothing_sent f is =
      subst (λ (g : Refused). RefusesBehind origin o multi m (Took told told) p g) (sym is)
      ([], took_none told, (m, none_sent, fails))

  pub load_refused : {X : Type 0} (r : Result X Refused) → IsErrAnd r (λ f. f ≡ e)
      → Loads unread origin o multi m (Took told told) p r
  load_refused (Ok x) so = absurd so
  load_refused (Err f) so = nothing_sent f so

  pub try_refused : {X E : Type 0} (r : Result X (TryLoadError E)) → IsErrAnd r (λ f. f ≡ Scan e)
      → Tries unread origin o multi m (Took told told) p r
  try_refused (Ok x) so = absurd so
  try_refused (Err (Scan f)) so = nothing_sent f (ap (scan_or e) so)
  try_refused (Err (Receiver f)) so = absurd (true≢false (sym (ap is_scan so)))
